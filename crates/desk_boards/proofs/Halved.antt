-- What the half-moves with their charges have of a list of half-moves and of the lists of the boards.
use Rattle.std.proofs.Common.{◌≡◌, ℕ, ◌≤◌, zero, suc, Bool, true, false, nat_eq, if◌then◌else◌, List, [], ◌∷◌, ◌++◌, map, filter, drop, refl, sym, ap, ◌∙◌, arith}
use Rattle.std.specs.List.{AllByRecursion}
use Rattle.std.proofs.lemmas.Bool.Decides.{nat_tests}
use Rattle.chess_model.specs.declared.moves.Move.{Move}
use Rattle.chess_model.specs.MoveList.{HalfMove, moves_of, on}
use Rattle.game_board.specs.declared.played.Played.{Played}
use Rattle.game_records.specs.declared.stored_game.Half.{Half}
use Rattle.game_records.specs.Replays.{without_charges}
use Rattle.desk_boards.specs.Halves.{first_charge, half_of, halves_from, list_on, played_of}
use Rattle.game_board.proofs.OwnMoves.{chosen}

-- what holds of both sides of a choice, each where it is taken, holds of the choice
pub by_choice : {X : Type 0} (P : X → Type 0) (b : Bool) (x y : X) → (b ≡ true → P x) → (b ≡ false → P y)
    → P (if b then x else y)
by_choice P true x y left right = left refl
by_choice P false x y left right = right refl

unchosen : {X : Type 0} (b : Bool) (x y : X) → b ≡ false → (if b then x else y) ≡ y
unchosen true x y e = cc
unchosen false x y e = refl

-- the half-moves are those of the list
pub without_charges-from : (one two : List Played) (T : List HalfMove) → without_charges (halves_from one two T) ≡ T
without_charges-from one two [] = refl
without_charges-from one two (h ∷ T) =
    by_choice (λ halves. without_charges halves ≡ h ∷ T) (nat_eq h.board 1)
    (half_of h one ∷ halves_from (drop 1 one) two T) (half_of h two ∷ halves_from one (drop 1 two) T)
    (λ own. ap (λ (U : List HalfMove). h ∷ U) (without_charges-from (drop 1 one) two T))
    (λ other. ap (λ (U : List HalfMove). h ∷ U) (without_charges-from one (drop 1 two) T))

-- a half-move of a board begins the moves of that board, and one of another board isn't among them
moves_of-own : (b : ℕ) (h : HalfMove) (T : List HalfMove) → nat_eq h.board b ≡ true
    → moves_of b (h ∷ T) ≡ h.what ∷ moves_of b T
moves_of-own b h T own =
    ap (λ (hs : List HalfMove). map (λ x. x.what) hs)
    (chosen (nat_eq h.board b) (h ∷ filter (λ x. nat_eq x.board b) T) (filter (λ x. nat_eq x.board b) T) own)

moves_of-else : (b : ℕ) (h : HalfMove) (T : List HalfMove) → nat_eq h.board b ≡ false
    → moves_of b (h ∷ T) ≡ moves_of b T
moves_of-else b h T other =
    ap (λ (hs : List HalfMove). map (λ x. x.what) hs)
    (unchosen (nat_eq h.board b) (h ∷ filter (λ x. nat_eq x.board b) T) (filter (λ x. nat_eq x.board b) T) other)

pub list_on-own : (b : ℕ) (h : Half) (halves : List Half) → nat_eq h.board b ≡ true
    → list_on b (h ∷ halves) ≡ played_of h ∷ list_on b halves
list_on-own b h halves own =
    ap (λ (hs : List Half). map played_of hs)
    (chosen (nat_eq h.board b) (h ∷ filter (λ x. nat_eq x.board b) halves) (filter (λ x. nat_eq x.board b) halves) own)

pub list_on-else : (b : ℕ) (h : Half) (halves : List Half) → nat_eq h.board b ≡ false
    → list_on b (h ∷ halves) ≡ list_on b halves
list_on-else b h halves other =
    ap (λ (hs : List Half). map played_of hs)
    (unchosen (nat_eq h.board b) (h ∷ filter (λ x. nat_eq x.board b) halves) (filter (λ x. nat_eq x.board b) halves)
    other)

-- each half-move is of board 1 or 2
abbrev pub AreOnTwo : List HalfMove → Type 0
AreOnTwo T = AllByRecursion (λ h. (1 ≤ h.board) × (h.board ≤ 2)) T

-- what isn't of board 1 is of board 2
pub second : (n : ℕ) → (1 ≤ n) × (n ≤ 2) → nat_eq n 1 ≡ false → nat_eq n 2 ≡ true
second zero range other = absurd (omega (arith, range.0))
second (suc zero) range other = cc
second (suc (suc zero)) range other = refl
second (suc (suc (suc n))) range other = absurd (omega (arith, range.1))

pub not_second : (n : ℕ) → nat_eq n 1 ≡ true → nat_eq n 2 ≡ false
not_second n own = grind (arith, nat_tests, own)

-- a list whose moves begin so begins with the half-move that has this charge
begins_with : (list : List Played) (m : Move) (ms : List Move) → m ∷ ms ≡ map (λ p. p.what) list →
    list ≡ record { what = m; charge = first_charge list } ∷ drop 1 list
begins_with [] m ms e = cc
begins_with (p ∷ list) m ms e =
    let same : m ≡ p.what = cc in λ i. record { what = sym same i; charge = p.charge } ∷ list

rest_of : (list : List Played) (m : Move) (ms : List Move) → m ∷ ms ≡ map (λ p. p.what) list
    → ms ≡ map (λ p. p.what) (drop 1 list)
rest_of [] m ms e = cc
rest_of (p ∷ list) m ms e = cc

none_left : (list : List Played) → [] ≡ map (λ (p : Played). p.what) list → list ≡ []
none_left [] e = refl
none_left (p ∷ list) e = cc

-- those of board 1 are its list
pub list_on-one : (one two : List Played) (T : List HalfMove) → moves_of 1 T ≡ map (λ p. p.what) one
    → list_on 1 (halves_from one two T) ≡ one
list_on-one one two [] same = sym (none_left one same)
list_on-one one two (h ∷ T) same =
    by_choice (λ halves. list_on 1 halves ≡ one) (nat_eq h.board 1)
    (half_of h one ∷ halves_from (drop 1 one) two T) (half_of h two ∷ halves_from one (drop 1 two) T)
    (λ own. let first = sym (moves_of-own 1 h T own) ∙ same in
    list_on-own 1 (half_of h one) (halves_from (drop 1 one) two T) own
    ∙ ap (λ (l : List Played). played_of (half_of h one) ∷ l)
    (list_on-one (drop 1 one) two T (rest_of one h.what (moves_of 1 T) first))
    ∙ sym (begins_with one h.what (moves_of 1 T) first))
    (λ other.
    list_on-else 1 (half_of h two) (halves_from one (drop 1 two) T) other
    ∙ list_on-one one (drop 1 two) T (sym (moves_of-else 1 h T other) ∙ same))

-- and those of board 2
pub list_on-two : (one two : List Played) (T : List HalfMove) → AreOnTwo T → moves_of 2 T ≡ map (λ p. p.what) two
    → list_on 2 (halves_from one two T) ≡ two
list_on-two one two [] on_two same = sym (none_left two same)
list_on-two one two (h ∷ T) on_two same =
    by_choice (λ halves. list_on 2 halves ≡ two) (nat_eq h.board 1)
    (half_of h one ∷ halves_from (drop 1 one) two T) (half_of h two ∷ halves_from one (drop 1 two) T)
    (λ first. let other = not_second h.board first in
    list_on-else 2 (half_of h one) (halves_from (drop 1 one) two T) other
    ∙ list_on-two (drop 1 one) two T on_two.1 (sym (moves_of-else 2 h T other) ∙ same))
    (λ not_first. let own = second h.board on_two.0 not_first in
    let begins = sym (moves_of-own 2 h T own) ∙ same in
    list_on-own 2 (half_of h two) (halves_from one (drop 1 two) T) own
    ∙ ap (λ (l : List Played). played_of (half_of h two) ∷ l)
    (list_on-two one (drop 1 two) T on_two.1 (rest_of two h.what (moves_of 2 T) begins))
    ∙ sym (begins_with two h.what (moves_of 2 T) begins))

-- a half-move of a record on a board
abbrev pub half_on : ℕ → Played → Half
half_on number p = record { board = number; what = p.what; charge = p.charge }

drop_more : (list : List Played) (p : Played) (m : Move) (ms : List Move) → m ∷ ms ≡ map (λ q. q.what) list
    → drop 1 (list ++ p ∷ []) ≡ drop 1 list ++ p ∷ []
drop_more [] p m ms e = cc
drop_more (q ∷ list) p m ms e = refl

first_more : (list : List Played) (p : Played) (m : Move) (ms : List Move) → m ∷ ms ≡ map (λ q. q.what) list
    → first_charge (list ++ p ∷ []) ≡ first_charge list
first_more [] p m ms e = cc
first_more (q ∷ list) p m ms e = refl

-- one half-move more of board 1 comes behind those there are, with its charge
pub halves_from-one : (one two : List Played) (T : List HalfMove) (p : Played) → moves_of 1 T ≡ map (λ q. q.what) one →
    halves_from (one ++ p ∷ []) two (T ++ on 1 p.what ∷ []) ≡ halves_from one two T ++ half_on 1 p ∷ []
halves_from-one one two [] p same =
    let none : one ≡ [] = none_left one same in
    ap (λ (l : List Played). halves_from (l ++ p ∷ []) two (on 1 p.what ∷ [])) none
halves_from-one one two (h ∷ T) p same =
    by_choice (λ halves. halves_from (one ++ p ∷ []) two (h ∷ T ++ on 1 p.what ∷ []) ≡ halves ++ half_on 1 p ∷ [])
    (nat_eq h.board 1)
    (half_of h one ∷ halves_from (drop 1 one) two T) (half_of h two ∷ halves_from one (drop 1 two) T)
    (λ own. let first = sym (moves_of-own 1 h T own) ∙ same in
    chosen (nat_eq h.board 1)
    (half_of h (one ++ p ∷ []) ∷ halves_from (drop 1 (one ++ p ∷ [])) two (T ++ on 1 p.what ∷ []))
    (half_of h two ∷ halves_from (one ++ p ∷ []) (drop 1 two) (T ++ on 1 p.what ∷ [])) own
    ∙ (λ i. record { board = h.board; what = h.what; charge = first_more one p h.what (moves_of 1 T) first i }
    ∷ halves_from (drop_more one p h.what (moves_of 1 T) first i) two (T ++ on 1 p.what ∷ []))
    ∙ ap (λ (l : List Half). half_of h one ∷ l)
    (halves_from-one (drop 1 one) two T p (rest_of one h.what (moves_of 1 T) first)))
    (λ other.
    unchosen (nat_eq h.board 1)
    (half_of h (one ++ p ∷ []) ∷ halves_from (drop 1 (one ++ p ∷ [])) two (T ++ on 1 p.what ∷ []))
    (half_of h two ∷ halves_from (one ++ p ∷ []) (drop 1 two) (T ++ on 1 p.what ∷ [])) other
    ∙ ap (λ (l : List Half). half_of h two ∷ l)
    (halves_from-one one (drop 1 two) T p (sym (moves_of-else 1 h T other) ∙ same)))

-- and so does one more of board 2
pub halves_from-two : (one two : List Played) (T : List HalfMove) (p : Played) → AreOnTwo T
    → moves_of 2 T ≡ map (λ q. q.what) two →
    halves_from one (two ++ p ∷ []) (T ++ on 2 p.what ∷ []) ≡ halves_from one two T ++ half_on 2 p ∷ []
halves_from-two one two [] p on_two same =
    let none : two ≡ [] = none_left two same in
    ap (λ (l : List Played). halves_from one (l ++ p ∷ []) (on 2 p.what ∷ [])) none
halves_from-two one two (h ∷ T) p on_two same =
    by_choice (λ halves. halves_from one (two ++ p ∷ []) (h ∷ T ++ on 2 p.what ∷ []) ≡ halves ++ half_on 2 p ∷ [])
    (nat_eq h.board 1)
    (half_of h one ∷ halves_from (drop 1 one) two T) (half_of h two ∷ halves_from one (drop 1 two) T)
    (λ first.
    chosen (nat_eq h.board 1)
    (half_of h one ∷ halves_from (drop 1 one) (two ++ p ∷ []) (T ++ on 2 p.what ∷ []))
    (half_of h (two ++ p ∷ []) ∷ halves_from one (drop 1 (two ++ p ∷ [])) (T ++ on 2 p.what ∷ [])) first
    ∙ ap (λ (l : List Half). half_of h one ∷ l)
    (halves_from-two (drop 1 one) two T p on_two.1 (sym (moves_of-else 2 h T (not_second h.board first)) ∙ same)))
    (λ not_first. let own = second h.board on_two.0 not_first in
    let begins = sym (moves_of-own 2 h T own) ∙ same in
    unchosen (nat_eq h.board 1)
    (half_of h one ∷ halves_from (drop 1 one) (two ++ p ∷ []) (T ++ on 2 p.what ∷ []))
    (half_of h (two ++ p ∷ []) ∷ halves_from one (drop 1 (two ++ p ∷ [])) (T ++ on 2 p.what ∷ [])) not_first
    ∙ (λ i. record { board = h.board; what = h.what; charge = first_more two p h.what (moves_of 2 T) begins i }
    ∷ halves_from one (drop_more two p h.what (moves_of 2 T) begins i) (T ++ on 2 p.what ∷ []))
    ∙ ap (λ (l : List Half). half_of h two ∷ l)
    (halves_from-two one (drop 1 two) T p on_two.1 (rest_of two h.what (moves_of 2 T) begins)))
