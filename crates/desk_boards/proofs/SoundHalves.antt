-- The half-moves of sound boards, with their charges, are those of the boards.
use Rattle.std.proofs.Common.{◌≡◌, ◌≢◌, ℕ, ◌+◌, ◌≤◌, suc, true, false, nat_eq, List, [], ◌∷◌, map, length, drop, All, refl, sym, ap, ◌∙◌, arith}
use Rattle.std.specs.List.{AllByRecursion, filter}
use Rattle.std.proofs.lemmas.List.{length-map}
use Rattle.std.proofs.lemmas.List.Sums.{count_by-le-length, length-filter}
use Rattle.std.proofs.lemmas.List.Elements.{All-nil, All-cons, All-head, All-tail}
use Rattle.chess_model.specs.declared.variant.Terms.{Terms}
use Rattle.chess_model.specs.declared.variant.Variant.{Variant}
use Rattle.chess_model.specs.declared.variant.Variant.TheVariants.{Chess, Crazyhouse, Bughouse, Fischer}
use Rattle.chess_model.specs.MoveList.{HalfMove, moves_of}
use Rattle.game_board.specs.declared.played.Played.{Played}
use Rattle.game_board.specs.Board.{Board, half_move}
use Rattle.game_board.specs.Scoresheet.{IsTrueScore}
use Rattle.game_records.specs.declared.stored_game.Half.{Half}
use Rattle.game_records.specs.Bounds as bounds
use Rattle.game_records.specs.Bounds.{AreHalves, IsHalf, count_on_board}
use Rattle.game_records.specs.Replays.{without_charges}
use Rattle.desk_boards.specs.Boards.{board_numbers}
use Rattle.desk_boards.specs.Halves.{half_of, halves_from, halves_of, list_on, played_of}
use Rattle.desk_boards.specs.Sound.{AreSoundBoards}
use Rattle.desk_boards.proofs.Halved.{AreOnTwo, by_choice, without_charges-from, list_on-else, list_on-one, list_on-own, list_on-two, not_second, second}
use Rattle.desk_boards.proofs.Pairs.{numbers_of_two, never_three}

-- the number of the one board of a game, which is none of a pair
pub number_of_one : (v : Variant) (b : Board) → map (λ (x : Board). x.number) (b ∷ []) ≡ board_numbers v →
    (v ≢ Bughouse) × (b.number ≡ 1) × (bounds.boards v ≡ 1)
number_of_one Chess b e = (λ f. cc, cc, refl)
number_of_one Crazyhouse b e = (λ f. cc, cc, refl)
number_of_one (Fischer number) b e = (λ f. cc, cc, refl)
number_of_one Bughouse b e = absurd cc

pub never_none : (v : Variant) → map (λ (x : Board). x.number) [] ≡ board_numbers v → ⊥
never_none Chess e = cc
never_none Crazyhouse e = cc
never_none (Fischer number) e = cc
never_none Bughouse e = cc

at_most_two : (v : Variant) → bounds.boards v ≤ 2
at_most_two Chess = omega arith
at_most_two Crazyhouse = omega arith
at_most_two (Fischer number) = omega arith
at_most_two Bughouse = omega arith

-- what a record can have is on board 1 or 2
pub on_two : (v : Variant) (one two : List Played) (T : List HalfMove)
    → AllByRecursion (IsHalf v) (halves_from one two T) → AreOnTwo T
on_two v one two [] each = tt
on_two v one two (h ∷ T) each =
    by_choice (λ halves. AllByRecursion (IsHalf v) halves → AreOnTwo (h ∷ T)) (nat_eq h.board 1)
    (half_of h one ∷ halves_from (drop 1 one) two T) (half_of h two ∷ halves_from one (drop 1 two) T)
    (λ own e. ((e.0.first, omega (arith, e.0.last, at_most_two v)), on_two v (drop 1 one) two T e.1))
    (λ other e. ((e.0.first, omega (arith, e.0.last, at_most_two v)), on_two v one (drop 1 two) T e.1))
    each

-- the lists of the boards, by the numbers that these have
pub own_at : (n : ℕ) (b : Board) → IsTrueScore b → b.number ≡ n → moves_of n b.all ≡ map (λ p. p.what) b.list
own_at n b score number = ap (λ (k : ℕ). moves_of k b.all) (sym number) ∙ score.own

pub all_of : (t : Terms) (boards : List Board) → AreSoundBoards t boards
    → All (λ b. without_charges (halves_of boards) ≡ b.all) boards
all_of t [] s = All-nil (λ (b : Board). without_charges (halves_of []) ≡ b.all)
all_of t (b ∷ []) s =
    let P : Board → Type 0 = λ x. without_charges (halves_of (b ∷ [])) ≡ x.all in
    All-cons P b [] (without_charges-from b.list [] b.all) (All-nil P)
all_of t (b ∷ c ∷ []) s =
    let P : Board → Type 0 = λ x. without_charges (halves_of (b ∷ c ∷ [])) ≡ x.all in
    let same : c.all ≡ b.all = All-head (λ (T : List HalfMove). T ≡ b.all) c.all [] s.together in
    All-cons P b (c ∷ []) (without_charges-from b.list c.list b.all)
    (All-cons P c [] (without_charges-from b.list c.list b.all ∙ sym same) (All-nil P))
all_of t (b ∷ c ∷ d ∷ more) s = absurd (never_three t.variant b c d more s.numbers)

pub each_of : (t : Terms) (boards : List Board) → AreSoundBoards t boards
    → All (λ b. list_on b.number (halves_of boards) ≡ b.list) boards
each_of t [] s = All-nil (λ (b : Board). list_on b.number (halves_of []) ≡ b.list)
each_of t (b ∷ []) s =
    let P : Board → Type 0 = λ x. list_on x.number (halves_of (b ∷ [])) ≡ x.list in
    let one = (number_of_one t.variant b s.numbers).1 in
    All-cons P b []
    (ap (λ (n : ℕ). list_on n (halves_from b.list [] b.all)) one
    ∙ list_on-one b.list [] b.all (own_at 1 b (All-head IsTrueScore b [] s.scores) one))
    (All-nil P)
each_of t (b ∷ c ∷ []) s =
    let P : Board → Type 0 = λ x. list_on x.number (halves_of (b ∷ c ∷ [])) ≡ x.list in
    let same : c.all ≡ b.all = All-head (λ (T : List HalfMove). T ≡ b.all) c.all [] s.together in
    let two = numbers_of_two t.variant b c s.numbers in
    let scores = All-tail IsTrueScore b (c ∷ []) s.scores in
    All-cons P b (c ∷ [])
    (ap (λ (n : ℕ). list_on n (halves_from b.list c.list b.all)) two.1
    ∙ list_on-one b.list c.list b.all (own_at 1 b (All-head IsTrueScore b (c ∷ []) s.scores) two.1))
    (All-cons P c []
    (ap (λ (n : ℕ). list_on n (halves_from b.list c.list b.all)) two.2
    ∙ list_on-two b.list c.list b.all (on_two t.variant b.list c.list b.all s.halves)
    (ap (moves_of 2) (sym same) ∙ own_at 2 c (All-head IsTrueScore c [] scores) two.2))
    (All-nil P))
each_of t (b ∷ c ∷ d ∷ more) s = absurd (never_three t.variant b c d more s.numbers)

-- a half-move of a record without its charge
abbrev half_move_of : Half → HalfMove
half_move_of h = record { board = h.board; what = h.what }

-- counts of half-moves
pub count_on_board-list : (n : ℕ) (halves : List Half) → count_on_board n halves ≡ length (list_on n halves)
count_on_board-list n halves =
    sym (length-filter (λ (h : Half). nat_eq h.board n) halves)
    ∙ sym (length-map (filter (λ (h : Half). nat_eq h.board n) halves) played_of)

on_each : (v : Variant) (halves : List Half) → AllByRecursion (IsHalf v) halves
    → length halves ≡ length (list_on 1 halves) + length (list_on 2 halves)
on_each v [] each = refl
on_each v (h ∷ halves) each =
    elim (nat_eq h.board 1)
    as (λ t.
    nat_eq h.board 1 ≡ t → suc (length halves) ≡ length (list_on 1 (h ∷ halves)) + length (list_on 2 (h ∷ halves))) [
      | true ↦ λ own.
          let one = ap length (list_on-own 1 h halves own) in
          let two = ap length (list_on-else 2 h halves (not_second h.board own)) in
          let rest = on_each v halves each.1 in
          omega (arith, one, two, rest)
      | false ↦ λ other.
          let one = ap length (list_on-else 1 h halves other) in
          let two =
          ap length
          (list_on-own 2 h halves (second h.board (each.0.first, omega (arith, each.0.last, at_most_two v)) other)) in
          let rest = on_each v halves each.1 in
          omega (arith, one, two, rest)
    ] refl

-- no list is longer than may be played
short_at : (b : Board) → IsTrueScore b → b.played ≤ 1200 → length b.list ≤ 1200
short_at b score few = omega (arith, score.played, few)

-- they keep the bounds of records
pub bounds_of : (t : Terms) (boards : List Board) → AreSoundBoards t boards → AreHalves t.variant (halves_of boards)
bounds_of t [] s = absurd (never_none t.variant s.numbers)
bounds_of t (b ∷ []) s =
    let one = number_of_one t.variant b s.numbers in
    let score = All-head IsTrueScore b [] s.scores in
    let terms = All-head (λ (x : Board). x.terms ≡ t) b [] s.terms in
    let short = short_at b score (All-head (λ (x : Board). x.played ≤ 1200) b [] s.few) in
    let halves = halves_from b.list [] b.all in
    let alone = ap length (score.alone (λ e. one.0 (sym (ap (λ (x : Terms). x.variant) terms) ∙ e))) in
    let listed = length-map b.list (half_move b.number) in
    let whole = ap length (without_charges-from b.list [] b.all) in
    let taken = length-map halves half_move_of in
    let all : length halves ≤ 1200 = omega (arith, alone, listed, whole, taken, short) in
    let first = count_by-le-length (λ (h : Half). nat_eq h.board 1) halves in
    let second = count_by-le-length (λ (h : Half). nat_eq h.board 2) halves in
    let boards = one.2 in
    record {
      each = s.halves;
      few = omega (arith, all, boards);
      first = omega (arith, first, all);
      second = omega (arith, second, all);
    }
bounds_of t (b ∷ c ∷ []) s =
    let two = numbers_of_two t.variant b c s.numbers in
    let same : c.all ≡ b.all = All-head (λ (T : List HalfMove). T ≡ b.all) c.all [] s.together in
    let scores = All-tail IsTrueScore b (c ∷ []) s.scores in
    let few = All-tail (λ (x : Board). x.played ≤ 1200) b (c ∷ []) s.few in
    let halves = halves_from b.list c.list b.all in
    let short_one =
    short_at b (All-head IsTrueScore b (c ∷ []) s.scores)
    (All-head (λ (x : Board). x.played ≤ 1200) b (c ∷ []) s.few) in
    let short_two =
    short_at c (All-head IsTrueScore c [] scores) (All-head (λ (x : Board). x.played ≤ 1200) c [] few) in
    let one_is =
    ap length (list_on-one b.list c.list b.all (own_at 1 b (All-head IsTrueScore b (c ∷ []) s.scores) two.1)) in
    let two_is = ap length (list_on-two b.list c.list b.all (on_two t.variant b.list c.list b.all s.halves)
    (ap (moves_of 2) (sym same) ∙ own_at 2 c (All-head IsTrueScore c [] scores) two.2)) in
    let sum = on_each t.variant halves s.halves in
    let boards : bounds.boards t.variant ≡ 2 = ap bounds.boards two.0 in
    let first = count_on_board-list 1 halves in
    let second = count_on_board-list 2 halves in
    record {
      each = s.halves;
      few = omega (arith, sum, one_is, two_is, short_one, short_two, boards);
      first = omega (arith, first, one_is, short_one);
      second = omega (arith, second, two_is, short_two);
    }
bounds_of t (b ∷ c ∷ d ∷ more) s = absurd (never_three t.variant b c d more s.numbers)

pub ruleset halves_told = (all_of, each_of, bounds_of)
