-- The boards of a game after a word at one of them: what the other one learns of it was allowed, and they have one
-- list.
use Rattle.std.proofs.Common.{◌≡◌, ℕ, ◌≤◌, zero, suc, arith, List, [], ◌∷◌, ◌++◌, map, Some, Result, Ok, Err, refl, sym, ap, subst, ◌∙◌}
use Rattle.std.specs.Prelude.{slice_get}
use Rattle.std.specs.Option.{option_map}
use Rattle.std.proofs.lemmas.List.Elements.{All-nil, All-cons, All-head}
use Rattle.std.proofs.lemmas.Option.{slice_get-map}
use Rattle.chess_model.specs.declared.moves.Move.{Move}
use Rattle.chess_model.specs.declared.variant.Variant.{Variant}
use Rattle.chess_model.specs.declared.variant.Variant.TheVariants.{Chess, Crazyhouse, Bughouse, Fischer}
use Rattle.chess_model.specs.Allowed.{Allowed}
use Rattle.chess_model.specs.Holdings.{other_board}
use Rattle.chess_model.specs.MoveList.{HalfMove, on}
use Rattle.chess_model.specs.Position.{Position, position_after}
use Rattle.fics_words.specs.declared.refusal.Refusal.{Refusal}
use Rattle.game_board.specs.Board.{Board, position_of}
use Rattle.game_board.specs.Learn.{partner_position}
use Rattle.game_records.specs.Bounds as bounds
use Rattle.fics_words.specs.Boards.{board_number, numbered_board, board_place}
use Rattle.desk_boards.specs.Boards.{board_numbers, told_answer}
use Rattle.fics_words.specs.declared.board_number.BoardNumber.{BoardNumber}
use Rattle.fics_words.specs.declared.board_number.BoardNumber.TheVariants.{First, Second}
use Rattle.desk_boards.specs.Sound.{AreSame}

-- the numbers of two boards, which are those of a pair
pub numbers_of_two : (v : Variant) (b c : Board) → map (λ (x : Board). x.number) (b ∷ c ∷ []) ≡ board_numbers v
    → (v ≡ Bughouse) × (b.number ≡ 1) × (c.number ≡ 2)
numbers_of_two Chess b c e = absurd cc
numbers_of_two Crazyhouse b c e = absurd cc
numbers_of_two (Fischer number) b c e = absurd cc
numbers_of_two Bughouse b c e = (refl, cc, cc)

pub never_three : (v : Variant) (b c d : Board) (more : List Board)
    → map (λ (x : Board). x.number) (b ∷ c ∷ d ∷ more) ≡ board_numbers v → ⊥
never_three Chess b c d more e = cc
never_three Crazyhouse b c d more e = cc
never_three (Fischer number) b c d more e = cc
never_three Bughouse b c d more e = cc

-- the number of the board in a place, and of that in the other one
pub number_at : (v : Variant) (boards : List Board) (k : ℕ) (b : Board)
    → map (λ (x : Board). x.number) boards ≡ board_numbers v → slice_get boards k ≡ Some b →
    slice_get (board_numbers v) k ≡ Some b.number
number_at v boards k b numbers there =
    ap (λ (ns : List ℕ). slice_get ns k) (sym numbers)
    ∙ slice_get-map (λ (x : Board). x.number) boards k
    ∙ ap (option_map (λ (x : Board). x.number)) there

-- the number of a board in its place
pub number_is : (v : Variant) (board : BoardNumber) (n : ℕ) → slice_get (board_numbers v) (board_place board) ≡ Some n
    → n ≡ board_number board
number_is Chess First n e = let one : 1 ≡ n = cc in sym one
number_is Chess Second n e = absurd cc
number_is Crazyhouse First n e = let one : 1 ≡ n = cc in sym one
number_is Crazyhouse Second n e = absurd cc
number_is (Fischer number) First n e = let one : 1 ≡ n = cc in sym one
number_is (Fischer number) Second n e = absurd cc
number_is Bughouse First n e = let one : 1 ≡ n = cc in sym one
number_is Bughouse Second n e = let two : 2 ≡ n = cc in sym two

-- the board of a number has it
pub number_of-numbered : (n : ℕ) (board : BoardNumber) → numbered_board n ≡ Some board → board_number board ≡ n
number_of-numbered zero board e = absurd cc
number_of-numbered (suc zero) board e = let first : First ≡ board = cc in ap board_number (sym first)
number_of-numbered (suc (suc zero)) board e = let second : Second ≡ board = cc in ap board_number (sym second)
number_of-numbered (suc (suc (suc n))) board e = absurd cc

-- a number that half-moves of a variant may have is that of a board
pub board_within : (v : Variant) (n : ℕ) → 1 ≤ n → n ≤ bounds.boards v
    → (board : BoardNumber) × (numbered_board n ≡ Some board)
board_within v zero low high = absurd (omega (arith, low))
board_within v (suc zero) low high = (First, refl)
board_within v (suc (suc zero)) low high = (Second, refl)
board_within Chess (suc (suc (suc n))) low high = absurd (omega (arith, high))
board_within Crazyhouse (suc (suc (suc n))) low high = absurd (omega (arith, high))
board_within (Fischer number) (suc (suc (suc n))) low high = absurd (omega (arith, high))
board_within Bughouse (suc (suc (suc n))) low high = absurd (omega (arith, high))

-- what is allowed on a board is allowed as the other one of the pair knows it
pub allowed_there : (own other : Board) (m : Move) → own.terms ≡ other.terms → own.all ≡ other.all
    → own.number ≡ other_board other.number →
    Allowed (position_of own) m → Allowed (partner_position other) m
unfolding position_of
allowed_there own other m terms all number allowed =
    let there : position_after own.terms.variant own.all own.number ≡ partner_position other =
    (λ i. position_after (terms i).variant (all i) (number i)) in
    subst (λ (p : Position). Allowed p m) there allowed

-- what a board that is told an answer keeps
pub same_told : {X : Type 0} (of : Board → X) (b : Board) (answer : Result Move Refusal)
    → ((T : List HalfMove) → of (record b { all = T }) ≡ of b) → of (told_answer b answer) ≡ of b
same_told of b (Ok m) keeps = keeps (b.all ++ record { board = other_board b.number; what = m } ∷ [])
same_told of b (Err cause) keeps = refl

-- a list and another that is the same, each with the same half-move behind it
pub same_two : (T U : List HalfMove) (m : Move) (here there : ℕ) → AreSame (T ∷ U ∷ []) → there ≡ here
    → AreSame ((T ++ on here m ∷ []) ∷ (U ++ on there m ∷ []) ∷ [])
same_two T U m here there same number =
    let is : U ≡ T = All-head (λ (x : List HalfMove). x ≡ T) U [] same in
    let P : List HalfMove → Type 0 = λ x. x ≡ T ++ on here m ∷ [] in
    All-cons P (U ++ on there m ∷ []) [] (λ i. is i ++ on (number i) m ∷ []) (All-nil P)
