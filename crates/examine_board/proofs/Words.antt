-- What a word is answered where an exam is, by what the board answers.
use Rattle.std.proofs.Common.{◌≡◌, ◌<◌, ◌≤◌, true, false, not, cond, List, ◌∷◌, length, map, Some, None, Ok, Err, refl, sym, ap, subst, ◌∙◌, arith}
use Rattle.std.specs.Prelude.{◌==◌, IfOk, OnOk, Result}
use Rattle.std.specs.Option.{option_map_or}
use Rattle.std.proofs.lemmas.List.{length-take-le}
use Rattle.chess_model.specs.declared.moves.Move.{Move}
use Rattle.chess_model.specs.declared.moves.MoveWord.{MoveWord}
use Rattle.chess_model.specs.declared.variant.Terms.{Terms}
use Rattle.chess_model.specs.declared.variant.Variant.{Variant}
use Rattle.chess_model.specs.declared.variant.Variant.TheVariants.{Chess, Crazyhouse, Bughouse, Fischer}
use Rattle.chess_model.specs.Allowed.{Allowed}
use Rattle.chess_model.specs.Position.{Position}
use Rattle.chess_model.specs.Result.{result, is_end}
use Rattle.chess_model.specs.WordAnswer.{word_answer}
use Rattle.fics_words.specs.declared.refusal.Refusal.{Refusal}
use Rattle.fics_words.specs.declared.refusal.Refusal.TheVariants.{GameOver, NotInVariant, NotYourTurn, TooManyMoves}
use Rattle.game_board.specs.Board.{Board, position_of, to_move}
use Rattle.game_board.specs.Causes.{in_words}
use Rattle.game_board.specs.Play.{move_answer}
use Rattle.game_records.specs.declared.stored_game.Half.{Half}
use Rattle.game_records.specs.Bounds as bounds
use Rattle.desk_boards.specs.Boards.{board_numbers}
use Rattle.fics_words.specs.declared.board_number.BoardNumber.TheVariants.{First}
use Rattle.desk_boards.specs.Halves.{list_on}
use Rattle.examine_board.specs.Exam.{ExamState, board_after, board_on, boards_of_halves, present}
use Rattle.examine_board.specs.Laid.{CanBeLaid, MayLie}
use Rattle.examine_board.specs.Play.{is_pair, play_answer, position, uncharged}
use Rattle.examine_board.proofs.Boards.{all_on}
use Rattle.examine_board.proofs.Laying.{CanBeLaid-take}
use Rattle.chess_model.proofs.TestsDecide.{same_colour-self}

-- ---- the one board of a game

one_board : (v : Variant) → is_pair v ≡ false → bounds.boards v ≡ 1
one_board Chess e = refl
one_board Crazyhouse e = refl
one_board (Fischer number) e = refl
one_board Bughouse e = absurd cc

-- it has all half-moves
pub all_there : (t : Terms) (halves : List Half) → is_pair t.variant ≡ false → CanBeLaid t halves
    → length (list_on 1 halves) ≡ length halves
all_there t halves single laid =
    let one = one_board t.variant single in
    all_on 1 halves
    (λ i h e.
    let lies = laid.each i h e in let first = lies.first in let last = lies.last in omega (arith, first, last, one))

pub present_there : (e : ExamState) → is_pair e.terms.variant ≡ false → CanBeLaid e.terms e.list
    → e.point ≤ length e.list → length (list_on 1 (present e)) ≡ e.point
present_there e single laid within =
    all_there e.terms (present e) single (CanBeLaid-take e.terms e.list e.point laid)
    ∙ length-take-le e.point e.list within

first_in : (v : Variant) (t : Terms) (halves : List Half) (b : Board) (rest : List Board)
    → b ∷ rest ≡ map (board_after t halves) (board_numbers v) → b ≡ board_after t halves 1
first_in Chess t halves b rest e = cc
first_in Crazyhouse t halves b rest e = cc
first_in (Fischer number) t halves b rest e = cc
first_in Bughouse t halves b rest e = cc

-- the first board is that of the number 1
pub first_is : (t : Terms) (halves : List Half) (b : Board) (rest : List Board) → b ∷ rest ≡ boards_of_halves t halves
    → b ≡ board_after t halves 1
first_is t halves b rest e = first_in t.variant t halves b rest e

pub position_is : (e : ExamState) (b : Board) → b ≡ board_on e First → position_of b ≡ position e
unfolding position_of
position_is e b is = ap position_of is

-- ---- the answer to a word

pub answer_pair : (e : ExamState) (w : MoveWord) → is_pair e.terms.variant ≡ true → Err NotInVariant ≡ play_answer e w
unfolding play_answer
answer_pair e w pair =
    sym (ap
    (λ t.
    option_map_or Err
    (cond t (Some NotInVariant)
    (cond (is_end (result (position e))) (Some GameOver) (cond (e.point == 1200) (Some TooManyMoves) None)))
    (in_words (word_answer (position e) w))) pair)

pub answer_over : (e : ExamState) (w : MoveWord) → is_pair e.terms.variant ≡ false → is_end (result (position e)) ≡ true
    → Err GameOver ≡ play_answer e w
unfolding play_answer
answer_over e w single over =
    sym (λ i.
    option_map_or Err
    (cond (single i) (Some NotInVariant)
    (cond (over i) (Some GameOver) (cond (e.point == 1200) (Some TooManyMoves) None)))
    (in_words (word_answer (position e) w)))

board_answers : (e : ExamState) (w : MoveWord) → length (list_on 1 (present e)) ≡ e.point →
    move_answer (board_on e First) (to_move (board_on e First)) w
    ≡ option_map_or Err (cond (e.point == 1200) (Some TooManyMoves) None) (in_words (word_answer (position e) w))
unfolding move_answer position_of
board_answers e w count =
    λ i.
    option_map_or Err
    (cond (not (same_colour-self (to_move (board_on e First)) i)) (Some NotYourTurn)
    (cond (count i == 1200) (Some TooManyMoves) None))
    (in_words (word_answer (position e) w))

pub answer_word : (e : ExamState) (w : MoveWord) (b : Board) → is_pair e.terms.variant ≡ false
    → is_end (result (position e)) ≡ false → b ≡ board_on e First →
    length (list_on 1 (present e)) ≡ e.point → move_answer b (to_move b) w ≡ play_answer e w
unfolding play_answer
answer_word e w b single on is count =
    ap (λ (x : Board). move_answer x (to_move x) w) is ∙ board_answers e w count
    ∙ sym
    (λ i.
    option_map_or Err
    (cond (single i) (Some NotInVariant)
    (cond (on i) (Some GameOver) (cond (e.point == 1200) (Some TooManyMoves) None)))
    (in_words (word_answer (position e) w)))

-- ---- what the board says, where the game goes on

pub record Going (e : ExamState) (b : Board) : Type 0 where
  pub single : is_pair e.terms.variant ≡ false
  pub on : is_end (result (position e)) ≡ false
  pub is : b ≡ board_on e First
  pub count : length (list_on 1 (present e)) ≡ e.point

pub going : (e : ExamState) (b : Board) (rest : List Board) → is_pair e.terms.variant ≡ false
    → is_end (result (position_of b)) ≡ false → b ∷ rest ≡ boards_of_halves e.terms (present e)
    → CanBeLaid e.terms e.list → e.point ≤ length e.list → Going e b
going e b rest single on boards laid within =
    let is = first_is e.terms (present e) b rest boards in
    record {
      single = single;
      on = ap (λ (p : Position). is_end (result p)) (sym (position_is e b is)) ∙ on;
      is = is;
      count = present_there e single laid within;
    }

pub going_answer : (e : ExamState) (w : MoveWord) (b : Board) → Going e b
    → move_answer b (to_move b) w ≡ play_answer e w
going_answer e w b g = answer_word e w b g.single g.on g.is g.count

pub going_room : (e : ExamState) (b : Board) (r : Result Move Refusal) → Going e b → OnOk r (length b.list < 1200)
    → OnOk r (e.point < 1200)
going_room e b (Ok m) g h =
    let same = ap (λ (x : Board). length x.list) g.is in let count = g.count in omega (arith, same, count, h)
going_room e b (Err cause) g h = tt

-- an allowed half-move may be laid there
may_lie : (e : ExamState) (m : Move) → is_pair e.terms.variant ≡ false → length (list_on 1 (present e)) ≡ e.point
    → Allowed (position e) m → e.point < 1200 →
    MayLie e.terms (present e) (uncharged m)
may_lie e m single count allowed room =
    let one = one_board e.terms.variant single in
    record {
      first = omega arith;
      last = omega (arith, one);
      allowed = allowed;
      room = omega (arith, count, room);
      charge = tt;
    }

pub going_lies : (e : ExamState) (b : Board) (r : Result Move Refusal) → Going e b → IfOk r (Allowed (position_of b))
    → OnOk r (length b.list < 1200) →
    IfOk r (λ m. MayLie e.terms (present e) (uncharged m))
going_lies e b (Ok m) g allowed room =
    may_lie e m g.single g.count (subst (λ (p : Position). Allowed p m) (position_is e b g.is) allowed)
    (going_room e b (Ok m) g room)
going_lies e b (Err cause) g allowed room = tt
