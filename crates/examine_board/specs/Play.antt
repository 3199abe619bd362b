-- Half-moves that are played on from where an exam is, without a charge. This server's own.
use Rattle.std.specs.Prelude.{◌+◌, ◌==◌, Bool, true, false, [], ◌∷◌, ◌++◌, Option, None, Result, Ok, Err}
use Rattle.std.specs.Option.{option_map_or}
use Rattle.chess_model.specs.declared.moves.Move.{Move}
use Rattle.chess_model.specs.declared.moves.MoveWord.{MoveWord}
use Rattle.chess_model.specs.declared.variant.Variant.{Variant}
use Rattle.chess_model.specs.declared.variant.Variant.TheVariants.{Chess, Crazyhouse, Bughouse, Fischer}
use Rattle.chess_model.specs.Position.{Position}
use Rattle.chess_model.specs.Result.{result, is_end}
use Rattle.chess_model.specs.WordAnswer.{word_answer}
use Rattle.fics_words.specs.Effect.{first_cause}
use Rattle.fics_words.specs.declared.refusal.Refusal.{Refusal}
use Rattle.fics_words.specs.declared.refusal.Refusal.TheVariants.{NotInVariant, GameOver, TooManyMoves}
use Rattle.game_board.specs.Causes.{in_words}
use Rattle.chess_model.specs.Limits.{most_halves}
use Rattle.game_records.specs.declared.stored_game.Half.{Half}
use Rattle.game_records.specs.Replays.{position_on}
use Rattle.examine_board.specs.Exam.{ExamState, present}

-- whether a variant is played at a pair of boards
abbrev pub is_pair : Variant → Bool
is_pair Chess = false
is_pair Crazyhouse = false
is_pair Bughouse = true
is_pair (Fischer number) = false

-- the position on the first board
abbrev pub position : ExamState → Position
position e = position_on e.terms.variant (present e) 1

-- why nothing may be played on: at a pair, where the half-moves on the board have ended the game by mate or stalemate,
-- and where they are as many as may be played
abbrev pub play_refused : ExamState → Option Refusal
play_refused e =
    first_cause
    ((is_pair e.terms.variant, NotInVariant) ∷ (is_end (result (position e)), GameOver)
    ∷ (e.point == most_halves, TooManyMoves) ∷ [])

-- the half-move that a word stands for, or the refusal
unfoldable pub play_answer : ExamState → MoveWord → Result Move Refusal
play_answer e w = option_map_or Err (play_refused e) (in_words (word_answer (position e) w))

-- a half-move on the first board, which has no charge
abbrev pub uncharged : Move → Half
uncharged m = record { board = 1; what = m; charge = None }

-- the half-moves on the board and one more are looked at, and are on the board
abbrev pub with_move : ExamState → Move → ExamState
with_move e m = record e {
  list = present e ++ uncharged m ∷ [];
  point = e.point + 1;
}

abbrev pub exam_going_on : ExamState → Result Move Refusal → Result ExamState Refusal
exam_going_on e (Ok m) = Ok (with_move e m)
exam_going_on e (Err cause) = Err cause

-- what a word makes of an exam
abbrev pub played : ExamState → MoveWord → Result ExamState Refusal
played e w = exam_going_on e (play_answer e w)
