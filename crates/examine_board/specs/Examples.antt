-- Exams that are written out.
use Rattle.std.specs.Prelude.{◌≡◌, ℕ, [], ◌∷◌, List, Option, Some, None, Ok, Err, codes, refl}
use Rattle.chess_model.specs.declared.moves.Move.TheVariants.{Plain}
use Rattle.chess_model.specs.declared.variant.Variant.TheVariants.{Chess}
use Rattle.clock_ledger.specs.declared.charges.Charge.{Charge}
use Rattle.fics_words.specs.declared.refusal.Refusal.TheVariants.{NoMoreMoves, NoEarlierMoves}
use Rattle.game_records.specs.declared.stored_game.Half.{Half}
use Rattle.fics_words.specs.declared.board_number.BoardNumber.TheVariants.{First, Second}
use Rattle.examine_board.specs.Exam.{ExamState}
use Rattle.examine_board.specs.Lines.{shown_behind}
use Rattle.examine_board.specs.Play.{uncharged, with_move}
use Rattle.examine_board.specs.Same.{shared_length}
use Rattle.examine_board.specs.Steps.{backed, forwarded, reverted}

-- e2e4, e7e5 and g1f3
abbrev king_pawn : Half
king_pawn = record { board = 1; what = Plain 12 28 None; charge = None }

abbrev reply : Half
reply = record { board = 1; what = Plain 52 36 None; charge = None }

abbrev knight : Option Charge → Half
knight charge = record { board = 1; what = Plain 6 21 None; charge = charge }

-- a knight's move that took five seconds
abbrev five : Option Charge
five = Some (record { begin = 3000; end = 8000; client = None })

abbrev game : List Half
game = king_pawn ∷ reply ∷ knight five ∷ []

-- an exam of that game, of two minutes for each player, in that place
abbrev exam : List Half → ℕ → ExamState
exam list point = record {
  terms = record { minutes = 2; increment = 0; variant = Chess; colour = None };
  names = codes "Ann" ∷ codes "Ben" ∷ [];
  stored = game;
  list = list;
  point = point;
}

two_forward : forwarded (exam game 0) 2 ≡ Ok (exam game 2)
two_forward = refl

too_far : forwarded (exam game 2) 2 ≡ Err NoMoreMoves
too_far = refl

before_the_start : backed (exam game 2) 3 ≡ Err NoEarlierMoves
before_the_start = refl

-- the knight was played again, without its charge, so two half-moves are the stored game's
played_again : reverted (exam (king_pawn ∷ reply ∷ knight None ∷ []) 3) ≡ exam game 2
played_again = refl

-- the stored game itself
nothing_else : shared_length game game ≡ 3
nothing_else = refl

-- c7c5 is played behind the first half-move, so nothing follows it
answered_otherwise : with_move (exam game 1) (Plain 50 34 None) ≡ exam (king_pawn ∷ uncharged (Plain 50 34 None) ∷ []) 2
answered_otherwise = refl

-- the first board is shown at the start, and then that of the last half-move
shown_at_the_start : shown_behind [] ≡ First
shown_at_the_start = refl

shown_of_a_pair : shown_behind (king_pawn ∷ record { board = 2; what = Plain 11 27 None; charge = None } ∷ []) ≡ Second
shown_of_a_pair = refl
