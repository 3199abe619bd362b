-- Moves from words, in the position of a book.
use Rattle.std.proofs.Common.{◌≡◌, ℕ, List, map, Some, None, ap, ◌∙◌}
use Rattle.std.specs.Prelude.{Result}
use Rattle.std.specs.Result.{result_ok}
use Rattle.chess_model.specs.declared.moves.Move.{Move}
use Rattle.chess_model.specs.declared.moves.MoveWord.{MoveWord}
use Rattle.chess_model.specs.declared.moves.Rejection.{Rejection}
use Rattle.chess_model.specs.declared.variant.Variant.TheVariants.{Chess}
use Rattle.chess_model.specs.Position.{Position, Stands}
use Rattle.chess_model.specs.WordAnswer.{word_answer}
use Rattle.move_reader.specs.Reading.{reading}
use Rattle.pgn_book.specs.Games.{on_board, position_of_moves}
use Rattle.pgn_book.specs.Reading.{from_word, move_read}
use Rattle.pgn_book.proofs.Laying.{stands_at}

pub at_moves : (p : Position) (kept moves : List Move) → p.variant ≡ Chess → Stands p (map on_board kept) 1
    → kept ≡ moves → p ≡ position_of_moves moves
at_moves p kept moves chess stands e = stands_at p kept chess stands ∙ ap position_of_moves e

pub word_read : (p q : Position) (text : List ℕ) (word : MoveWord) (r : Result Move Rejection)
    → Some word ≡ reading text
    → r ≡ word_answer p word → p ≡ q → result_ok r ≡ move_read q text
unfolding move_read
word_read p q text word r e f g =
    ap result_ok f ∙ ap (λ (x : Position). result_ok (word_answer x word)) g ∙ ap (from_word q) e

pub no_word : (q : Position) (text : List ℕ) → None ≡ reading text → None ≡ move_read q text
unfolding move_read
no_word q text e = ap (from_word q) e
