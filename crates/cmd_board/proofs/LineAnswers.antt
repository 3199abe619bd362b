-- The answer of a line, opened.
use Rattle.std.proofs.Common.{◌≡◌, ℕ, List, ap, Some, None}
use Rattle.std.specs.Prelude.{option_map}
use Rattle.chess_model.specs.declared.moves.MoveWord.{MoveWord}
use Rattle.move_reader.specs.Reading.{reading}
use Rattle.cmd_board.specs.Game.{BoardGame, answer_to, move_made, answer_line}

-- a line that is no word
pub answer_line-no_word : (b : BoardGame) (line : List ℕ) → reading line ≡ None → answer_line b line ≡ None
unfolding answer_line
answer_line-no_word b line e = ap (option_map (λ word. move_made b (answer_to b word))) e

-- a word
pub answer_line-made : (b : BoardGame) (line : List ℕ) (word : MoveWord) → reading line ≡ Some word
    → answer_line b line ≡ Some (move_made b (answer_to b word))
unfolding answer_line
answer_line-made b line word e = ap (option_map (λ w. move_made b (answer_to b w))) e
