-- How the game of `board` ends by itself, by mate or stalemate (FIDE Laws 5.1.1, 5.2.1), and the lines that tell of
-- its end and of a refusal.
use Rattle.std.specs.Prelude.{ℕ, true, List, [], ◌++◌, Some, None, codes}
use Rattle.chess_model.specs.declared.man.Colour.{Colour}
use Rattle.chess_model.specs.declared.states.State.{State}
use Rattle.chess_model.specs.declared.states.State.TheVariants.{Safe, Check, Mate, Stalemate}
use Rattle.chess_model.specs.declared.why.Why.TheVariants as why
use Rattle.chess_model.specs.Placement.{opposite}
use Rattle.fics_words.specs.declared.refusal.Refusal.{Refusal}
use Rattle.fics_words.specs.Refusal.{refusal_words}
use Rattle.style12_writer.specs.declared.view.BoardView.{BoardView}
use Rattle.style12_writer.specs.EndLine.{end_text}

-- the line of the end, where the game has ended; the player to move is the one who is mated
abbrev pub end_lines : BoardView → Colour → State → List ℕ
end_lines v to_move Safe = []
end_lines v to_move Check = []
end_lines v to_move Mate = end_text v why.Mate (Some (opposite to_move)) true ++ codes "\n\r"
end_lines v to_move Stalemate = end_text v why.Stalemate None true ++ codes "\n\r"

-- the line of a refusal
abbrev pub line_of_refusal : Refusal → List ℕ
line_of_refusal cause = refusal_words cause ++ codes "\n\r"
