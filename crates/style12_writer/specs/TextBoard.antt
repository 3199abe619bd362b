-- The board in text, after style 1 of FICS: the ranks of style 12 on eight lines, and a line that says who is to move,
-- the clocks and the previous move. This server's own.
use Rattle.std.specs.Prelude.{ℕ, List, [], ◌∷◌, ◌++◌, codes, decimal}
use Rattle.style12_writer.specs.Board.{colour_to_move, ranks}
use Rattle.style12_writer.specs.Line12.{black_remaining, white_remaining}
use Rattle.style12_writer.specs.declared.view.BoardView.{BoardView}

-- who is to move, and in which game
abbrev pub turn_text : BoardView → List ℕ
turn_text v = colour_to_move v.face.to_move ++ codes " to move, game " ++ decimal v.game

-- the remaining whole seconds of White and of Black
abbrev pub clocks_text : BoardView → List ℕ
clocks_text v = codes ", White " ++ white_remaining v ++ codes ", Black " ++ black_remaining v

-- the line behind the ranks
abbrev pub summary_text : BoardView → List ℕ
summary_text v = turn_text v ++ clocks_text v ++ codes ", last " ++ v.face.pretty

-- all nine lines
unfoldable pub board1_lines : BoardView → List (List ℕ)
board1_lines v = ranks v.face.men ++ summary_text v ∷ []
