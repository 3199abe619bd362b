-- The acknowledgement of a board by a player's client, from which the client counts the time of the half-move.
use Rattle.std.specs.Prelude.{ℕ, if◌then◌else◌, Some}
use Rattle.chess_model.specs.declared.man.Colour.{Colour}
use Rattle.chess_model.specs.Holdings.{same_colour}
use Rattle.game_board.specs.Board.{Board, to_move}

-- the board once the client of a colour has acknowledged it with a stamp: the last stamp is kept, and only of the
-- player to move
abbrev pub acknowledged : Board → Colour → ℕ → Board
acknowledged b c stamp = if same_colour c (to_move b) then record b { kept = Some stamp } else b
