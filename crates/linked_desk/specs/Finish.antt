-- How the position on a board ends a game: mate and stalemate (FIDE 5.1.1 and 5.2.1).
use Rattle.std.specs.Prelude.{ℕ, Option, Some, None, slice_get}
use Rattle.std.specs.Option.{option_and_then}
use Rattle.chess_model.specs.declared.man.Colour.{Colour}
use Rattle.chess_model.specs.declared.states.State.{State}
use Rattle.chess_model.specs.declared.states.State.TheVariants.{Safe, Check, Mate, Stalemate}
use Rattle.chess_model.specs.declared.why.Why.TheVariants as why
use Rattle.chess_model.specs.Placement.{opposite}
use Rattle.chess_model.specs.Result.{result}
use Rattle.game_board.specs.Board.{Board, to_move, position_of}
use Rattle.fics_words.specs.Boards.{board_place}
use Rattle.fics_words.specs.declared.board_number.BoardNumber.{BoardNumber}
use Rattle.linked_desk.specs.declared.ended.Ended.{Ended}
use Rattle.linked_desk.specs.Desk.{GameState}
use Rattle.linked_desk.specs.Ends.{ended_by}

-- the end at a board, by what its position is for the player to move: a player who is mated has lost, and stalemate is
-- a draw
abbrev pub end_in : BoardNumber → Colour → State → Option Ended
end_in board mover Mate = Some (record { why = why.Mate; board = board; winner = Some (opposite mover) })
end_in board mover Stalemate = Some (record { why = why.Stalemate; board = board; winner = None })
end_in board mover Safe = None
end_in board mover Check = None

-- the end that the position on the board of this number brings, if it does
abbrev pub end_on : BoardNumber → Board → Option Ended
end_on board b = end_in board (to_move b) (result (position_of b))

-- and in a game
abbrev pub end_at : GameState → BoardNumber → Option Ended
end_at g board = option_and_then (end_on board) (slice_get g.boards (board_place board))

-- the game ended, where there is an end
abbrev pub with_end : ℕ → GameState → ℕ → Option Ended → GameState
with_end desk g moment None = g
with_end desk g moment (Some e) = ended_by desk g moment e

-- the game once the position on a board has ended it, or as it was
abbrev pub finished : ℕ → GameState → ℕ → BoardNumber → GameState
finished desk g moment board = with_end desk g moment (end_at g board)
