-- How a game ends: the end of one board ends all of the game, and the viewers are told at each board.
use Rattle.std.specs.Prelude.{ℕ, ◌==◌, is_some, is_none, if◌then◌else◌, Option, Some, List}
use Rattle.std.specs.Option.{option_map}
use Rattle.chess_model.specs.declared.man.Colour.{Colour}
use Rattle.chess_model.specs.Placement.{opposite}
use Rattle.fics_words.specs.Effect.{Cause}
use Rattle.fics_words.specs.declared.refusal.Refusal.TheVariants.{NotPlaying, GameOver}
use Rattle.fics_words.specs.declared.seats.Opponents.{Opponents}
use Rattle.style12_writer.specs.declared.item.Item.{Item}
use Rattle.style12_writer.specs.declared.item.Item.TheVariants as item
use Rattle.game_board.specs.Board.{Board}
use Rattle.fics_words.specs.Boards.{board_number}
use Rattle.linked_desk.specs.declared.ended.Ended.{Ended}
use Rattle.linked_desk.specs.Desk.{GameState, moment_at, seat_of}
use Rattle.linked_desk.specs.Seats.{pairs_of}
use Rattle.linked_desk.specs.Views.{view_of, each_board, with_items}

-- only a player plays
abbrev pub no_seat_cause : GameState → ℕ → Cause
no_seat_cause g session = (is_none (seat_of g session), NotPlaying)

-- nobody plays on in a game that has ended
abbrev pub over_cause : GameState → Cause
over_cause g = (is_some g.ended, GameOver)

-- who won at a board, by its number: partners have different colours, so at the other board of a pair the other colour
-- won
abbrev pub winner_on : Ended → ℕ → Option Colour
winner_on e board = if board == board_number e.board then e.winner else option_map opposite e.winner

-- what is told of the end at a board
abbrev pub end_item : ℕ → Ended → Opponents → Board → Item
end_item desk e players board =
    item.End (view_of desk players board) e.why (winner_on e board.number) (board.number == board_number e.board)

-- what is told of the end
abbrev pub end_items : ℕ → GameState → Ended → List Item
end_items desk g e = each_board (end_item desk e) (pairs_of g.seats) g.boards

-- the game once it has ended so, and its viewers are told
abbrev pub ended_by : ℕ → GameState → ℕ → Ended → GameState
ended_by desk g moment e = with_items (record g { last = moment_at g moment; ended = Some e }) (end_items desk g e)
