-- The acknowledgement of a board by a player's client.
use Rattle.std.specs.Prelude.{ℕ, false, is_some, if◌then◌else◌, List, [], ◌∷◌, Option, Some, None}
use Rattle.fics_words.specs.Effect.{Effect}
use Rattle.game_board.specs.Board.{Board}
use Rattle.linked_desk.specs.declared.acts.DeskReply.{DeskReply}
use Rattle.linked_desk.specs.declared.acts.DeskReply.TheVariants.{Done}
use Rattle.desk_boards.specs.Boards.{boards_acked}
use Rattle.linked_desk.specs.Desk.{GameState, moment_at, seat_of}
use Rattle.linked_desk.specs.Ends.{no_seat_cause}
use Rattle.linked_desk.specs.Seats.{board_of, colour_at}

-- the boards once the client of who has that seat, or none, has acknowledged its board; after the end nothing is kept
abbrev pub acked_by : GameState → Option ℕ → ℕ → List Board
acked_by g None stamp = g.boards
acked_by g (Some seat) stamp =
    if is_some g.ended then g.boards else boards_acked g.boards (board_of seat) (colour_at seat) stamp

-- keeps the stamp of a player's client: refused where the session has no seat
abbrev pub acked_effect : GameState → ℕ → ℕ → ℕ → Effect GameState DeskReply
acked_effect g session moment stamp = record {
  causes = no_seat_cause g session ∷ [];
  memory = false;
  reply = Done;
  after = record g { boards = acked_by g (seat_of g session) stamp; last = moment_at g moment };
}
