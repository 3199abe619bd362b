-- Leaving a desk: a game between two players with accounts waits for them, as on FICS; any other is lost by whoever
-- leaves it. That a pair is lost is this server's own.
use Rattle.std.specs.Prelude.{ℕ, Bool, false, is_some, if◌then◌else◌, [], Option, Some, None}
use Rattle.chess_model.specs.declared.why.Why.TheVariants.{Adjourned, Left}
use Rattle.chess_model.specs.Placement.{opposite}
use Rattle.fics_words.specs.Effect.{Effect}
use Rattle.fics_words.specs.Seats as sitting
use Rattle.observer_feed.specs.Feed.{without_viewer}
use Rattle.linked_desk.specs.declared.acts.DeskReply.{DeskReply}
use Rattle.linked_desk.specs.declared.acts.DeskReply.TheVariants.{Done}
use Rattle.linked_desk.specs.declared.ended.Ended.{Ended}
use Rattle.linked_desk.specs.Desk.{GameState, moment_at, seat_of}
use Rattle.linked_desk.specs.Ends.{ended_by}
use Rattle.linked_desk.specs.Offering.{end_without_winner}
use Rattle.linked_desk.specs.Seats.{board_of, colour_at}

-- the other team wins, since this seat left
abbrev pub forfeit : ℕ → Ended
forfeit seat = record { why = Left; board = board_of seat; winner = Some (opposite (colour_at seat)) }

-- the game waits for whoever leaves: it has one board, and its players have accounts
abbrev pub game_waits : GameState → Bool
game_waits g = sitting.waits g.seats

-- how a running game ends where this seat leaves
abbrev pub leaving_end : GameState → ℕ → Ended
leaving_end g seat = if game_waits g then end_without_winner seat Adjourned else forfeit seat

-- the game once who has that seat, or none, has left it; one that has ended stays as it ended
abbrev pub game_left_by : ℕ → GameState → ℕ → Option ℕ → GameState
game_left_by desk g moment None = g
game_left_by desk g moment (Some seat) = if is_some g.ended then g else ended_by desk g moment (leaving_end g seat)

-- the game without that viewer
abbrev pub unwatched : GameState → ℕ → ℕ → GameState
unwatched g session moment = record g { viewers = without_viewer session g.viewers; last = moment_at g moment }

-- leaves: the game is adjourned or lost where it runs and the session plays in it, and the session is no viewer any
-- more. Never refused
abbrev pub leave_effect : ℕ → GameState → ℕ → ℕ → Effect GameState DeskReply
leave_effect desk g session moment = record {
  causes = [];
  memory = false;
  reply = Done;
  after = unwatched (game_left_by desk g moment (seat_of g session)) session moment;
}
