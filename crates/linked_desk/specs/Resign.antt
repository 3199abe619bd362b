-- Resigning at a desk (FIDE 5.1.2).
use Rattle.std.specs.Prelude.{ℕ, false, ◌∷◌, [], Option, Some, None}
use Rattle.chess_model.specs.declared.why.Why.TheVariants.{Resigned}
use Rattle.chess_model.specs.Placement.{opposite}
use Rattle.fics_words.specs.Effect.{Effect}
use Rattle.linked_desk.specs.declared.acts.DeskReply.{DeskReply}
use Rattle.linked_desk.specs.declared.acts.DeskReply.TheVariants.{Done}
use Rattle.linked_desk.specs.declared.ended.Ended.{Ended}
use Rattle.linked_desk.specs.Desk.{GameState, seat_of}
use Rattle.linked_desk.specs.Ends.{no_seat_cause, over_cause, ended_by}
use Rattle.linked_desk.specs.Seats.{board_of, colour_at}

-- the other team wins, since this seat resigned
abbrev pub resignation : ℕ → Ended
resignation seat = record { why = Resigned; board = board_of seat; winner = Some (opposite (colour_at seat)) }

-- the game once who has that seat, or none, has given it up
abbrev pub resigned_by : ℕ → GameState → ℕ → Option ℕ → GameState
resigned_by desk g moment None = g
resigned_by desk g moment (Some seat) = ended_by desk g moment (resignation seat)

-- gives the game up: refused where the session has no seat, and where the game has ended
abbrev pub resign_effect : ℕ → GameState → ℕ → ℕ → Effect GameState DeskReply
resign_effect desk g session moment = record {
  causes = no_seat_cause g session ∷ over_cause g ∷ [];
  memory = false;
  reply = Done;
  after = resigned_by desk g moment (seat_of g session);
}
