-- The call of a flag at a desk (FIDE 6.8 and 6.9).
use Rattle.std.specs.Prelude.{ℕ, false, ◌∷◌, Option, Some, None, Result, Ok, Err, slice_get}
use Rattle.chess_model.specs.declared.man.Colour.{Colour}
use Rattle.chess_model.specs.declared.why.Why.TheVariants.{Flag, FlagDraw}
use Rattle.fics_words.specs.Effect.{Effect, refused_by}
use Rattle.fics_words.specs.declared.refusal.Refusal.{Refusal}
use Rattle.fics_words.specs.declared.refusal.Refusal.TheVariants.{NotPlaying}
use Rattle.linked_desk.specs.declared.acts.DeskReply.{DeskReply}
use Rattle.linked_desk.specs.declared.acts.DeskReply.TheVariants.{Done}
use Rattle.linked_desk.specs.declared.ended.Ended.{Ended}
use Rattle.fics_words.specs.Boards.{board_place}
use Rattle.desk_boards.specs.Boards.{flag_at}
use Rattle.fics_words.specs.declared.board_number.BoardNumber.{BoardNumber}
use Rattle.linked_desk.specs.Desk.{GameState, moment_at, seat_of}
use Rattle.linked_desk.specs.Ends.{no_seat_cause, over_cause, ended_by}
use Rattle.linked_desk.specs.Seats.{board_of, colour_at}

-- what the call of a seat on its opponent brings: the winner, None for a draw, or the refusal
abbrev pub seat_flag : GameState → ℕ → ℕ → Result (Option Colour) Refusal
seat_flag g moment seat =
    flag_at (slice_get g.boards (board_place (board_of seat))) (colour_at seat) (moment_at g moment)

-- the end that a flag brings that fell at a board
abbrev pub flag_end : BoardNumber → Option Colour → Ended
flag_end board None = record { why = FlagDraw; board = board; winner = None }
flag_end board (Some c) = record { why = Flag; board = board; winner = Some c }

-- the game once a flag was called
abbrev pub flagged : ℕ → GameState → ℕ → BoardNumber → Result (Option Colour) Refusal → GameState
flagged desk g moment board (Ok winner) = ended_by desk g moment (flag_end board winner)
flagged desk g moment board (Err cause) = g

-- what the call of who has that seat, or none, brings
abbrev pub called_by : GameState → ℕ → Option ℕ → Result (Option Colour) Refusal
called_by g moment None = Err NotPlaying
called_by g moment (Some seat) = seat_flag g moment seat

-- the game once who has that seat, or none, has called a flag
abbrev pub flagged_by : ℕ → GameState → ℕ → Option ℕ → GameState
flagged_by desk g moment None = g
flagged_by desk g moment (Some seat) = flagged desk g moment (board_of seat) (seat_flag g moment seat)

-- calls the opponent's flag: refused where the session has no seat, where the game has ended, and where no flag has
-- fallen
abbrev pub flag_effect : ℕ → GameState → ℕ → ℕ → Effect GameState DeskReply
flag_effect desk g session moment = record {
  causes = no_seat_cause g session ∷ over_cause g ∷ refused_by (called_by g moment (seat_of g session));
  memory = false;
  reply = Done;
  after = flagged_by desk g moment (seat_of g session);
}
