-- What the call of a flag keeps.
use Rattle.std.proofs.Common.{◌≤◌, ◌^◌, ℕ, false, Option, Some, None, Result, Ok, Err, refl}
use Rattle.chess_model.specs.declared.man.Colour.{Colour}
use Rattle.fics_words.specs.declared.refusal.Refusal.{Refusal}
use Rattle.fics_words.specs.declared.board_number.BoardNumber.{BoardNumber}
use Rattle.linked_desk.specs.Desk.{GameState, seat_of}
use Rattle.linked_desk.specs.Flag.{seat_flag, flag_end, flagged, flagged_by, flag_effect}
use Rattle.linked_desk.specs.Seats.{board_of}
use Rattle.linked_desk.specs.Sound.{FitsWhy}
use Rattle.linked_desk.proofs.Keeps.{Follows, Keeps, ended_follows, if_there, stays}

flag_names : (board : BoardNumber) (winner : Option Colour)
    → FitsWhy (flag_end board winner).why (flag_end board winner).winner
flag_names board None = (λ e. e, λ e. e)
flag_names board (Some c) = (λ e. e, λ e. e)

flagged_follows : {conditions : Type 0} (desk : ℕ) (g : GameState) (moment : ℕ) (board : BoardNumber)
    → (conditions → moment ≤ 2 ^ 48) → (answer : Result (Option Colour) Refusal) →
    Follows conditions g (flagged desk g moment board answer)
flagged_follows desk g moment board timely (Ok winner) =
    ended_follows g moment timely desk (flag_end board winner) (flag_names board winner)
flagged_follows desk g moment board timely (Err cause) = stays

pub Keeps-flag_effect : (desk : ℕ) (g : GameState) (session moment : ℕ)
    → Keeps g moment (Unit {0}) false (flag_effect desk g session moment)
Keeps-flag_effect desk g session moment = record {
  step = if_there (λ seat. flagged_by desk g moment seat) (seat_of g session) stays (λ seat.
      flagged_follows desk g moment (board_of seat) (λ c. c.0) (seat_flag g moment seat));
  tells = λ s. tt;
  memory = refl;
}
