-- What resigning keeps.
use Rattle.std.proofs.Common.{ℕ, false, refl}
use Rattle.linked_desk.specs.Desk.{GameState, seat_of}
use Rattle.linked_desk.specs.Resign.{resignation, resigned_by, resign_effect}
use Rattle.linked_desk.proofs.Keeps.{Keeps, ended_follows, if_there, stays}

pub Keeps-resign_effect : (desk : ℕ) (g : GameState) (session moment : ℕ)
    → Keeps g moment (Unit {0}) false (resign_effect desk g session moment)
Keeps-resign_effect desk g session moment = record {
  step = if_there (λ seat. resigned_by desk g moment seat) (seat_of g session) stays (λ seat.
      ended_follows g moment (λ c. c.0) desk (resignation seat) (λ e. e, λ e. e));
  tells = λ s. tt;
  memory = refl;
}
