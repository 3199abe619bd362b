-- What showing a game keeps.
use Rattle.std.proofs.Common.{ℕ, true, refl}
use Rattle.linked_desk.specs.Desk.{GameState}
use Rattle.linked_desk.specs.Seats.{pairs_of}
use Rattle.linked_desk.specs.Show.{show_effect}
use Rattle.linked_desk.proofs.Keeps.{Keeps, viewers_follow}
use Rattle.linked_desk.proofs.KeepsStart.{names_shown}

pub Keeps-show_effect : (desk : ℕ) (g : GameState) (moment : ℕ)
    → Keeps g moment (Unit {0}) true (show_effect desk g moment)
Keeps-show_effect desk g moment = record {
  step = viewers_follow g moment (λ c. c.0) g.viewers;
  tells = λ s. names_shown desk (pairs_of g.seats) g.boards;
  memory = refl;
}
