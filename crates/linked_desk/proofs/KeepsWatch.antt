-- What looking on keeps, from its beginning to its end.
use Rattle.std.proofs.Common.{ℕ, [], ◌∷◌, ◌++◌, true, false, refl}
use Rattle.observer_feed.specs.Feed.{without_viewer}
use Rattle.linked_desk.specs.Desk.{GameState}
use Rattle.linked_desk.specs.Seating.{board_item}
use Rattle.linked_desk.specs.Seats.{pairs_of}
use Rattle.linked_desk.specs.Sound.{NamesWinner}
use Rattle.linked_desk.specs.Watch.{from_now, watch_effect, unwatch_effect}
use Rattle.linked_desk.proofs.Keeps.{Keeps, All-each_board, viewers_follow}

pub Keeps-watch_effect : (desk : ℕ) (g : GameState) (session moment : ℕ)
    → Keeps g moment (Unit {0}) true (watch_effect desk g session moment)
Keeps-watch_effect desk g session moment = record {
  step = viewers_follow g moment (λ c. c.0) (g.viewers ++ from_now g session ∷ []);
  tells = λ s. All-each_board NamesWinner (board_item desk) (pairs_of g.seats) g.boards (λ players b. tt);
  memory = refl;
}

pub Keeps-unwatch_effect : (g : GameState) (session moment : ℕ)
    → Keeps g moment (Unit {0}) false (unwatch_effect g session moment)
Keeps-unwatch_effect g session moment = record {
  step = viewers_follow g moment (λ c. c.0) (without_viewer session g.viewers);
  tells = λ s. tt;
  memory = refl;
}
