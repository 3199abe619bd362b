-- What leaving keeps.
use Rattle.std.proofs.Common.{◌≤◌, ◌^◌, ℕ, Bool, true, false, if◌then◌else◌, Option, refl}
use Rattle.std.specs.Prelude.{is_some}
use Rattle.chess_model.specs.declared.why.Why.TheVariants.{Adjourned}
use Rattle.linked_desk.specs.declared.ended.Ended.{Ended}
use Rattle.observer_feed.specs.Feed.{without_viewer}
use Rattle.linked_desk.specs.Desk.{GameState, seat_of}
use Rattle.linked_desk.specs.Leave.{forfeit, leave_effect, leaving_end, game_left_by, game_waits}
use Rattle.linked_desk.specs.Offering.{end_without_winner}
use Rattle.linked_desk.specs.Sound.{FitsWhy}
use Rattle.linked_desk.proofs.Keeps.{Follows, Keeps, and_then, either, ended_follows, if_there, stays, viewers_follow}

-- an adjourned game names no winner, and a lost one does
names_either : (b : Bool) (one another : Ended) → FitsWhy one.why one.winner → FitsWhy another.why another.winner →
    FitsWhy (if b then one else another).why (if b then one else another).winner
names_either true one another m n = m
names_either false one another m n = n

leaving_names : (g : GameState) (seat : ℕ) → FitsWhy (leaving_end g seat).why (leaving_end g seat).winner
leaving_names g seat =
    names_either (game_waits g) (end_without_winner seat Adjourned) (forfeit seat) (λ e. e, λ e. e) (λ e. e, λ e. e)

left_follows : {conditions : Type 0} (desk : ℕ) (g : GameState) (moment : ℕ) (seat : Option ℕ)
    → (conditions → moment ≤ 2 ^ 48) →
    Follows conditions g (game_left_by desk g moment seat)
left_follows desk g moment seat timely =
    if_there (λ s. game_left_by desk g moment s) seat stays (λ number.
    either (is_some g.ended) stays (ended_follows g moment timely desk (leaving_end g number) (leaving_names g number)))

pub Keeps-leave_effect : (desk : ℕ) (g : GameState) (session moment : ℕ)
    → Keeps g moment (Unit {0}) false (leave_effect desk g session moment)
Keeps-leave_effect desk g session moment =
    let left : GameState = game_left_by desk g moment (seat_of g session) in
    record {
      step =
          and_then (left_follows desk g moment (seat_of g session) (λ c. c.0))
          (viewers_follow left moment (λ c. c.0) (without_viewer session left.viewers));
      tells = λ s. tt;
      memory = refl;
    }
