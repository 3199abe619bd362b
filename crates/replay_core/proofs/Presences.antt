-- What a session's presence tells of the lines that came.
use Rattle.std.proofs.Common.{◌≡◌, ◌↔◌, Bool, true, false, not, cond, ℕ, ◌+◌, ◌-◌, ◌≤◌, List, get_or, refl, sym, ◌∙◌, ap, arith}
use Rattle.replay_core.specs.declared.order.Presence.{Presence}
use Rattle.replay_core.specs.declared.order.Presence.TheVariants.{Away, Here, Gone}
use Rattle.replay_core.specs.declared.order.Attendance.{Attendance}
use Rattle.replay_core.specs.declared.script.ScriptLine.{ScriptLine}
use Rattle.replay_core.specs.Order.{Arrival, LineMayCome, is_connect, is_connected, has_left}
use Rattle.replay_core.specs.Attendance.{IsAfter, presence_of}

away_tells : (gone connected : Bool) → cond gone Gone (cond connected Here Away) ≡ Away
    → (gone ≡ false) × (connected ≡ false)
away_tells true connected e = absurd cc
away_tells false true e = absurd cc
away_tells false false e = (refl, refl)

here_tells : (gone connected : Bool) → cond gone Gone (cond connected Here Away) ≡ Here
    → (gone ≡ false) × (connected ≡ true)
here_tells true connected e = absurd cc
here_tells false true e = (refl, refl)
here_tells false false e = absurd cc

-- the presence that is kept of a session
pub presence_at : (progress : Attendance) (seats : ℕ) (lines : List Arrival) (session : ℕ) (d p : Presence)
    → IsAfter progress seats lines → 1 ≤ session → session ≤ 64 → get_or progress.presences (session - 1) d ≡ p
    → presence_of seats lines session ≡ p
presence_at progress seats lines session d p after first last e =
    let place : session - 1 + 1 ≡ session = omega arith in
    ap (presence_of seats lines) (sym place) ∙ sym (after.presences (session - 1) d (omega arith)) ∙ e

-- a session that is away may connect, and do nothing else
pub may_connect : (progress : Attendance) (seats : ℕ) (lines : List Arrival) (next : ScriptLine)
    → IsAfter progress seats lines → progress.moment ≤ next.moment → presence_of seats lines next.session ≡ Away
    → (is_connect next.event ≡ true) ↔ LineMayCome seats lines next
may_connect progress seats lines next after moment away =
    let tells = away_tells (has_left lines next.session) (is_connected seats lines next.session) away in (
      λ connects.
          record {
            moment = (after.moment next.moment).0 moment;
            stays = tells.0;
            connects = connects ∙ sym (ap not tells.1);
          },
      λ may. may.connects ∙ ap not tells.1,
    )

-- a session that is here may do all else
pub may_go_on : (progress : Attendance) (seats : ℕ) (lines : List Arrival) (next : ScriptLine)
    → IsAfter progress seats lines → progress.moment ≤ next.moment → presence_of seats lines next.session ≡ Here
    → (is_connect next.event ≡ false) ↔ LineMayCome seats lines next
may_go_on progress seats lines next after moment here =
    let tells = here_tells (has_left lines next.session) (is_connected seats lines next.session) here in (
      λ connects.
          record {
            moment = (after.moment next.moment).0 moment;
            stays = tells.0;
            connects = connects ∙ sym (ap not tells.1);
          },
      λ may. may.connects ∙ ap not tells.1,
    )
