-- What is kept of a script's lines to tell which lines may still come.
use Rattle.std.specs.Prelude.{◌≡◌, ◌↔◌, ℕ, ◌+◌, ◌<◌, ◌≤◌, List, All, slice_index_or, if◌then◌else◌}
use Rattle.replay_core.specs.declared.order.Presence.{Presence}
use Rattle.replay_core.specs.declared.order.Presence.TheVariants.{Away, Here, Gone}
use Rattle.replay_core.specs.declared.order.Attendance.{Attendance}
use Rattle.replay_core.specs.Order.{Arrival, is_connected, has_left}

-- where a session stands after these lines
abbrev pub presence_of : ℕ → List Arrival → ℕ → Presence
presence_of seats lines session =
    if has_left lines session then Gone else (if is_connected seats lines session then Here else Away)

-- the progress is that of these lines: no moment is later than the one that is kept, which is no later than it has to
-- be, and each session stands where the lines left it
pub record IsAfter (progress : Attendance) (seats : ℕ) (lines : List Arrival) : Type 0 where
  pub moment : (moment : ℕ) → (progress.moment ≤ moment) ↔ All (λ came. came.line.moment ≤ moment) lines
  pub presences : (place : ℕ) (d : Presence) → place < 64 → slice_index_or progress.presences place d
      ≡ presence_of seats lines (place + 1)
