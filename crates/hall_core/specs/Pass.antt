-- What contracts see of a pass of the hall.
use Rattle.std.specs.Prelude.{ℕ, ◌<◌, ◌≤◌, Bool, List, map}
use Rattle.atomic_table.specs.Seated.{TableId}
use Rattle.one_server.specs.declared.act.Timed.{Timed}
use Rattle.one_server.specs.declared.part.Part.{Part}
use Rattle.one_server.specs.declared.reply.Reply.{Reply}
use Rattle.one_server.specs.Running.{Log}
use Rattle.turn_table.specs.declared.view.Joined.{Joined}
use Rattle.turn_table.specs.Views.{In, joined_number}

-- which hall the pass is of, and its number, which is its session; how many passes were split from it, and those that
-- were joined into it, with their calls; the opening state of the hall, what the pass has seen of the history and what
-- it made; the parts that it tried while another pass had them, the latest last; and whether it was noted that memory
-- ran out
pub record PassState : Type 0 where
  pub home : TableId
  pub number : ℕ
  pub splits : ℕ
  pub joined : List (Joined Timed Reply)
  pub opening : List Part
  pub seen : Log
  pub made : Log
  pub busy : List ℕ
  pub short : Bool

-- every pass that was split from this one was joined into it
abbrev pub EveryoneJoined : PassState → Type 0
EveryoneJoined pass = (m : ℕ) → 0 < m → m ≤ pass.splits → In m (map joined_number pass.joined)
