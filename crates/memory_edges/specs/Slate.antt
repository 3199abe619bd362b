-- A sink in memory.
use Rattle.std.specs.Prelude.{ℕ, List}
use Rattle.memory_edges.specs.Plan.{Plan}

-- a sink in memory: what it was written, and its plan of faults
pub record Slate : Type 0 where
  pub written : List ℕ
  pub plan : Plan
