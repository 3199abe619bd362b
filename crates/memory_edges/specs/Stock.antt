-- A source in memory.
use Rattle.std.specs.Prelude.{ℕ, List}
use Rattle.memory_edges.specs.Plan.{Plan}

-- a source in memory: what it has left, the most that one read gives, and its plan of faults
pub record Stock : Type 0 where
  pub left : List ℕ
  pub cut : ℕ
  pub plan : Plan
