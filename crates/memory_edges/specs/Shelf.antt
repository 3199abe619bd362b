-- A keeper in memory: its pairs, and where a key stands among them.
use Rattle.std.specs.Prelude.{◌≡◌, ℕ, ◌<◌, ◌≤◌, not, List, length, slice_set, insert, remove, filter}
use Rattle.std.specs.Ordering.{eq_by_cmp}
use Rattle.std.specs.FinMap.{put}
use Rattle.edge_traits.specs.Calls.{Calls}
use Rattle.edge_traits.specs.Pairs.{Pairs, keys_order}
use Rattle.memory_edges.specs.Plan.{Plan}
use Rattle.memory_edges.specs.declared.mem_keeper.KeyPlace.{KeyPlace}
use Rattle.memory_edges.specs.declared.mem_keeper.KeyPlace.TheVariants.{At, Gap}

-- a keeper in memory: its pairs in ascending order of key, its plan of faults, and the calls that it had
pub record Shelf : Type 0 where
  pub pairs : Pairs
  pub plan : Plan
  pub calls : Calls

-- the pairs with another key
abbrev pub pairs_without : List ℕ → Pairs → Pairs
pairs_without key = filter (λ pair. not (eq_by_cmp keys_order key pair.0))

-- where a key stands among the pairs, or would stand
abbrev pub IsPlace : Pairs → List ℕ → KeyPlace → Type 0
IsPlace pairs key (At i) =
    (i < length pairs) × ((bytes : List ℕ) → put keys_order key bytes pairs ≡ slice_set pairs i (key, bytes))
    × (pairs_without key pairs ≡ remove pairs i)
IsPlace pairs key (Gap i) =
    (i ≤ length pairs) × ((bytes : List ℕ) → put keys_order key bytes pairs ≡ insert pairs i (key, bytes))
    × (pairs_without key pairs ≡ pairs)
