-- A ray that stops at the first man in its way.
use Rattle.std.specs.Prelude.{◌≡◌, ℕ, ◌<◌, ◌↔◌}
use Rattle.std.specs.Int.{bit_at}
use Rattle.bitboard_core.specs.Sets.{Has}

-- the squares of a ray below which no square of it is occupied
pub record IsUpStop (ray occupied set : ℕ) : Type 0 where
  pub each : (t : ℕ) → t < 64 → Has set t ↔ (Has ray t × ((u : ℕ) → u < t → Has ray u → bit_at occupied u ≡ 0))

-- the squares of a ray above which no square of it is occupied
pub record IsDownStop (ray occupied set : ℕ) : Type 0 where
  pub each : (t : ℕ) → t < 64 → Has set t ↔ (Has ray t × ((u : ℕ) → u < 64 → t < u → Has ray u → bit_at occupied u ≡ 0))
