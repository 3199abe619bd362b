-- What the fields of a `Bits` keep.
use Rattle.std.specs.Prelude.{◌≡◌, ℕ, ◌<◌, length, is_some, slice_index}
use Rattle.bitboard_core.specs.declared.bits.Bits.TheInside.{Inside}
use Rattle.bitboard_core.specs.Sets.{IsSetOf}
use Rattle.bitboard_core.specs.Strikers.{is_placed, is_promoted}

-- 64 squares, and each set has the squares of its men
pub record AreKept (b : Inside) : Type 0 where
  pub squares : length b.squares ≡ 64
  pub places : length b.men ≡ 12
  pub men : (i : ℕ) → i < 12 → IsSetOf (is_placed i) b.squares (slice_index b.men i)
  pub promoted : IsSetOf is_promoted b.squares b.promoted
  pub occupied : IsSetOf is_some b.squares b.occupied
