-- The mask that cuts a ray at the first man in its way.
use Rattle.std.proofs.Common.{arith, ◌≡◌, ◌≢◌, ℕ, suc, ◌+◌, ◌-◌, ◌*◌, ◌/◌, ◌%◌, ◌^◌, ◌<◌, ◌≤◌, ◌⊎◌, ap, ◌∙◌, inl, inr, w64}
use Rattle.std.specs.Int.{bit_at}
use Rattle.std.specs.Int.RustNames.{bit_or}
use lib.Bits.{bit_and}
use Rattle.std.proofs.lemmas.Bool.{cases_lt}
use Rattle.std.proofs.lemmas.Nat.Bits.{bit_at_and, bit_at_or, bit_at-lt, bit_at-pow_other, bit_at_ones, bit_at_ones_above, bit_at_mask_inside, bit_at_mask_below}
use lib.Count.{count_trailing_zeros}
use Rattle.std.proofs.lemmas.Nat.{or_lt, and_le_l, le_or_r}
use Rattle.std.proofs.lemmas.Nat.Bits.{bit_at-trailing_zeros, ones_shr, ones_shl}
use Rattle.std.proofs.Math.Nat.{two-pow-succ, div-eq_of_lt}
use Rattle.std.proofs.Common.{pow_pos, pow_mono, div-lt_iff_lt-mul, le-div_iff_mul-le}
use Rattle.bitboard_core.specs.Sets.{Has}
use Rattle.bitboard_core.specs.Stops.{IsUpStop, IsDownStop}
use Rattle.bitboard_core.proofs.SetLemmas.{Has-and, Has-and_both}

-- the first place of `ray & occupied`, or 63
pub up_stop : (ray occupied stop mask : ℕ) → stop < 64 → bit_at (bit_or (bit_and ray occupied) (2 ^ 63)) stop ≡ 1 →
    ((i : ℕ) → i < stop → bit_at (bit_or (bit_and ray occupied) (2 ^ 63)) i ≡ 0) → mask ≡ 2 ^ (stop + 1) - 1 →
    IsUpStop ray occupied (bit_and ray mask)
up_stop ray occupied stop mask within here below e = record { each = λ t lt. (to t lt, from t lt) }
  where
    clear : (u : ℕ) → u < stop → Has ray u → bit_at occupied u ≡ 0
    clear u lt on =
        omega (
          arith,
          on,
          below u lt,
          bit_at_or (bit_and ray occupied) (2 ^ 63) u,
          bit_at_and ray occupied u,
          bit_at-lt occupied u,
        )

    to : (t : ℕ) → t < 64 → Has (bit_and ray mask) t
        → (Has ray t × ((u : ℕ) → u < t → Has ray u → bit_at occupied u ≡ 0))
    to t lt h =
        let both = Has-and ray mask t h in (both.0, λ u less on. clear u (near (cases_lt t (stop + 1)) both.1 less) on)
      where
        near : (t < stop + 1) ⊎ (stop + 1 ≤ t) → Has mask t → {u : ℕ} → u < t → u < stop
        near (inl l) m less = omega arith
        near (inr l) m less = absurd (omega (arith, m, ap (λ x. bit_at x t) e, bit_at_ones_above (stop + 1) t l))

    from : (t : ℕ) → t < 64 → (Has ray t × ((u : ℕ) → u < t → Has ray u → bit_at occupied u ≡ 0))
        → Has (bit_and ray mask) t
    from t lt h = Has-and_both ray mask t h.0 (inside (cases_lt t (stop + 1)))
      where
        inside : (t < stop + 1) ⊎ (stop + 1 ≤ t) → Has mask t
        inside (inl l) = ap (λ x. bit_at x t) e ∙ bit_at_ones (stop + 1) t l
        inside (inr l) =
            let other : stop ≢ 63 = omega arith in
            let both : bit_at (bit_and ray occupied) stop ≡ 1 =
            omega (arith, here, bit_at_or (bit_and ray occupied) (2 ^ 63) stop, bit_at-pow_other 63 stop other) in
            let parts = Has-and ray occupied stop both in
            let less : stop < t = omega arith in
            absurd (omega (arith, parts.1, h.1 stop less parts.0))

-- the last place of `ray & occupied`, or 0
pub down_stop : (ray occupied stop mask : ℕ) → stop < 64 → bit_at (bit_or (bit_and ray occupied) 1) stop ≡ 1 →
    ((i : ℕ) → stop < i → bit_at (bit_or (bit_and ray occupied) 1) i ≡ 0) → mask ≡ 2 ^ 64 - 2 ^ stop →
    IsDownStop ray occupied (bit_and ray mask)
down_stop ray occupied stop mask within here above e = record { each = λ t lt. (to t lt, from t lt) }
  where
    clear : (u : ℕ) → stop < u → Has ray u → bit_at occupied u ≡ 0
    clear u lt on =
        omega
        (arith, on, above u lt, bit_at_or (bit_and ray occupied) 1 u, bit_at_and ray occupied u, bit_at-lt occupied u)

    to : (t : ℕ) → t < 64 → Has (bit_and ray mask) t
        → (Has ray t × ((u : ℕ) → u < 64 → t < u → Has ray u → bit_at occupied u ≡ 0))
    to t lt h =
        let both = Has-and ray mask t h in (both.0, λ u high less on. clear u (near (cases_lt t stop) both.1 less) on)
      where
        near : (t < stop) ⊎ (stop ≤ t) → Has mask t → {u : ℕ} → t < u → stop < u
        near (inr l) m less = omega arith
        near (inl l) m less = absurd (omega (arith, m, ap (λ x. bit_at x t) e, bit_at_mask_below stop 64 t l))

    from : (t : ℕ) → t < 64 → (Has ray t × ((u : ℕ) → u < 64 → t < u → Has ray u → bit_at occupied u ≡ 0))
        → Has (bit_and ray mask) t
    from t lt h = Has-and_both ray mask t h.0 (inside (cases_lt t stop))
      where
        inside : (t < stop) ⊎ (stop ≤ t) → Has mask t
        inside (inr l) = ap (λ x. bit_at x t) e ∙ bit_at_mask_inside stop 64 t l lt
        inside (inl l) =
            let other : stop ≢ 0 = omega arith in
            let both : bit_at (bit_and ray occupied) stop ≡ 1 =
            omega (arith, here, bit_at_or (bit_and ray occupied) 1 stop, bit_at-pow_other 0 stop other) in
            let parts = Has-and ray occupied stop both in
            absurd (omega (arith, parts.1, h.1 stop within l parts.0))

either-lt : (ray occupied : ℕ) → ray < 2 ^ 64 → bit_or (bit_and ray occupied) (2 ^ 63) < 2 ^ 64
either-lt ray occupied h =
    or_lt 64 (bit_and ray occupied) (2 ^ 63) (omega (arith, h, and_le_l ray occupied)) (omega arith)

either-pos : (ray occupied b : ℕ) → 0 < b → 0 < bit_or (bit_and ray occupied) b
either-pos ray occupied b h = omega (arith, h, le_or_r (bit_and ray occupied) b)

pub up_stop-lt : (ray occupied : ℕ) → ray < 2 ^ 64
    → count_trailing_zeros 64 (bit_or (bit_and ray occupied) (2 ^ 63)) < 64
up_stop-lt ray occupied h =
    (bit_at-trailing_zeros w64 (bit_or (bit_and ray occupied) (2 ^ 63)) (either-pos ray occupied (2 ^ 63) (omega arith))
    (either-lt ray occupied h)).0

pub up_stop_by_zeros : (ray occupied : ℕ) → ray < 2 ^ 64 →
    IsUpStop ray occupied
    (bit_and ray ((2 ^ 64 - 1) / 2 ^ (63 - count_trailing_zeros 64 (bit_or (bit_and ray occupied) (2 ^ 63)))))
up_stop_by_zeros ray occupied h =
    let n = bit_or (bit_and ray occupied) (2 ^ 63) in
    let stop = count_trailing_zeros 64 n in
    let zeros =
    bit_at-trailing_zeros w64 n (either-pos ray occupied (2 ^ 63) (omega arith)) (either-lt ray occupied h) in
    let within : stop < 64 = zeros.0 in
    let less : 63 - stop ≤ 64 = omega arith in
    let width : 64 - (63 - stop) ≡ stop + 1 = omega (arith, within) in
    up_stop ray occupied stop ((2 ^ 64 - 1) / 2 ^ (63 - stop)) within zeros.1 zeros.2
    (ones_shr 64 (63 - stop) less ∙ ap (λ w. 2 ^ w - 1) width)

-- the highest set bit, and none above it
bit_at_top : (m k : ℕ) → 2 ^ k ≤ m → m < 2 * 2 ^ k → bit_at m k ≡ 1
bit_at_top m k low high =
    let p = pow_pos k in
    let a : m / 2 ^ k < 2 = (div-lt_iff_lt-mul p).1 high in
    let b : 1 ≤ m / 2 ^ k = (le-div_iff_mul-le p).1 (omega arith) in
    omega arith

bit_at_above_top : (m j k : ℕ) → m < 2 * 2 ^ j → j < k → bit_at m k ≡ 0
bit_at_above_top m j k high l =
    let a : m < 2 ^ k = omega (arith, two-pow-succ j, pow_mono {i = suc j} {j = k} (omega arith)) in
    ap (λ x. x % 2) (div-eq_of_lt a)

pub down_stop-some : (ray occupied : ℕ) → 0 < bit_or (bit_and ray occupied) 1
down_stop-some ray occupied = either-pos ray occupied 1 (omega arith)

pub down_stop_by_top : (ray occupied stop : ℕ) → stop < 64 → 2 ^ stop ≤ bit_or (bit_and ray occupied) 1 →
    bit_or (bit_and ray occupied) 1 < 2 * 2 ^ stop
    → IsDownStop ray occupied (bit_and ray ((2 ^ 64 - 1) * 2 ^ stop % 2 ^ 64))
down_stop_by_top ray occupied stop within low high =
    let n = bit_or (bit_and ray occupied) 1 in
    let le : stop ≤ 64 = omega (arith, within) in
    down_stop ray occupied stop ((2 ^ 64 - 1) * 2 ^ stop % 2 ^ 64) within (bit_at_top n stop low high)
    (λ i more. bit_at_above_top n stop i high more) (ones_shl 64 stop le)
