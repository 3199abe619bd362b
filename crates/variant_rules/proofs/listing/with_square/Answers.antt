use Rattle.std.proofs.Common.{arith, ◌≡◌, ◌↔◌, ◌⊎◌, ℕ, ◌<◌, ◌*◌, ◌^◌, ◌%◌, inl, inr, sym, ap, ◌∙◌, w64}
use Rattle.std.specs.Int.{bit_at}
use Rattle.std.specs.Int.RustNames.{bit_or}
use Rattle.std.proofs.lemmas.Nat.Bits.{bit_at_set_same, bit_at_set_other}
use Rattle.bitboard_core.specs.Sets.{Has}
use Rattle.variant_rules.proofs.listing.with_square.Goals as goal
use Rattle.std.proofs.lemmas.Bool.{cases_eq}

more : (set s t : ℕ) → s < 64 → Has (bit_or set (1 * 2 ^ s % 2 ^ 64)) t ↔ (Has set t ⊎ (t ≡ s))
more set s t ls = (
  λ h. elim (cases_eq t s) [
    | inl same ↦ inr same
    | inr other ↦ inl (sym (bit_at_set_other w64 set s ls t other) ∙ h)
  ],
  λ h. elim (cases_eq t s) [
    | inl same ↦ ap (bit_at (bit_or set (1 * 2 ^ s % 2 ^ 64))) same ∙ bit_at_set_same w64 set s ls
    | inr other ↦ bit_at_set_other w64 set s ls t other ∙ elim h [ inl e ↦ e | inr e ↦ absurd (other e) ]
  ],
)

pub returns : goal.returns
returns c t lt = rw c.number.ensures.value (more c.args.set c.args.s t (omega (arith, c.number.ensures)))
