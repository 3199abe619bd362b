-- Turns in a circle of places: back again, and all the way round.
use Rattle.std.proofs.Common.{◌≡◌, ℕ, ◌+◌, ◌-◌, ◌<◌, ◌≤◌, zero, suc, cond, ap, refl, ◌∙◌, inl, inr, arith}
use Rattle.std.proofs.lemmas.Bool.{cases_lt, lt-ltb, le-ltb, ne_eqb}
use Rattle.simul_control.specs.declared.direction.Direction.{Direction}
use Rattle.simul_control.specs.declared.direction.Direction.TheVariants.{Next, Previous}
use Rattle.simul_control.specs.Laws.{turned_often}
use Rattle.simul_control.specs.Places.{turned_from}

next_inside : (count at : ℕ) → at + 1 < count → turned_from Next count at ≡ at + 1
next_inside count at h = ap (λ b. cond b (at + 1) 0) (lt-ltb (at + 1) count h)

next_last : (count at : ℕ) → count ≤ at + 1 → turned_from Next count at ≡ 0
next_last count at h = ap (λ b. cond b (at + 1) 0) (le-ltb (at + 1) count h)

previous_inside : (count at : ℕ) → 1 ≤ at → turned_from Previous count at ≡ at - 1
previous_inside count at h = ap (λ b. cond b (count - 1) (at - 1)) (ne_eqb at 0 (λ e. omega arith))

-- a turn back undoes a turn on
pub back : (count at : ℕ) → at ≤ count - 1 → turned_from Previous count (turned_from Next count at) ≡ at
back count at h = elim (cases_lt (at + 1) count) [
  | inl more ↦
      let same : at + 1 - 1 ≡ at = omega arith in
      ap (turned_from Previous count) (next_inside count at more) ∙ previous_inside count (at + 1) (omega arith) ∙ same
  | inr last ↦
      let same : count - 1 ≡ at = omega arith in
      ap (turned_from Previous count) (next_last count at last) ∙ same
]

-- and a turn on undoes a turn back
pub on : (count at : ℕ) → at ≤ count - 1 → turned_from Next count (turned_from Previous count at) ≡ at
on count zero h = next_last count (count - 1) (omega arith)
on count (suc at) h =
    let less : suc at - 1 ≡ at = omega arith in
    let same : at + 1 ≡ suc at = omega arith in
    ap (turned_from Next count) (previous_inside count (suc at) (omega arith) ∙ less)
    ∙ next_inside count at (omega arith) ∙ same

-- turns on that stay before the end
climb : (turns count at : ℕ) → at + turns < count → turned_often turns Next count at ≡ at + turns
climb zero count at h = let same : at ≡ at + 0 = omega arith in same
climb (suc turns) count at h =
    let same : at + 1 + turns ≡ at + suc turns = omega arith in
    ap (turned_often turns Next count) (next_inside count at (omega arith)) ∙ climb turns count (at + 1) (omega arith)
    ∙ same

-- turns on that pass the end
over : (turns count at : ℕ) → at < count → turns ≤ count → count ≤ at + turns
    → turned_often turns Next count at ≡ at + turns - count
over zero count at h most past = absurd (omega arith)
over (suc turns) count at h most past = elim (cases_lt (at + 1) count) [
  | inl more ↦
      let same : at + 1 + turns - count ≡ at + suc turns - count = omega arith in
      ap (turned_often turns Next count) (next_inside count at more)
      ∙ over turns count (at + 1) more (omega arith) (omega arith) ∙ same
  | inr last ↦
      let same : 0 + turns ≡ at + suc turns - count = omega arith in
      ap (turned_often turns Next count) (next_last count at last) ∙ climb turns count 0 (omega arith) ∙ same
]

-- turns back that stay behind the first
descend : (turns count at : ℕ) → turns ≤ at → turned_often turns Previous count at ≡ at - turns
descend zero count at h = let same : at ≡ at - 0 = omega arith in same
descend (suc turns) count at h =
    let same : at - 1 - turns ≡ at - suc turns = omega arith in
    ap (turned_often turns Previous count) (previous_inside count at (omega arith))
    ∙ descend turns count (at - 1) (omega arith) ∙ same

-- turns back that pass the first
under : (turns count at : ℕ) → at < count → turns ≤ count → at < turns
    → turned_often turns Previous count at ≡ at + count - turns
under zero count at h most past = absurd (omega arith)
under (suc turns) count zero h most past =
    let same : count - 1 - turns ≡ 0 + count - suc turns = omega arith in
    descend turns count (count - 1) (omega arith) ∙ same
under (suc turns) count (suc at) h most past =
    let less : suc at - 1 ≡ at = omega arith in
    let same : at + count - turns ≡ suc at + count - suc turns = omega arith in
    ap (turned_often turns Previous count) (previous_inside count (suc at) (omega arith) ∙ less)
    ∙ under turns count at (omega arith) (omega arith) (omega arith) ∙ same

-- as many turns as there are places
pub round : (count at : ℕ) → at ≤ count - 1 → (way : Direction) → turned_often count way count at ≡ at
round zero at h way = refl
round (suc count) at h Next =
    let same : at + suc count - suc count ≡ at = omega arith in
    over (suc count) (suc count) at (omega arith) (omega arith) (omega arith) ∙ same
round (suc count) at h Previous =
    let same : at + suc count - suc count ≡ at = omega arith in
    under (suc count) (suc count) at (omega arith) (omega arith) (omega arith) ∙ same
