-- A placement that is copied square by square.
use Rattle.std.proofs.Common.{arith, ◌≡◌, ◌≢◌, ℕ, ◌+◌, ◌<◌, ◌≤◌, refl, sym, ap, ◌∙◌, inl, inr, None, length, replicate}
use Rattle.std.specs.Prelude.{slice_set}
use Rattle.std.proofs.lemmas.Bool.{cases_order}
use Rattle.std.proofs.lemmas.List.{length-set, get_or-set_other, get_or-set_same, get_or_default, same_lists}
use Rattle.chess_model.specs.Placement.{Placement, man_at}

-- the copy has 64 squares, and those below n are as in the placement
pub record IsCopiedBelow (P copy : Placement) (n : ℕ) : Type 0 where
  pub size : length copy ≡ 64
  pub below : (k : ℕ) → k < n → man_at copy k ≡ man_at P k

pub copied-none : (P : Placement) → IsCopiedBelow P (replicate 64 None) 0
copied-none P = record { size = refl; below = λ k lk. absurd (omega (arith, lk)) }

pub copied-more : (P copy : Placement) (s : ℕ) → s < 64 → IsCopiedBelow P copy s
    → IsCopiedBelow P (slice_set copy s (man_at P s)) (s + 1)
copied-more P copy s ls h = record {
  size = length-set copy s (man_at P s) ∙ h.size;
  below = λ k lk. elim (cases_order k s) [
    | inl same ↦ ap (man_at (slice_set copy s (man_at P s))) same
        ∙ get_or-set_same copy s (man_at P s) None (omega (arith, ls, h.size)) ∙ ap (man_at P) (sym same)
    | inr other ↦
        let apart : k ≢ s = elim other [ inl l ↦ omega (arith, l) | inr l ↦ omega (arith, l) ] in
        let less : k < s = elim other [ inl l ↦ l | inr l ↦ absurd (omega (arith, l, lk)) ] in
        get_or-set_other copy s k (man_at P s) None apart ∙ h.below k less
  ];
}

pub copied-all : (P copy : Placement) (n : ℕ) → length P ≡ 64 → 64 ≤ n → IsCopiedBelow P copy n → copy ≡ P
copied-all P copy n size end h = same_lists copy P (h.size ∙ sym size) (λ k d lk.
    let less : k < 64 = omega (arith, lk, h.size) in
    let inside : k < length P = omega (arith, less, size) in
    get_or_default copy k d None lk ∙ h.below k (omega (arith, less, end)) ∙ get_or_default P k None d inside)
