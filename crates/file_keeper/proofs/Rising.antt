-- Pairs whose keys rise from each to the next one.
use Rattle.std.proofs.Common.{◌≡◌, ℕ, suc, ◌+◌, ◌-◌, ◌<◌, ◌≤◌, List, [], ◌∷◌, length, drop, get_or, refl, sym, ap, subst, ◌∙◌, arith}
use Rattle.std.specs.Ordering.{is_lt}
use Rattle.std.specs.declared.cmp.Ordering.TheVariants.{Less}
use Rattle.std.proofs.Math.Seq.{drop-cons}
use Rattle.std.proofs.lemmas.List.{length-drop}
use Rattle.edge_traits.specs.Pairs.{Pairs, IsAscending, keys_order}
use Rattle.std.proofs.lemmas.Bool.{and_from}
use Rattle.std.specs.Cmp.{first_so}
use Rattle.edge_traits.proofs.Rising.{IsBelow-less}

IsAscending-cons : (x y : List ℕ × List ℕ) (es : Pairs) → keys_order x.0 y.0 ≡ Less → IsAscending (y ∷ es)
    → IsAscending (x ∷ y ∷ es)
IsAscending-cons x y es less h =
    and_from _ _ (and_from _ _ (ap is_lt less) (IsBelow-less x.0 y.0 es less (first_so _ _ h))) h

-- all pairs ascend if those from the one before this place on do
pub record IsRisen (pairs : Pairs) (i : ℕ) : Type 0 where
  pub whole : IsAscending (drop (i - 1) pairs) → IsAscending pairs

pub IsRisen-start : (pairs : Pairs) → IsRisen pairs 1
IsRisen-start pairs = record { whole = λ h. h }

pub IsRisen-next : (pairs : Pairs) (i : ℕ) (x y : List ℕ × List ℕ) → 1 ≤ i → i < length pairs
    → x ≡ get_or pairs (i - 1) x → y ≡ get_or pairs i y
    → keys_order x.0 y.0 ≡ Less → IsRisen pairs i → IsRisen pairs (i + 1)
IsRisen-next pairs i x y first within at_x at_y less risen =
    let place : suc (i - 1) ≡ i = omega arith in
    let back : (i + 1) - 1 ≡ i = omega arith in
    let before : i - 1 < length pairs = omega arith in
    let from_x : drop (i - 1) pairs ≡ x ∷ drop (suc (i - 1)) pairs =
    drop-cons pairs (i - 1) x before ∙ ap (λ e. e ∷ drop (suc (i - 1)) pairs) (sym at_x) in
    let from_y : drop i pairs ≡ y ∷ drop (suc i) pairs =
    drop-cons pairs i y within ∙ ap (λ e. e ∷ drop (suc i) pairs) (sym at_y) in
    let both : drop (i - 1) pairs ≡ x ∷ y ∷ drop (suc i) pairs =
    from_x ∙ ap (λ n. x ∷ drop n pairs) place ∙ ap (λ l. x ∷ l) from_y in
    record {
      whole = λ h.
          let rest : IsAscending (y ∷ drop (suc i) pairs) =
          subst IsAscending from_y (subst (λ n. IsAscending (drop n pairs)) back h) in
          risen.whole (subst IsAscending (sym both) (IsAscending-cons x y (drop (suc i) pairs) less rest));
    }

short : (l : Pairs) → length l ≤ 1 → IsAscending l
short [] h = refl
short (e ∷ []) h = refl
short (e ∷ f ∷ es) h = absurd (let bad : suc (suc (length es)) ≤ 1 = h in omega arith)

pub IsRisen-end : (pairs : Pairs) (i : ℕ) → 1 ≤ i → length pairs ≤ i → IsRisen pairs i → IsAscending pairs
IsRisen-end pairs i first past risen =
    let small : length pairs - (i - 1) ≤ 1 = omega arith in
    risen.whole (short (drop (i - 1) pairs) (subst (λ n. n ≤ 1) (sym (length-drop (i - 1) pairs)) small))
