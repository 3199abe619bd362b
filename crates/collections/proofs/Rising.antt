-- Items whose numbers rise: some go, one comes, and which number is the first that is left out.
use Rattle.std.proofs.Common.{◌≡◌, ◌⊎◌, ℕ, zero, suc, ◌+◌, ◌<◌, ◌≤◌, Bool, true, false, not, cond, List, [], ◌∷◌, None, Some, length, get_or, refl, sym, ap, ◌∙◌, inl, inr, arith}
use Rattle.std.specs.Prelude.{◌==◌}
use Rattle.std.specs.List.{filter, find, insert, list_any}
use Rattle.std.proofs.lemmas.Bool.{cases_eq, eq-eqb, ne_eqb, or_from, or_left, or_parts, or_right}
use Rattle.std.proofs.lemmas.Option.{none-some}
use Rattle.collections.specs.Rising.{IsLeastUnused, RiseAbove, first_gap, is_used}
use Rattle.collections.proofs.Numbers.{not_same, not_same_above, past}

module _ {A : Type 0} (p : A → Bool) where
  -- where none passes, none is found
  pub find-none : (items : List A) → list_any p items ≡ false → find p items ≡ None
  find-none [] none = refl
  find-none (item ∷ items) none =
      let both = or_parts (p item) (list_any p items) none in
      ap (λ t. cond t (Some item) (find p items)) both.0 ∙ find-none items both.1

  -- and all are left
  pub all-left : (items : List A) → find p items ≡ None → filter (λ item. not (p item)) items ≡ items
  all-left [] none = refl
  all-left (item ∷ items) none =
      elim (p item)
      as (λ t.
      cond t (Some item) (find p items) ≡ None
      → cond (not t) (item ∷ filter (λ item. not (p item)) items) (filter (λ item. not (p item)) items)
      ≡ item ∷ items) [
        | true ↦ λ h. absurd (none-some _ (sym h))
        | false ↦ λ h. ap (λ l. item ∷ l) (all-left items h)
      ] none

module _ {A : Type 0} (number : A → ℕ) where
  -- an item has the first number, and the gap is behind it, or the gap is there
  gap_cases : (item : A) (items : List A) (n : ℕ)
      → ((number item ≡ n) × (first_gap number n (item ∷ items) ≡ first_gap number (number item + 1) items))
      ⊎ ((number item ≡ n → ⊥) × (first_gap number n (item ∷ items) ≡ n))
  gap_cases item items n =
      let step = λ (t : Bool). cond t (first_gap number (n + 1) items) n in
      elim (cases_eq (number item) n) [
        | inl same ↦
            inl (same, ap step (eq-eqb (number item) n same) ∙ ap (λ m. first_gap number (m + 1) items) (sym same))
        | inr differ ↦ inr (differ, ap step (ne_eqb (number item) n differ))
      ]

  pub first_gap-above : (items : List A) (n : ℕ) → n ≤ first_gap number n items
  first_gap-above [] n = omega arith
  first_gap-above (item ∷ items) n =
      let more = first_gap-above items (number item + 1) in
      elim (gap_cases item items n) [
        | inl next ↦ omega (arith, more, next.0, next.1)
        | inr here ↦ omega (arith, here.1)
      ]

  pub first_gap-within : (items : List A) (n : ℕ) → first_gap number n items ≤ length items + n
  first_gap-within [] n = omega arith
  first_gap-within (item ∷ items) n =
      let more = first_gap-within items (number item + 1) in
      elim (gap_cases item items n) [
        | inl next ↦ omega (arith, more, next.0, next.1)
        | inr here ↦ omega (arith, here.1)
      ]

  -- where a number isn't its place's, the gap is no further than there
  pub gap_before : (low : ℕ) (items : List A) (k : ℕ) (d : A) → k < length items
      → (number (get_or items k d) ≡ low + 1 + k → ⊥)
      → first_gap number (low + 1) items ≤ low + 1 + k
  gap_before low [] k d h differs = absurd (omega (arith, h))
  gap_before low (item ∷ items) zero d h differs =
      elim (gap_cases item items (low + 1)) [
        | inl next ↦ absurd (differs (omega (arith, next.0)))
        | inr here ↦ omega (arith, here.1)
      ]
  gap_before low (item ∷ items) (suc k) d h differs =
      elim (gap_cases item items (low + 1)) [
        | inl next ↦
            let rest =
            gap_before (number item) items k d (omega (arith, h)) (λ e. differs (omega (arith, next.0, e))) in
            omega (arith, next.0, next.1, rest)
        | inr here ↦ omega (arith, here.1)
      ]

  module _ (upper : ℕ) where
    RiseAbove-weaker : (low lower : ℕ) (items : List A) → lower ≤ low → RiseAbove number upper low items
        → RiseAbove number upper lower items
    RiseAbove-weaker low lower [] h rise = tt
    RiseAbove-weaker low lower (item ∷ items) h rise = (omega (arith, rise.0, h), rise.1, rise.2)

    pub RiseAbove-filter : (p : A → Bool) (low : ℕ) (items : List A) → RiseAbove number upper low items
        → RiseAbove number upper low (filter p items)
    RiseAbove-filter p low [] rise = tt
    RiseAbove-filter p low (item ∷ items) rise =
        let rest = RiseAbove-filter p (number item) items rise.2 in
        elim (p item) as (λ t. RiseAbove number upper low (cond t (item ∷ filter p items) (filter p items))) [
          | true ↦ (rise.0, rise.1, rest)
          | false ↦ RiseAbove-weaker (number item) low (filter p items) (omega (arith, rise.0)) rest
        ]

    -- an item with the first number that is left out, in its place
    pub RiseAbove-insert : (items : List A) (low k : ℕ) (new : A) → RiseAbove number upper low items
        → number new ≡ low + 1 + k → number new < upper
        → first_gap number (low + 1) items ≡ number new → RiseAbove number upper low (insert items k new)
    RiseAbove-insert [] low zero new rise is fits gap = (omega (arith, is), fits, tt)
    RiseAbove-insert [] low (suc k) new rise is fits gap = absurd (omega (arith, is, gap))
    RiseAbove-insert (item ∷ items) low zero new rise is fits gap =
        elim (gap_cases item items (low + 1)) [
          | inl next ↦
              let far = first_gap-above items (number item + 1) in absurd (omega (arith, far, next.0, next.1, gap, is))
          | inr here ↦
              let beyond = past low (number item) rise.0 here.0 in
              (omega (arith, is), fits, (omega (arith, beyond, is), rise.1, rise.2))
        ]
    RiseAbove-insert (item ∷ items) low (suc k) new rise is fits gap =
        elim (gap_cases item items (low + 1)) [
          | inl next ↦ (
            rise.0,
            rise.1,
            RiseAbove-insert items (number item) k new rise.2 (omega (arith, next.0, is)) fits (sym next.1 ∙ gap),
          )
          | inr here ↦ absurd (omega (arith, here.1, gap, is))
        ]

    -- there are no more items than numbers, and each has at least its place's
    pub length-rising : (items : List A) (low : ℕ) → low < upper → RiseAbove number upper low items
        → length items + low < upper
    length-rising [] low fits rise = omega (arith, fits)
    length-rising (item ∷ items) low fits rise =
        let more = length-rising items (number item) rise.1 rise.2 in
        omega (arith, more, rise.0)

    pub rises_by : (low : ℕ) (items : List A) (k : ℕ) (d : A) → RiseAbove number upper low items → k < length items
        → low + k < number (get_or items k d)
    rises_by low [] k d rise h = absurd (omega (arith, h))
    rises_by low (item ∷ items) zero d rise h = omega (arith, rise.0)
    rises_by low (item ∷ items) (suc k) d rise h =
        let more = rises_by (number item) items k d rise.2 (omega (arith, h)) in
        omega (arith, rise.0, more)

    -- where a number is its place's, the gap is behind it
    pub gap_behind : (low : ℕ) (items : List A) (k : ℕ) (d : A) → RiseAbove number upper low items → k < length items
        → number (get_or items k d) ≡ low + 1 + k → low + 1 + k < first_gap number (low + 1) items
    gap_behind low [] k d rise h at = absurd (omega (arith, h))
    gap_behind low (item ∷ items) zero d rise h at =
        let behind = first_gap-above items (number item + 1) in
        elim (gap_cases item items (low + 1)) [
          | inl next ↦ omega (arith, at, next.1, behind)
          | inr here ↦ absurd (here.0 (omega (arith, at)))
        ]
    gap_behind low (item ∷ items) (suc k) d rise h at =
        let far = rises_by (number item) items k d rise.2 (omega (arith, h)) in
        let is : number item ≡ low + 1 = omega (arith, rise.0, far, at) in
        let rest = gap_behind (number item) items k d rise.2 (omega (arith, h)) (omega (arith, is, at)) in
        elim (gap_cases item items (low + 1)) [
          | inl next ↦ omega (arith, is, next.1, rest)
          | inr here ↦ absurd (here.0 is)
        ]

    pub unused_above : (items : List A) (low n : ℕ) → n ≤ low → RiseAbove number upper low items
        → is_used number items n ≡ false
    unused_above [] low n h rise = refl
    unused_above (item ∷ items) low n h rise =
        or_from (number item == n) (is_used number items n)
        (ne_eqb (number item) n (not_same n (number item) (omega (arith, rise.0, h))))
        (unused_above items (number item) n (omega (arith, rise.0, h)) rise.2)

    first_gap-unused : (items : List A) (low : ℕ) → RiseAbove number upper low items
        → is_used number items (first_gap number (low + 1) items) ≡ false
    first_gap-unused [] low rise = refl
    first_gap-unused (item ∷ items) low rise =
        let far = first_gap-above items (number item + 1) in
        let unused : (n : ℕ) → (number item ≡ n → ⊥) → is_used number items n ≡ false
        → is_used number (item ∷ items) n ≡ false =
        λ n differ rest. or_from (number item == n) (is_used number items n) (ne_eqb (number item) n differ) rest in
        elim (gap_cases item items (low + 1)) [
          | inl next ↦ ap (is_used number (item ∷ items)) next.1
              ∙ unused _ (not_same_above (number item) _ (omega (arith, far)))
              (first_gap-unused items (number item) rise.2)
          | inr here ↦ ap (is_used number (item ∷ items)) here.1
              ∙ unused _ here.0 (unused_above items (number item) (low + 1) (omega (arith, rise.0)) rise.2)
        ]

    first_gap-least : (items : List A) (low k : ℕ) → RiseAbove number upper low items → low < k
        → k < first_gap number (low + 1) items
        → is_used number items k ≡ true
    first_gap-least [] low k rise above below = absurd (omega (arith, above, below))
    first_gap-least (item ∷ items) low k rise above below =
        elim (gap_cases item items (low + 1)) [
          | inl next ↦ elim (cases_eq (number item) k) [
            | inl same ↦ or_left (number item == k) (is_used number items k) (eq-eqb (number item) k same)
            | inr differ ↦ or_right (number item == k) (is_used number items k)
                (first_gap-least items (number item) k rise.2 (beyond (number item) low k next.0 above differ)
                (omega (arith, below, next.1)))
          ]
          | inr here ↦ absurd (omega (arith, above, below, here.1))
        ]
      where
        beyond : (a low k : ℕ) → a ≡ low + 1 → low < k → (a ≡ k → ⊥) → a < k
        beyond a low k next above differ = grind arith

    -- the first number from 1 on that is left out is the least positive one that no item has
    pub first_gap-is_least : (items : List A) → RiseAbove number upper 0 items
        → IsLeastUnused number items (first_gap number 1 items)
    first_gap-is_least items rise = record {
      positive = omega (arith, first_gap-above items 1);
      unused = first_gap-unused items 0 rise;
      least = λ k positive below. first_gap-least items 0 k rise positive below;
    }
