-- Handles in the order of their keys: that they stay in order where one more takes its place, and that each member's is
-- among them once.
use Rattle.std.proofs.Common.{◌≡◌, ℕ, suc, Bool, true, false, List, [], ◌∷◌, refl, arith}
use Rattle.std.specs.Prelude.{All, if◌then◌else◌}
use Rattle.std.specs.Cmp.{IsStrictWeakOrder}
use Rattle.std.specs.List.{AllPairs}
use Rattle.std.specs.List.Sorted.{IsPermutation}
use Rattle.std.proofs.lemmas.Cmp.{nat_list_cmp_total}
use Rattle.std.proofs.lemmas.List.Elements.{All-nil, All-cons, All-weaker}
use Rattle.std.proofs.lemmas.List.Kept.{AllPairs-cons}
use Rattle.std.proofs.lemmas.List.MinMax.{ranks_by}
use Rattle.std.proofs.lemmas.List.Sorted.{All-permutation, IsPermutation-cons, IsPermutation-middle, IsPermutation-refl, IsPermutation-trans}
use Rattle.fics_words.specs.Handle.{key_of}
use Rattle.lobby_state.specs.Who.{AreInOrderOfKeys, is_before, with_name}

-- of any two keys one comes before the other, or they are one
keys_rank : IsStrictWeakOrder is_before
keys_rank = ranks_by nat_list_cmp_total key_of

pub pairs_head : {X : Type 0} (R : X → X → Type 0) (x : X) (xs : List X) → AllPairs R (x ∷ xs) → All (R x) xs
pairs_head R x xs h k d inside = h 0 (suc k) d (omega arith) (omega (arith, inside))

pub pairs_tail : {X : Type 0} (R : X → X → Type 0) (x : X) (xs : List X) → AllPairs R (x ∷ xs) → AllPairs R xs
pairs_tail R x xs h i j d before inside = h (suc i) (suc j) d (omega (arith, before)) (omega (arith, inside))

-- one handle more, and the others as they were
more_by : (b : Bool) (name other : List ℕ) (names : List (List ℕ)) → IsPermutation (name ∷ names) (with_name name names)
    → IsPermutation (name ∷ other ∷ names) (if b then name ∷ other ∷ names else other ∷ with_name name names)
more_by true name other names h = IsPermutation-refl (name ∷ other ∷ names)
more_by false name other names h =
    IsPermutation-trans (name ∷ other ∷ names) (other ∷ name ∷ names) (other ∷ with_name name names)
    (IsPermutation-middle (name ∷ []) other names)
    (IsPermutation-cons other (name ∷ names) (with_name name names) h)

pub one_more : (name : List ℕ) (names : List (List ℕ)) → IsPermutation (name ∷ names) (with_name name names)
one_more name [] = IsPermutation-refl (name ∷ [])
one_more name (other ∷ names) = more_by (is_before name other) name other names (one_more name names)

pub All-with_name : (P : List ℕ → Type 0) (name : List ℕ) (names : List (List ℕ)) → P name → All P names
    → All P (with_name name names)
All-with_name P name names head tail =
    All-permutation P (name ∷ names) (with_name name names) (one_more name names) (All-cons P name names head tail)

-- they stay in order
abbrev NotBehind : List ℕ → List ℕ → Type 0
NotBehind one another = is_before another one ≡ false

order_by : (b : Bool) (name other : List ℕ) (names : List (List ℕ)) → is_before name other ≡ b
    → AreInOrderOfKeys (other ∷ names)
    → AreInOrderOfKeys (with_name name names)
    → AreInOrderOfKeys (if b then name ∷ other ∷ names else other ∷ with_name name names)
order_by true name other names e order rest =
    let first : NotBehind name other = keys_rank.one_way name other e in
    AllPairs-cons NotBehind name (other ∷ names)
    (All-cons (NotBehind name) other names first
    (All-weaker (NotBehind other) (NotBehind name) (λ y h. keys_rank.chain y other name h first) names
    (pairs_head NotBehind other names order)))
    order
order_by false name other names e order rest =
    AllPairs-cons NotBehind other (with_name name names)
    (All-with_name (NotBehind other) name names e (pairs_head NotBehind other names order)) rest

pub stays_in_order : (name : List ℕ) (names : List (List ℕ)) → AreInOrderOfKeys names
    → AreInOrderOfKeys (with_name name names)
stays_in_order name [] order = AllPairs-cons NotBehind name [] (All-nil (NotBehind name)) order
stays_in_order name (other ∷ names) order =
    order_by (is_before name other) name other names refl order
    (stays_in_order name names (pairs_tail NotBehind other names order))

-- no handle at all is in order
pub none_in_order : AreInOrderOfKeys []
none_in_order i j d before inside = absurd (omega (arith, inside))
