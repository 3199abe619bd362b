-- Keys that come before all of some rows.
use Rattle.std.proofs.Common.{◌≡◌, ℕ, true, false, List, [], ◌∷◌, refl, ap}
use Rattle.std.specs.Ordering.{is_lt}
use Rattle.std.specs.declared.cmp.Ordering.{Ordering}
use Rattle.std.specs.declared.cmp.Ordering.TheVariants.{Less, Equal, Greater}
use Rattle.std.specs.Cmp.{first_so, second_so}
use Rattle.std.specs.Cmp.Lexicographic.{nat_list_cmp_total}
use Rattle.std.specs.FinMap.Entries.{below_all}
use Rattle.std.proofs.lemmas.Bool.{and_from}
use Rattle.edge_traits.specs.Pairs.{Pairs, keys_order}

-- the key comes before all of these
abbrev pub IsBelow : List ℕ → Pairs → Type 0
IsBelow key rows = below_all keys_order key rows ≡ true

pub is_less : (o : Ordering) → is_lt o ≡ true → o ≡ Less
is_less Less p = refl
is_less Equal p = absurd (let bad : false ≡ true = p in cc)
is_less Greater p = absurd (let bad : false ≡ true = p in cc)

-- and so does one that comes before it
pub IsBelow-less : (key other : List ℕ) (rows : Pairs) → keys_order key other ≡ Less → IsBelow other rows
    → IsBelow key rows
IsBelow-less key other [] p h = refl
IsBelow-less key other (e ∷ es) p h =
    let less = nat_list_cmp_total.trans key other e.0 p (is_less _ (first_so _ _ h)) in
    and_from _ _ (ap is_lt less) (IsBelow-less key other es p (second_so _ _ h))
