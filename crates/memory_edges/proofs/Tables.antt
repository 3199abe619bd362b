-- Sorted pairs as finite maps.
use Rattle.std.proofs.Common.{◌≡◌, ℕ, Bool, true, false, cond, not, List, T, refl, sym, ap, subst, ◌∙◌}
use Rattle.std.specs.Ordering.{eq_by_cmp}
use Rattle.std.specs.Cmp.Lexicographic.{nat_list_cmp_total}
use Rattle.std.specs.FinMap as map
use Rattle.std.specs.FinMap.{put, is_sorted, find, get-remove, get-from_sorted, same_map, same_entries_map, entries-insert, entries-from_sorted, nat_cmp-IsAntisymmetric, slice_cmp-IsAntisymmetric}
use Rattle.std.specs.FinMap.Entries.{is_sorted-put, is_sorted-where_key, find-where_key}
use Rattle.std.specs.Cmp.{eq_by_cmp_equiv}
use Rattle.std.specs.declared.cmp.Ordering.TheVariants.{Equal}
use Rattle.std.proofs.Common.{None}
use Rattle.edge_traits.specs.Pairs.{Pairs, IsAscending, keys_order}
use Rattle.memory_edges.specs.Shelf.{pairs_without}

sorted_test : (pairs : Pairs) → IsAscending pairs → T (is_sorted keys_order pairs)
sorted_test pairs h = subst T (sym h) tt

true_of : (b : Bool) → T b → b ≡ true
true_of true h = refl
true_of false h = absurd h

pub IsAscending-put : (key bytes : List ℕ) (pairs : Pairs) → IsAscending pairs
    → IsAscending (put keys_order key bytes pairs)
IsAscending-put key bytes pairs h =
    true_of _ (is_sorted-put keys_order nat_list_cmp_total key bytes pairs (sorted_test pairs h))

pub IsAscending-without : (key : List ℕ) (pairs : Pairs) → IsAscending pairs → IsAscending (pairs_without key pairs)
IsAscending-without key pairs h =
    true_of _ (is_sorted-where_key keys_order (λ k. not (eq_by_cmp keys_order key k)) pairs (sorted_test pairs h))

pub entries-sorted : (pairs : Pairs) → IsAscending pairs → map.entries (map.from_sorted {R = keys_order} pairs) ≡ pairs
entries-sorted pairs h = entries-from_sorted keys_order pairs (sorted_test pairs h)

-- to put a record among sorted pairs is to insert it into their table
pub from_sorted-put : (key bytes : List ℕ) (pairs : Pairs) → IsAscending pairs
    → map.from_sorted {R = keys_order} (put keys_order key bytes pairs) ≡ map.insert (map.from_sorted pairs) key bytes
from_sorted-put key bytes pairs h =
    same_entries_map _ _
    (entries-sorted _ (IsAscending-put key bytes pairs h)
    ∙ ap (put keys_order key bytes) (sym (entries-sorted pairs h))
    ∙ sym (entries-insert nat_list_cmp_total (map.from_sorted pairs) key bytes)
    )

swapped_cond : {A : Type 0} (b : Bool) (x y : A) → cond (not b) x y ≡ cond b y x
swapped_cond true x y = refl
swapped_cond false x y = refl

-- the test that `without` makes answers alike at tied keys, which are one
passes_alike : (key q x : List ℕ) → keys_order q x ≡ Equal
    → not (eq_by_cmp keys_order key x) ≡ not (eq_by_cmp keys_order key q)
passes_alike key q x tied =
    ap (λ k. not (eq_by_cmp keys_order key k)) (sym (slice_cmp-IsAntisymmetric nat_cmp-IsAntisymmetric q x tied))

-- to take a key's record from sorted pairs is to remove it from their table
pub from_sorted-without : (key : List ℕ) (pairs : Pairs) → IsAscending pairs
    → map.from_sorted {R = keys_order} (pairs_without key pairs) ≡ map.remove (map.from_sorted pairs) key
from_sorted-without key pairs h =
    same_map nat_list_cmp_total (slice_cmp-IsAntisymmetric nat_cmp-IsAntisymmetric) _ _
    (λ q.
    get-from_sorted keys_order (pairs_without key pairs) q
    (sorted_test (pairs_without key pairs) (IsAscending-without key pairs h))
    ∙ find-where_key keys_order (λ k. not (eq_by_cmp keys_order key k)) q (passes_alike key q) pairs
    ∙ swapped_cond (eq_by_cmp keys_order key q) (find keys_order q pairs) None
    ∙ ap (λ b. cond b None (find keys_order q pairs)) ((eq_by_cmp_equiv nat_list_cmp_total).symm key q)
    ∙ ap (λ o. cond (eq_by_cmp keys_order q key) None o)
    (sym (get-from_sorted keys_order pairs q (sorted_test pairs h)))
    ∙ sym (get-remove nat_list_cmp_total (map.from_sorted pairs) key q))
