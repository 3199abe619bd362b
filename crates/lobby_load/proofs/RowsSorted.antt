-- Rows whose keys rise: what is found among them, and which come before which.
use Rattle.std.proofs.Common.{◌≡◌, ℕ, true, false, cond, List, [], ◌∷◌, ◌++◌, None, Some, All, is_eq, Greater, refl, sym, ap, subst, ◌∙◌}
use Rattle.std.specs.Ordering.{eq_by_cmp, ordering_reverse}
use Rattle.std.specs.Cmp.{tied_itself, first_so, second_so}
use Rattle.std.specs.Cmp.Lexicographic.{nat_list_cmp_total}
use Rattle.std.specs.FinMap.{find}
use Rattle.std.proofs.lemmas.List.Elements.{All-nil, All-cons, All-head, All-tail}
use Rattle.edge_traits.specs.Pairs.{IsAscending, Pairs, keys_order}
use Rattle.lobby_store.proofs.OrdersOut.{tied_same}
use Rattle.lobby_load.specs.BadRows.{ComesBefore, Row}
use Rattle.std.proofs.lemmas.Option.{same_Some}
use Rattle.edge_traits.proofs.Rising.{IsBelow, is_less}

-- who comes before another comes behind nobody of those that the other comes before
pub before_then : (one other third : List ℕ) → ComesBefore one other → ComesBefore other third → ComesBefore one third
before_then one other third = nat_list_cmp_total.trans one other third

pub turned : (one other : List ℕ) → ComesBefore one other → keys_order other one ≡ Greater
turned one other less = nat_list_cmp_total.antisymm other one ∙ ap ordering_reverse less

pub IsBelow-all : (key : List ℕ) (rows : Pairs) → IsBelow key rows → All (λ row. ComesBefore key row.0) rows
IsBelow-all key [] h = All-nil (λ row. ComesBefore key row.0)
IsBelow-all key (e ∷ rows) h =
    All-cons (λ row. ComesBefore key row.0) e rows (is_less _ (first_so _ _ h)) (IsBelow-all key rows (second_so _ _ h))

-- a key that comes before all of these isn't found among them
pub find-all_behind : (key : List ℕ) (rows : Pairs) → All (λ row. ComesBefore key row.0) rows
    → find keys_order key rows ≡ None
find-all_behind key [] h = refl
find-all_behind key (e ∷ rows) h =
    ap (λ o. cond (is_eq o) (Some e.1) (find keys_order key rows)) (All-head (λ row. ComesBefore key row.0) e rows h)
    ∙ find-all_behind key rows (All-tail (λ row. ComesBefore key row.0) e rows h)

-- nor is one that comes behind all of these
find-all_before : (key : List ℕ) (rows : Pairs) → All (λ row. ComesBefore row.0 key) rows
    → find keys_order key rows ≡ None
find-all_before key [] h = refl
find-all_before key (e ∷ rows) h =
    ap (λ o. cond (is_eq o) (Some e.1) (find keys_order key rows))
    (turned e.0 key (All-head (λ row. ComesBefore row.0 key) e rows h))
    ∙ find-all_before key rows (All-tail (λ row. ComesBefore row.0 key) e rows h)

below_middle : (key : List ℕ) (done rest : Pairs) (row : Row) → IsBelow key (done ++ row ∷ rest) → ComesBefore key row.0
below_middle key [] rest row h = is_less _ (first_so _ _ h)
below_middle key (e ∷ done) rest row h = below_middle key done rest row (second_so _ _ h)

-- of rising rows those in front of one come before it, and those behind it behind
pub all_before : (done rest : Pairs) (row : Row) → IsAscending (done ++ row ∷ rest)
    → All (λ x. ComesBefore x.0 row.0) done
all_before [] rest row h = All-nil (λ x. ComesBefore x.0 row.0)
all_before (e ∷ done) rest row h =
    All-cons (λ x. ComesBefore x.0 row.0) e done (below_middle e.0 done rest row (first_so _ _ h))
    (all_before done rest row (second_so _ _ h))

pub all_behind : (done rest : Pairs) (row : Row) → IsAscending (done ++ row ∷ rest)
    → All (λ x. ComesBefore row.0 x.0) rest
all_behind [] rest row h = IsBelow-all row.0 rest (first_so _ _ h)
all_behind (e ∷ done) rest row h = all_behind done rest row (second_so _ _ h)

-- so its key isn't found in front of it
pub find-new : (done rest : Pairs) (row : Row) → IsAscending (done ++ row ∷ rest) → find keys_order row.0 done ≡ None
find-new done rest row h = find-all_before row.0 done (all_before done rest row h)

-- it is found itself
pub find-itself : (done rest : Pairs) (row : Row) → IsAscending (done ++ row ∷ rest)
    → find keys_order row.0 (done ++ row ∷ rest) ≡ Some row.1
find-itself [] rest row h =
    ap (λ o. cond (is_eq o) (Some row.1) (find keys_order row.0 rest)) (tied_itself nat_list_cmp_total row.0)
find-itself (e ∷ done) rest row h =
    ap (λ o. cond (is_eq o) (Some e.1) (find keys_order row.0 (done ++ row ∷ rest)))
    (turned e.0 row.0 (below_middle e.0 done rest row (first_so _ _ h)))
    ∙ find-itself done rest row (second_so _ _ h)

behind_too : (key : List ℕ) (rest : Pairs) (row : Row) → ComesBefore key row.0 → All (λ x. ComesBefore row.0 x.0) rest
    → All (λ x. ComesBefore key x.0) (row ∷ rest)
behind_too key rest row less h =
    All-cons (λ x. ComesBefore key x.0) row rest less (λ k d lt. before_then key row.0 _ less (h k d lt))

-- and a key that comes before it is found in front of it, if at all
pub find-before : (key : List ℕ) (done rest : Pairs) (row : Row) → ComesBefore key row.0
    → IsAscending (done ++ row ∷ rest)
    → find keys_order key (done ++ row ∷ rest) ≡ find keys_order key done
find-before key [] rest row less h =
    find-all_behind key (row ∷ rest) (behind_too key rest row less (all_behind [] rest row h))
find-before key (e ∷ done) rest row less h =
    ap (λ r. cond (eq_by_cmp keys_order key e.0) (Some e.1) r) (find-before key done rest row less (second_so _ _ h))

-- what holds of all rows holds of the one that is found
pub found_is : (P : Row → Type 0) (key bytes : List ℕ) (rows : Pairs) → All P rows
    → find keys_order key rows ≡ Some bytes → P (key, bytes)
found_is P key bytes [] all found = absurd (cc)
found_is P key bytes (e ∷ rows) all found =
    elim (eq_by_cmp keys_order key e.0)
    as (λ t.
    eq_by_cmp keys_order key e.0 ≡ t → cond t (Some e.1) (find keys_order key rows) ≡ Some bytes → P (key, bytes)) [
      | true ↦ λ same here.
          let own : P (e.0, e.1) = All-head P e rows all in
          let told : P (e.0, bytes) = subst (λ b. P (e.0, b)) (same_Some e.1 bytes here) own in
          subst (λ k. P (k, bytes)) (sym (tied_same key e.0 same)) told
      | false ↦ λ _ there. found_is P key bytes rows (All-tail P e rows all) there
    ] refl found
