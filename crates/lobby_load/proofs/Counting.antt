-- How many rows come before a key.
use Rattle.std.proofs.Common.{◌≡◌, ℕ, ◌+◌, ◌≤◌, Bool, true, false, cond, ◌&&◌, List, [], ◌∷◌, ◌++◌, Some, All, count_by, get_or, is_lt, Ordering, Less, Greater, refl, sym, ap, subst, ◌∙◌, arith}
use Rattle.std.specs.Ordering.{eq_by_cmp}
use Rattle.std.specs.Cmp.{tied_itself, first_so, second_so}
use Rattle.std.specs.Cmp.Lexicographic.{nat_list_cmp_total}
use Rattle.std.specs.FinMap.{find, is_sorted}
use Rattle.std.specs.FinMap.Entries.{below_all}
use Rattle.std.proofs.lemmas.Bool.{false_from_ne_true, and_from}
use Rattle.std.proofs.lemmas.List.Elements.{All-append, All-cons, All-head, All-tail}
use Rattle.std.proofs.lemmas.List.Sums.{sum_by-append, sum_by-cons, sum_by_push}
use Rattle.edge_traits.specs.Pairs.{IsAscending, Pairs, keys_order}
use Rattle.lobby_store.proofs.OrdersOut.{tied_same}
use Rattle.lobby_load.specs.BadRows.{ComesBefore, HasBefore, Row}
use Rattle.lobby_load.specs.Filling.{count_of}
use Rattle.edge_traits.proofs.Rising.{is_less}
use Rattle.lobby_load.proofs.RowsSorted.{IsBelow-all, all_before, all_behind, turned}

-- one row more
pub count_cons : (p : Row → Bool) (row : Row) (rows : Pairs)
    → count_by p (row ∷ rows) ≡ cond (p row) 1 0 + count_by p rows
count_cons p row rows = sum_by-cons (λ x. cond (p x) 1 0) row rows

pub count_push_yes : (p : Row → Bool) (rows : Pairs) (row : Row) → p row ≡ true
    → count_by p (rows ++ row ∷ []) ≡ count_by p rows + 1
count_push_yes p rows row e = sum_by_push (λ x. cond (p x) 1 0) rows row ∙ ap (λ b. count_by p rows + cond b 1 0) e

pub count_push_no : (p : Row → Bool) (rows : Pairs) (row : Row) → p row ≡ false
    → count_by p (rows ++ row ∷ []) ≡ count_by p rows
count_push_no p rows row e =
    sum_by_push (λ x. cond (p x) 1 0) rows row ∙ ap (λ b. count_by p rows + cond b 1 0) e ∙ omega arith

as_number : {a b : Bool} → a ≡ b → cond {A = ℕ} a 1 0 ≡ cond b 1 0
as_number e = ap {B = ℕ} (λ b. cond b 1 0) e

-- none pass
count_none : (p : Row → Bool) (rows : Pairs) → All (λ row. p row ≡ false) rows → count_by p rows ≡ 0
count_none p [] h = refl
count_none p (e ∷ rows) h =
    let one = count_cons p e rows in
    let here = as_number (All-head (λ row. p row ≡ false) e rows h) in
    let rest = count_none p rows (All-tail (λ row. p row ≡ false) e rows h) in
    omega (arith, one, here, rest)

-- no more pass a test than one that all of them pass
one_or_none : (a b : Bool) → (a ≡ true → b ≡ true) → cond a 1 0 ≤ cond b 1 0
one_or_none true b h = subst (λ c. 1 ≤ cond c 1 0) (sym (h refl)) (omega arith)
one_or_none false b h = omega arith

not_Less : (o : Ordering) → o ≡ Greater → o ≡ Less → ⊥
not_Less o g l = absurd (let bad = sym g ∙ l in cc)

not_Less_itself : (key : List ℕ) → ComesBefore key key → ⊥
not_Less_itself key l = let tied = tied_itself nat_list_cmp_total key in let bad = sym tied ∙ l in absurd cc

not_before : (one other : List ℕ) → ComesBefore one other → ComesBefore other one → ⊥
not_before one other less back = not_Less (keys_order other one) (turned one other less) back

not_picked_behind : (pick : Row → Bool) (key : List ℕ) (row : Row) → ComesBefore key row.0
    → (pick row ≡ true → ComesBefore row.0 key) → pick row ≡ false
not_picked_behind pick key row less before = false_from_ne_true (pick row) (λ so. not_before key row.0 less (before so))

-- rows that come before a key among rows of which that key has one: they are fewer than those of its kind
pub fewer : (pick : Row → Bool) (kind : List ℕ → Bool) (key bytes : List ℕ) (done rest : Pairs)
    → IsAscending (done ++ rest)
    → find keys_order key done ≡ Some bytes → kind key ≡ true
    → All (λ row. pick row ≡ true → kind row.0 ≡ true) (done ++ rest)
    → All (λ row. pick row ≡ true → ComesBefore row.0 key) (done ++ rest)
    → count_by pick (done ++ rest) + 1 ≤ count_of kind done
fewer pick kind key bytes [] rest rise found is of before = absurd cc
fewer pick kind key bytes (e ∷ done) rest rise found is of before =
    let P : Row → Type 0 = λ row. pick row ≡ true → kind row.0 ≡ true in
    let Q : Row → Type 0 = λ row. pick row ≡ true → ComesBefore row.0 key in
    let all : Pairs = done ++ rest in
    let picked = count_cons pick e all in
    let of_kind = count_cons (λ row. kind row.0) e done in
    elim (eq_by_cmp keys_order key e.0)
    as (λ t. eq_by_cmp keys_order key e.0 ≡ t → cond t (Some e.1) (find keys_order key done) ≡ Some bytes
    → count_by pick (e ∷ all) + 1 ≤ count_of kind (e ∷ done)) [
      | true ↦ λ same here.
          let own : key ≡ e.0 = tied_same key e.0 same in
          let behind = IsBelow-all e.0 all (first_so (below_all keys_order e.0 all) (is_sorted keys_order all) rise) in
          let none = count_none pick all (λ k d lt. not_picked_behind pick key (get_or all k d)
          (subst (λ l. ComesBefore l (get_or all k d).0) (sym own) (behind k d lt)) (All-tail Q e all before k d lt)) in
          let not_here : pick e ≡ false = false_from_ne_true (pick e)
          (λ so. not_Less_itself key (subst (λ l. ComesBefore l key) (sym own) (All-head Q e all before so))) in
          let without = as_number not_here in
          let with_it = as_number (subst (λ l. kind l ≡ true) own is) in
          omega (arith, picked, of_kind, none, without, with_it)
      | false ↦ λ _ there.
          let rest_of : count_by pick all + 1 ≤ count_of kind done =
          fewer pick kind key bytes done rest (second_so (below_all keys_order e.0 all) (is_sorted keys_order all) rise)
          there is (All-tail P e all of) (All-tail Q e all before) in
          let one = one_or_none (pick e) (kind e.0) (All-head P e all of) in
          omega (arith, picked, of_kind, rest_of, one)
    ] refl found

-- the test that picks those of a kind before a row
abbrev pub picks : (List ℕ → Bool) → Row → Row → Bool
picks kind row x = kind x.0 && is_lt (keys_order x.0 row.0)

counted : (kind : List ℕ → Bool) (row : Row) (done : Pairs) → All (λ x. ComesBefore x.0 row.0) done
    → count_of kind done ≤ count_by (picks kind row) done
counted kind row [] h = omega arith
counted kind row (e ∷ done) h =
    let P : Row → Type 0 = λ x. ComesBefore x.0 row.0 in
    let less = All-head P e done h in
    let one = one_or_none (kind e.0) (picks kind row e) (λ so. and_from _ _ so (ap is_lt less)) in
    let rest = counted kind row done (All-tail P e done h) in
    let picked = count_cons (picks kind row) e done in
    let of_kind = count_cons (λ x. kind x.0) e done in
    omega (arith, one, rest, picked, of_kind)

not_picked : (kind : List ℕ → Bool) (row x : Row) (P : Type 0) → (ComesBefore x.0 row.0 → ⊥) → picks kind row x ≡ true
    → P
not_picked kind row x P not so = absurd (not (is_less _ (second_so _ _ so)))

-- all that are of a kind in front of a row come before it
pub enough : (IsOfKind : Row → Type 0) (kind : List ℕ → Bool) (n : ℕ) (done rest : Pairs) (row : Row)
    → IsAscending (done ++ row ∷ rest)
    → All (λ x. kind x.0 ≡ true → IsOfKind x) done → n ≤ count_of kind done
    → HasBefore IsOfKind n (done ++ row ∷ rest) row.0
enough IsOfKind kind n done rest row rise of many =
    let P : Row → Type 0 = λ x. picks kind row x ≡ true → IsOfKind x in
    let behind = all_behind done rest row rise in
    let in_front : All P done = λ k d lt so. of k d lt (first_so _ _ so) in
    let here : P row = not_picked kind row row (IsOfKind row) (not_Less_itself row.0) in
    let later : All P rest = λ k d lt.
    not_picked kind row (get_or rest k d) (IsOfKind (get_or rest k d))
    (not_before row.0 (get_or rest k d).0 (behind k d lt)) in
    let front = counted kind row done (all_before done rest row rise) in
    let split = sum_by-append (λ x. cond (picks kind row x) 1 0) done (row ∷ rest) in
    record {
      pick = picks kind row;
      kind = All-append P done (row ∷ rest) in_front (All-cons P row rest here later);
      before = λ k d lt so. is_less _ (second_so _ _ so);
      many = omega (arith, front, split, many);
    }
