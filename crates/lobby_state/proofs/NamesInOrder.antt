-- The names of members in the order of their keys: where one more belongs among them, that they stay in order, and that
-- some may go.
use Rattle.std.proofs.Common.{◌≡◌, ◌⊎◌, ℕ, ◌≤◌, ◌<◌, zero, suc, Bool, true, false, not, cond, List, [], ◌∷◌, ◌++◌, length, get_or, refl, sym, ap, ◌∙◌, inl, inr, arith}
use Rattle.std.specs.Prelude.{All, if◌then◌else◌}
use Rattle.std.specs.Cmp.{IsStrictWeakOrder}
use Rattle.std.specs.List.{AllByRecursion, filter, insert}
use Rattle.std.specs.List.Sorted.{IsPartitionPoint, IsPartitionedBy, IsPermutation}
use Rattle.std.proofs.lemmas.Cmp.{nat_list_cmp_total}
use Rattle.std.proofs.lemmas.List.Elements.{All-nil, All-cons, All-weaker, recursion_from_All}
use Rattle.std.proofs.lemmas.List.Kept.{AllPairs-cons}
use Rattle.std.proofs.lemmas.List.MinMax.{ranks_by}
use Rattle.std.proofs.lemmas.List.Sorted.{All-permutation, IsPermutation-cons, IsPermutation-middle, IsPermutation-refl, IsPermutation-trans}
use Rattle.fics_words.specs.Handle.{key_of}
use Rattle.lobby_state.specs.declared.name_row.NameRow.{NameRow}
use Rattle.lobby_state.specs.declared.member.Member.{Member}
use Rattle.lobby_state.specs.Names.{AreRowsInOrder, comes_before, row_of, with_row, with_rows}
use Rattle.std.proofs.lemmas.Bool.{not-true, not_from_false}
use Rattle.lobby_state.proofs.InOrder.{pairs_head, pairs_tail}

-- of any two keys one comes before the other, or they are one
keys_rank : IsStrictWeakOrder comes_before
keys_rank = ranks_by nat_list_cmp_total (λ (row : NameRow). key_of row.name)

same_or_before : (i j : ℕ) → i ≤ j → (i ≡ j) ⊎ (i < j)
same_or_before i j h = grind arith

-- the handles that come no later than this one stand before the others
pub parted : (name : NameRow) (names : List NameRow) → AreRowsInOrder names
    → IsPartitionedBy (λ other. not (comes_before name other)) names
parted name names order i j d low inside up = elim (same_or_before i j low) [
  | inl same ↦ ap (λ (k : ℕ). not (comes_before name (get_or names k d))) same ∙ up
  | inr before ↦ not_from_false (comes_before name (get_or names i d))
      (keys_rank.chain name (get_or names j d) (get_or names i d) (not-true (comes_before name (get_or names j d)) up)
      (order i j d before inside))
]

the_first : (b : Bool) (one another : List NameRow) → not b ≡ false → (if b then one else another) ≡ one
the_first true one another e = refl
the_first false one another e = cc

the_second : (b : Bool) (one another : List NameRow) → not b ≡ true → (if b then one else another) ≡ another
the_second true one another e = cc
the_second false one another e = refl

-- and behind them it has its place
pub put_there : (name : NameRow) (names : List NameRow) (i : ℕ) → i ≤ length names
    → IsPartitionPoint (λ other. not (comes_before name other) ≡ true) (λ other. not (comes_before name other) ≡ false)
    names i
    → insert names i name ≡ with_row name names
put_there name [] zero low h = refl
put_there name [] (suc i) low h = absurd (omega (arith, low))
put_there name (other ∷ names) zero low h =
    sym (the_first (comes_before name other) (name ∷ other ∷ names) (other ∷ with_row name names)
    (h.1 0 other (omega arith) (omega arith)))
put_there name (other ∷ names) (suc i) low h =
    ap (λ (ns : List NameRow). other ∷ ns) (put_there name names i (omega (arith, low)) (
      (λ k d from below. h.0 (suc k) d (omega arith) (omega (arith, below))),
      λ k d from inside. h.1 (suc k) d (omega (arith, from)) (omega (arith, inside)),
    ))
    ∙ sym
    (the_second (comes_before name other) (name ∷ other ∷ names) (other ∷ with_row name names)
    (h.0 0 other (omega arith) (omega arith)))

-- one handle more, and the others as they were
more_by : (b : Bool) (name other : NameRow) (names : List NameRow) → IsPermutation (name ∷ names) (with_row name names)
    → IsPermutation (name ∷ other ∷ names) (if b then name ∷ other ∷ names else other ∷ with_row name names)
more_by true name other names h = IsPermutation-refl (name ∷ other ∷ names)
more_by false name other names h =
    IsPermutation-trans (name ∷ other ∷ names) (other ∷ name ∷ names) (other ∷ with_row name names)
    (IsPermutation-middle (name ∷ []) other names)
    (IsPermutation-cons other (name ∷ names) (with_row name names) h)

pub one_more : (name : NameRow) (names : List NameRow) → IsPermutation (name ∷ names) (with_row name names)
one_more name [] = IsPermutation-refl (name ∷ [])
one_more name (other ∷ names) = more_by (comes_before name other) name other names (one_more name names)

pub All-with_row : (P : NameRow → Type 0) (name : NameRow) (names : List NameRow) → P name → All P names
    → All P (with_row name names)
All-with_row P name names head tail =
    All-permutation P (name ∷ names) (with_row name names) (one_more name names) (All-cons P name names head tail)

-- they stay in order
abbrev NotBehind : NameRow → NameRow → Type 0
NotBehind one another = comes_before another one ≡ false

order_by : (b : Bool) (name other : NameRow) (names : List NameRow) → comes_before name other ≡ b
    → AreRowsInOrder (other ∷ names)
    → AreRowsInOrder (with_row name names)
    → AreRowsInOrder (if b then name ∷ other ∷ names else other ∷ with_row name names)
order_by true name other names e order rest =
    let first : NotBehind name other = keys_rank.one_way name other e in
    AllPairs-cons NotBehind name (other ∷ names)
    (All-cons (NotBehind name) other names first
    (All-weaker (NotBehind other) (NotBehind name) (λ y h. keys_rank.chain y other name h first) names
    (pairs_head NotBehind other names order)))
    order
order_by false name other names e order rest =
    AllPairs-cons NotBehind other (with_row name names)
    (All-with_row (NotBehind other) name names e (pairs_head NotBehind other names order)) rest

pub stays_in_order : (name : NameRow) (names : List NameRow) → AreRowsInOrder names
    → AreRowsInOrder (with_row name names)
stays_in_order name [] order = AllPairs-cons NotBehind name [] (All-nil (NotBehind name)) order
stays_in_order name (other ∷ names) order =
    order_by (comes_before name other) name other names refl order
    (stays_in_order name names (pairs_tail NotBehind other names order))

-- no handle at all is in order
pub none_in_order : AreRowsInOrder []
none_in_order i j d before inside = absurd (omega (arith, inside))

-- the rows of more members stay in order
pub all_in_order : (rows : List NameRow) (members : List Member) → AreRowsInOrder rows
    → AreRowsInOrder (with_rows rows members)
all_in_order rows [] order = order
all_in_order rows (member ∷ members) order =
    all_in_order (with_row (row_of member) rows) members (stays_in_order (row_of member) rows order)

pub rows_in_order : (members : List Member) → AreRowsInOrder (with_rows [] members)
rows_in_order members = all_in_order [] members none_in_order

-- one member more
pub with_rows-push : (rows : List NameRow) (members : List Member) (member : Member)
    → with_rows rows (members ++ member ∷ []) ≡ with_row (row_of member) (with_rows rows members)
with_rows-push rows [] member = refl
with_rows-push rows (m ∷ members) member = with_rows-push (with_row (row_of m) rows) members member

-- a row that comes before all others stands first
stands_first : (row : NameRow) (rows : List NameRow) → AllByRecursion (λ other. comes_before row other ≡ true) rows
    → with_row row rows ≡ row ∷ rows
stands_first row [] all = refl
stands_first row (other ∷ rows) all =
    ap (λ (b : Bool). if b then row ∷ other ∷ rows else other ∷ with_row row rows) all.0

filter-all : (p : NameRow → Bool) (P : NameRow → Type 0) (rows : List NameRow) → AllByRecursion P rows
    → AllByRecursion P (filter p rows)
filter-all p P [] all = tt
filter-all p P (row ∷ rows) all =
    elim (p row) as (λ t. AllByRecursion P (cond t (row ∷ filter p rows) (filter p rows))) [
      | true ↦ (all.0, filter-all p P rows all.1)
      | false ↦ filter-all p P rows all.1
    ]

-- before the first, before all
before_later : (row first other : NameRow) → comes_before row first ≡ true → comes_before other first ≡ false
    → comes_before row other ≡ true
before_later row first other before behind =
    elim (comes_before row other) as (λ t. comes_before row other ≡ t → t ≡ true) [
      | true ↦ λ _. refl
      | false ↦ λ e. sym (keys_rank.chain row other first e behind) ∙ before
    ] refl

before_all : (row first : NameRow) (rows : List NameRow) → comes_before row first ≡ true
    → AllByRecursion (λ other. comes_before other first ≡ false) rows
    → AllByRecursion (λ other. comes_before row other ≡ true) rows
before_all row first [] before all = tt
before_all row first (other ∷ rows) before all =
    (before_later row first other before all.0, before_all row first rows before all.1)

-- rows that go, and one that comes
pub filter-with_row : (p : NameRow → Bool) (row : NameRow) (rows : List NameRow) → AreRowsInOrder rows
    → filter p (with_row row rows) ≡ cond (p row) (with_row row (filter p rows)) (filter p rows)
filter-with_row p row [] order =
    elim (p row) as (λ t. cond t (row ∷ []) [] ≡ cond t (row ∷ []) []) [ true ↦ refl | false ↦ refl ]
filter-with_row p row (other ∷ rows) order =
    elim (comes_before row other)
    as (λ b.
    comes_before row other ≡ b
    → filter p (if b then row ∷ other ∷ rows else other ∷ with_row row rows)
    ≡ cond (p row) (with_row row (filter p (other ∷ rows))) (filter p (other ∷ rows))) [
      | true ↦ λ before.
          let later : AllByRecursion (λ o. comes_before row o ≡ true) (other ∷ rows) = (
            before,
            before_all row other rows before (recursion_from_All _ rows (pairs_head NotBehind other rows order)),
          ) in
          ap (λ l. cond (p row) l (filter p (other ∷ rows)))
          (sym (stands_first row (filter p (other ∷ rows)) (filter-all p _ (other ∷ rows) later)))
      | false ↦ λ behind.
          let rest = filter-with_row p row rows (pairs_tail NotBehind other rows order) in
          elim (p other)
          as (λ t.
          cond t (other ∷ filter p (with_row row rows)) (filter p (with_row row rows))
          ≡ cond (p row) (with_row row (cond t (other ∷ filter p rows) (filter p rows)))
          (cond t (other ∷ filter p rows) (filter p rows))) [
            | true ↦ ap (λ l. other ∷ l) rest ∙ out (p row) row other (filter p rows) behind
            | false ↦ rest
          ]
    ] refl
  where
    out : (t : Bool) (row other : NameRow) (rows : List NameRow) → comes_before row other ≡ false
        → other ∷ cond t (with_row row rows) rows ≡ cond t (with_row row (other ∷ rows)) (other ∷ rows)
    out true row other rows behind =
        sym (ap (λ (b : Bool). if b then row ∷ other ∷ rows else other ∷ with_row row rows) behind)
    out false row other rows behind = refl

-- the rows of the members that stay are the rows that stay
pub filter-with_rows : (p : NameRow → Bool) (rows : List NameRow) (members : List Member) → AreRowsInOrder rows
    → filter p (with_rows rows members) ≡ with_rows (filter p rows) (filter (λ member. p (row_of member)) members)
filter-with_rows p rows [] order = refl
filter-with_rows p rows (member ∷ members) order =
    filter-with_rows p (with_row (row_of member) rows) members (stays_in_order (row_of member) rows order)
    ∙ ap (λ l. with_rows l (filter (λ member. p (row_of member)) members))
    (filter-with_row p (row_of member) rows order)
    ∙ elim (p (row_of member))
    as (λ t.
    with_rows (cond t (with_row (row_of member) (filter p rows)) (filter p rows))
    (filter (λ member. p (row_of member)) members)
    ≡ with_rows (filter p rows)
    (cond t (member ∷ filter (λ member. p (row_of member)) members) (filter (λ member. p (row_of member)) members))) [
      | true ↦ refl
      | false ↦ refl
    ]
