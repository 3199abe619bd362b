-- Rows behind their keys: what a look-up finds there, and what each change of such a list leaves.
use Rattle.std.proofs.Common.{◌≡◌, ◌+◌, ℕ, zero, suc, Bool, true, false, not, cond, List, [], ◌∷◌, ◌++◌, Option, None, Some, length, ltb, map, slice_get, position, unwrap_or, refl, sym, ap, ◌∙◌, arith}
use Rattle.std.specs.List.{filter, find, insert, position_or_len, remove}
use Rattle.std.specs.Map.{keys_of, lookup, remove_entry, set_value, values_of}
use Rattle.std.specs.Option.{option_map_or}
use Rattle.std.proofs.lemmas.Option.{none-some}
use Rattle.indexmap.specs.IndexMap.{IndexMap, get, insert_entry, insert_index, move_index, set_value_at}
use Rattle.indexmap.proofs.CallerLemmas.{insert_entry-new}
use Rattle.tables.specs.Rows.{change_at, change_first, keyed}
use Rattle.collections.proofs.Places.{slice_get-append_end}
use Rattle.std.proofs.lemmas.List.{map-append, length-map}

remove_last : {X : Type 0} (xs : List X) (x : X) → remove (xs ++ x ∷ []) (length xs) ≡ xs
remove_last [] x = refl
remove_last (y ∷ ys) x = ap (λ l. y ∷ l) (remove_last ys x)

moved : {X : Type 0} (xs : List X) (x : X) (i : ℕ) → move_index (xs ++ x ∷ []) (length xs) i ≡ insert xs i x
moved {X} xs x i =
    let go : (r : Option X) → r ≡ Some x
    → option_map_or (λ y. insert (remove (xs ++ x ∷ []) (length xs)) i y) r (xs ++ x ∷ [])
    ≡ insert (remove (xs ++ x ∷ []) (length xs)) i x =
    λ r e. ap (λ o. option_map_or (λ y. insert (remove (xs ++ x ∷ []) (length xs)) i y) o (xs ++ x ∷ [])) e in
    go _ (slice_get-append_end xs x) ∙ ap (λ l. insert l i x) (remove_last xs x)

-- a key that no entry has would stand behind them all
absent_place : {K X : Type 0} (test : K → Bool) (es : List (K × X)) → lookup test es ≡ None
    → position_or_len test (keys_of es) ≡ length es
absent_place test [] none = refl
absent_place {K} {X} test (e ∷ es) none =
    elim (test e.0)
    as (λ t.
    cond t (Some e.1) (lookup test es) ≡ None
    → cond (not t) (1 + position_or_len test (keys_of es)) 0 ≡ suc (length es)) [
      | true ↦ λ h. absurd (none-some _ (sym h))
      | false ↦ λ h. ap (λ n. 1 + n) (absent_place test es h) ∙ omega arith
    ] none

insert-map : {A B : Type 0} (f : A → B) (xs : List A) (i : ℕ) (x : A)
    → insert (map f xs) i (f x) ≡ map f (insert xs i x)
insert-map f [] zero x = refl
insert-map f [] (suc i) x = refl
insert-map f (y ∷ ys) zero x = refl
insert-map f (y ∷ ys) (suc i) x = ap (λ l. f y ∷ l) (insert-map f ys i x)

position_or_len-map : {A B : Type 0} (f : A → B) (test : B → Bool) (xs : List A)
    → position_or_len test (map f xs) ≡ position_or_len (λ x. test (f x)) xs
position_or_len-map f test [] = refl
position_or_len-map f test (x ∷ xs) = ap (λ n. cond (not (test (f x))) (1 + n) 0) (position_or_len-map f test xs)

position-map : {A B : Type 0} (f : A → B) (test : B → Bool) (xs : List A)
    → position test (map f xs) ≡ position (λ x. test (f x)) xs
position-map f test xs = λ i.
    cond (ltb (position_or_len-map f test xs i) (length-map xs f i)) (Some (position_or_len-map f test xs i)) None

-- what is left without the first entry that passes is all that fails, where nothing passes any more
all_fail : {K X : Type 0} (test : K → Bool) (es : List (K × X)) → lookup test es ≡ None
    → filter (λ e. not (test e.0)) es ≡ es
all_fail test [] none = refl
all_fail test (e ∷ es) none =
    elim (test e.0)
    as (λ t.
    cond t (Some e.1) (lookup test es) ≡ None
    → cond (not t) (e ∷ filter (λ e. not (test e.0)) es) (filter (λ e. not (test e.0)) es) ≡ e ∷ es) [
      | true ↦ λ h. absurd (none-some _ (sym h))
      | false ↦ λ h. ap (λ l. e ∷ l) (all_fail test es h)
    ] none

pub removed-filter : {K X : Type 0} (test : K → Bool) (es : List (K × X)) → lookup test (remove_entry test es) ≡ None
    → remove_entry test es ≡ filter (λ e. not (test e.0)) es
removed-filter test [] none = refl
removed-filter test (e ∷ es) none =
    elim (test e.0)
    as (λ t.
    test e.0 ≡ t → lookup test (cond t es (e ∷ remove_entry test es)) ≡ None
    → cond t es (e ∷ remove_entry test es)
    ≡ cond (not t) (e ∷ filter (λ e. not (test e.0)) es) (filter (λ e. not (test e.0)) es)) [
      | true ↦ λ _ h. sym (all_fail test es h)
      | false ↦ λ fails h.
          ap (λ l. e ∷ l)
          (removed-filter test es (sym (ap (λ t. cond t (Some e.1) (lookup test (remove_entry test es))) fails) ∙ h))
    ] refl none

module _ {K T : Type 0} (key_of : T → K) where
  pub values_of-keyed : (rows : List T) → values_of (keyed key_of rows) ≡ rows
  values_of-keyed [] = refl
  values_of-keyed (row ∷ rows) = ap (λ l. row ∷ l) (values_of-keyed rows)

  -- entries that are rows behind their keys: those of the rows that they hold
  pub are_keyed : (es : List (K × T)) (rows : List T) → es ≡ keyed key_of rows → keyed key_of (values_of es) ≡ es
  are_keyed es rows made =
      ap (λ l. keyed key_of (values_of l)) made ∙ ap (keyed key_of) (values_of-keyed rows) ∙ sym made

  pub are_rows : (es : List (K × T)) (rows : List T) → es ≡ keyed key_of rows → values_of es ≡ rows
  are_rows es rows made = ap values_of made ∙ values_of-keyed rows

  pub lookup-keyed : (test : K → Bool) (rows : List T)
      → lookup test (keyed key_of rows) ≡ find (λ row. test (key_of row)) rows
  lookup-keyed test [] = refl
  lookup-keyed test (row ∷ rows) = ap (cond (test (key_of row)) (Some row)) (lookup-keyed test rows)

  pub keys_of-keyed : (rows : List T) → keys_of (keyed key_of rows) ≡ map key_of rows
  keys_of-keyed [] = refl
  keys_of-keyed (row ∷ rows) = ap (λ l. key_of row ∷ l) (keys_of-keyed rows)

  pub position-keyed : (test : K → Bool) (rows : List T)
      → position test (keys_of (keyed key_of rows)) ≡ position (λ row. test (key_of row)) rows
  position-keyed test rows = ap (position test) (keys_of-keyed rows) ∙ position-map key_of test rows

  pub filter-keyed : (p : T → Bool) (rows : List T)
      → filter (λ e. p e.1) (keyed key_of rows) ≡ keyed key_of (filter p rows)
  filter-keyed p [] = refl
  filter-keyed p (row ∷ rows) =
      elim (p row)
      as (λ t.
      cond t ((key_of row, row) ∷ filter (λ e. p e.1) (keyed key_of rows)) (filter (λ e. p e.1) (keyed key_of rows))
      ≡ keyed key_of (cond t (row ∷ filter p rows) (filter p rows))) [
        | true ↦ ap (λ l. (key_of row, row) ∷ l) (filter-keyed p rows)
        | false ↦ filter-keyed p rows
      ]

  pub filter_keys : (p : K → Bool) (rows : List T)
      → filter (λ e. p e.0) (keyed key_of rows) ≡ keyed key_of (filter (λ row. p (key_of row)) rows)
  filter_keys p [] = refl
  filter_keys p (row ∷ rows) =
      elim (p (key_of row))
      as (λ t.
      cond t ((key_of row, row) ∷ filter (λ e. p e.0) (keyed key_of rows)) (filter (λ e. p e.0) (keyed key_of rows))
      ≡ keyed key_of (cond t (row ∷ filter (λ row. p (key_of row)) rows) (filter (λ row. p (key_of row)) rows))) [
        | true ↦ ap (λ l. (key_of row, row) ∷ l) (filter_keys p rows)
        | false ↦ filter_keys p rows
      ]

  -- what is left without the row that has the key
  pub removed-keyed : (test : K → Bool) (es : List (K × T)) (rows : List T) → keyed key_of rows ≡ es
      → lookup test (remove_entry test es) ≡ None
      → remove_entry test es ≡ keyed key_of (filter (λ row. not (test (key_of row))) rows)
  removed-keyed test es rows same none =
      removed-filter test es none ∙ ap (filter (λ e. not (test e.0))) (sym same) ∙ filter_keys (λ k. not (test k)) rows

  -- a row with a new key, put in at a place
  pub inserted-keyed : {S : Type 0} (eq : K → K → Bool) (m : IndexMap K T S) (rows : List T) (row : T) (k : K) (i : ℕ)
      → k ≡ key_of row → keyed key_of rows ≡ m.entries → get eq m (key_of row) ≡ None
      → move_index (insert_entry eq m.entries k row) (insert_index eq m k) i ≡ keyed key_of (insert rows i row)
  inserted-keyed eq m rows row k i is same new =
      (λ j. move_index (insert_entry eq m.entries (is j) row) (insert_index eq m (is j)) i)
      ∙ (λ j.
      move_index (insert_entry-new eq m (key_of row) row new j) (absent_place (eq (key_of row)) m.entries new j) i)
      ∙ moved m.entries (key_of row, row) i ∙ ap (λ es. insert es i (key_of row, row)) (sym same)
      ∙ insert-map (λ row. (key_of row, row)) rows i row

  -- and behind the others
  pub pushed-keyed : {S : Type 0} (eq : K → K → Bool) (m : IndexMap K T S) (rows : List T) (row : T) (k : K)
      → k ≡ key_of row → keyed key_of rows ≡ m.entries → get eq m (key_of row) ≡ None
      → insert_entry eq m.entries k row ≡ keyed key_of (rows ++ row ∷ [])
  pushed-keyed eq m rows row k is same new =
      ap (λ k. insert_entry eq m.entries k row) is ∙ insert_entry-new eq m (key_of row) row new
      ∙ ap (λ es. es ++ (key_of row, row) ∷ []) (sym same) ∙ sym (map-append (λ row. (key_of row, row)) rows (row ∷ []))

  -- no row has the key, seen from the entries
  pub is_new : (test : K → Bool) (es : List (K × T)) (rows now : List T) → keyed key_of rows ≡ es → rows ≡ now
      → find (λ row. test (key_of row)) now ≡ None → lookup test es ≡ None
  is_new test es rows now same shown none =
      ap (lookup test) (sym same) ∙ lookup-keyed test rows ∙ ap (find (λ row. test (key_of row))) shown ∙ none

  module _ (f : T → T) (keeps : (row : T) → key_of (f row) ≡ key_of row) where
    -- a change of the row that has the key
    pub changed-keyed : (test : K → Bool) (rows : List T) (row : T) → find (λ row. test (key_of row)) rows ≡ Some row
        → set_value test (keyed key_of rows) (f row) ≡ keyed key_of (change_first (λ row. test (key_of row)) f rows)
    changed-keyed test [] row found = refl
    changed-keyed test (r ∷ rows) row found =
        elim (test (key_of r))
        as (λ t.
        cond t (Some r) (find (λ row. test (key_of row)) rows) ≡ Some row
        → cond t ((key_of r, f row) ∷ keyed key_of rows) ((key_of r, r) ∷ set_value test (keyed key_of rows) (f row))
        ≡ keyed key_of (cond t (f r ∷ rows) (r ∷ change_first (λ row. test (key_of row)) f rows))) [
          | true ↦ λ h.
              let same : r ≡ row = ap (λ o. unwrap_or o r) h in
              sym (λ j. (keeps r j, f (same j)) ∷ keyed key_of rows)
          | false ↦ λ h. ap (λ l. (key_of r, r) ∷ l) (changed-keyed test rows row h)
        ] found

    -- a write to a part of the row at a place
    pub written-keyed : (rows : List T) (place : ℕ) (row : T) → slice_get rows place ≡ Some row
        → set_value_at (keyed key_of rows) place (f row) ≡ keyed key_of (change_at place f rows)
    written-keyed [] place row at = absurd (none-some _ at)
    written-keyed (r ∷ rows) zero row at =
        let same : r ≡ row = ap (λ o. unwrap_or o r) at in
        sym (λ j. (keeps r j, f (same j)) ∷ keyed key_of rows)
    written-keyed (r ∷ rows) (suc place) row at = ap (λ l. (key_of r, r) ∷ l) (written-keyed rows place row at)

    pub written-in : (es : List (K × T)) (place : ℕ) (row : T) → keyed key_of (values_of es) ≡ es
        → slice_get (values_of es) place ≡ Some row
        → set_value_at es place (f row) ≡ keyed key_of (change_at place f (values_of es))
    written-in es place row same at =
        ap (λ es. set_value_at es place (f row)) (sym same) ∙ written-keyed (values_of es) place row at
