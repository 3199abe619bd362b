-- A row that goes behind the others, in place of the one that has its key.
use Rattle.std.proofs.Common.{◌≡◌, ◌+◌, ◌-◌, ◌<◌, ◌≤◌, ℕ, zero, suc, Bool, true, false, not, cond, List, [], ◌∷◌, ◌++◌, Some, length, ltb, slice_get, refl, sym, ap, subst, ◌∙◌, arith}
use Rattle.std.specs.List.{AllByRecursion, IsDistinct, filter, insert, position_or_len, remove}
use Rattle.std.specs.Map.{keys_of}
use Rattle.std.specs.Option.{option_map_or}
use Rattle.std.proofs.lemmas.Bool.{ltb-true}
use Rattle.std.proofs.lemmas.List.{map-append}
use Rattle.std.proofs.lemmas.List.Sums.{count_by-le-length, length-filter}
use Rattle.indexmap.specs.IndexMap.{IndexMap, IsUnique, index_before, insert_entry, insert_index, move_index}
use Rattle.tables.specs.Rows.{has_key, keyed}
use Rattle.tables.proofs.KeyedRows.{filter_keys}

module _ {X : Type 0} (x : X) where
  there : (xs : List X) (i : ℕ) → i ≤ length xs → slice_get (insert xs i x) i ≡ Some x
  there [] zero h = refl
  there [] (suc i) h = absurd (omega (arith, h))
  there (y ∷ ys) zero h = refl
  there (y ∷ ys) (suc i) h = there ys i (omega (arith, h))

  gone : (xs : List X) (i : ℕ) → i ≤ length xs → remove (insert xs i x) i ≡ xs
  gone [] zero h = refl
  gone [] (suc i) h = absurd (omega (arith, h))
  gone (y ∷ ys) zero h = refl
  gone (y ∷ ys) (suc i) h = ap (λ l. y ∷ l) (gone ys i (omega (arith, h)))

  behind : (xs : List X) (i : ℕ) → length xs ≤ i → insert xs i x ≡ xs ++ x ∷ []
  behind [] zero h = refl
  behind [] (suc i) h = refl
  behind (y ∷ ys) zero h = absurd (omega (arith, h))
  behind (y ∷ ys) (suc i) h = ap (λ l. y ∷ l) (behind ys i (omega (arith, h)))

  front : (xs : List X) → insert xs 0 x ≡ x ∷ xs
  front [] = refl
  front (y ∷ ys) = refl

  -- what was put in at a place goes on to the end
  to_end : (xs : List X) (i end : ℕ) → i ≤ length xs → length xs ≤ end → move_index (insert xs i x) i end ≡ xs ++ x ∷ []
  to_end xs i end within far =
      ap (λ o. option_map_or (λ y. insert (remove (insert xs i x) i) end y) o (insert xs i x)) (there xs i within)
      ∙ ap (λ l. insert l end x) (gone xs i within) ∙ behind xs end far

-- entries with distinct keys, where equal keys are one
module _ {K X : Type 0} (eq : K → K → Bool) (one : (k other : K) → eq k other ≡ true → k ≡ other) (k : K) (v : X) where
  -- those whose key isn't this one, and the place of the one whose key is
  abbrev others : List (K × X) → List (K × X)
  others es = filter (λ e. not (eq k e.0)) es

  abbrev place : List (K × X) → ℕ
  place es = position_or_len (eq k) (keys_of es)

  all_others : (es : List (K × X)) → AllByRecursion (λ other. eq k other ≡ false) (keys_of es) → others es ≡ es
  all_others [] apart = refl
  all_others (e ∷ es) apart =
      ap (λ t. cond (not t) (e ∷ others es) (others es)) apart.0 ∙ ap (λ l. e ∷ l) (all_others es apart.1)

  -- what was entered stands at that place among the others
  entered : (es : List (K × X)) → IsDistinct eq (keys_of es)
      → insert_entry eq es k v ≡ insert (others es) (place es) (k, v)
  unfolding IsDistinct
  entered [] apart = refl
  entered (e ∷ es) apart =
      elim (eq k e.0) as (λ t. eq k e.0 ≡ t → cond t ((e.0, v) ∷ es) (e ∷ insert_entry eq es k v)
      ≡ insert (cond (not t) (e ∷ others es) (others es)) (cond (not t) (1 + place es) 0) (k, v)) [
        | true ↦ λ same.
            let is = one k e.0 same in
            let rest =
            all_others es (subst (λ k. AllByRecursion (λ other. eq k other ≡ false) (keys_of es)) (sym is) apart.0) in
            (λ j. (sym is j, v) ∷ sym rest j) ∙ sym (front (k, v) (others es))
        | false ↦ λ _.
            let next : suc (place es) ≡ 1 + place es = omega arith in
            ap (λ l. e ∷ l) (entered es apart.1) ∙ ap (λ n. insert (e ∷ others es) n (k, v)) next
      ] refl

  -- that place is among the others or behind them, and the others are fewer than all where it is among all
  place-within : (es : List (K × X)) → place es ≤ length (others es)
  place-within [] = omega arith
  place-within (e ∷ es) =
      let rest = place-within es in
      elim (eq k e.0) as (λ t. cond (not t) (1 + place es) 0 ≤ length (cond (not t) (e ∷ others es) (others es))) [
        | true ↦ omega arith
        | false ↦ omega (arith, rest)
      ]

  few : (es : List (K × X)) → length (others es) ≤ length es
  few es = omega (arith, length-filter (λ e. not (eq k e.0)) es, count_by-le-length (λ e. not (eq k e.0)) es)

  fewer : (es : List (K × X)) → place es < length es → length (others es) < length es
  fewer [] within = absurd (omega (arith, within))
  fewer (e ∷ es) within =
      let all = few es in
      elim (eq k e.0)
      as (λ t.
      cond (not t) (1 + place es) 0 < suc (length es)
      → length (cond (not t) (e ∷ others es) (others es)) < suc (length es)) [
        | true ↦ λ _. omega (arith, all)
        | false ↦ λ h. let rest = fewer es (omega (arith, h)) in omega (arith, rest)
      ] within

  end-behind : (es : List (K × X)) → length (others es) ≤ index_before (place es) (length es)
  end-behind es =
      elim (ltb (place es) (length es))
      as (λ t. ltb (place es) (length es) ≡ t → length (others es) ≤ cond t (length es - 1) (length es)) [
        | true ↦ λ h. let less = fewer es (ltb-true _ _ h) in omega (arith, less)
        | false ↦ λ _. few es
      ] refl

  last : (es : List (K × X)) → IsDistinct eq (keys_of es)
      → move_index (insert_entry eq es k v) (place es) (index_before (place es) (length es)) ≡ others es ++ (k, v) ∷ []
  last es apart =
      ap (λ l. move_index l (place es) (index_before (place es) (length es))) (entered es apart)
      ∙ to_end (k, v) (others es) (place es) (index_before (place es) (length es)) (place-within es) (end-behind es)

-- a row behind the others, in place of the one that has its key
pub put_last-keyed : {K T S : Type 0} (key_of : T → K) (eq : K → K → Bool) (m : IndexMap K T S) (rows : List T)
    (row : T) (k : K) (end to : ℕ)
    → ((k other : K) → eq k other ≡ true → k ≡ other) → IsUnique eq m → k ≡ key_of row → keyed key_of rows ≡ m.entries
    → end ≡ length m.entries → to ≡ index_before (insert_index eq m k) end
    → move_index (insert_entry eq m.entries k row) (insert_index eq m k) to
    ≡ keyed key_of (filter (λ other. not (has_key key_of eq (key_of row) other)) rows ++ row ∷ [])
put_last-keyed key_of eq m rows row k end to one apart is same all at =
    ap (move_index (insert_entry eq m.entries k row) (insert_index eq m k))
    (at ∙ ap (index_before (insert_index eq m k)) all)
    ∙ last eq one k row m.entries apart
    ∙ (λ j. filter (λ e. not (eq (is j) e.0)) (sym same j) ++ (is j, row) ∷ [])
    ∙ ap (λ l. l ++ (key_of row, row) ∷ []) (filter_keys key_of (λ other. not (eq (key_of row) other)) rows)
    ∙ sym
    (map-append (λ row. (key_of row, row)) (filter (λ other. not (eq (key_of row) (key_of other))) rows) (row ∷ []))
