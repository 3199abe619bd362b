-- The first item that passes a test, and its place.
use Rattle.std.proofs.Common.{◌≡◌, ◌+◌, ◌<◌, ℕ, suc, Bool, true, false, not, cond, List, [], ◌∷◌, None, Some, length, slice_get, option_map, get_or, position, refl, sym, ap, subst, ◌∙◌, arith}
use Rattle.std.specs.List.{find, position_or_len}
use Rattle.std.proofs.lemmas.Bool.{ltb-true, ltb-false}
use Rattle.std.proofs.lemmas.List.Folds.{find_at}
use Rattle.std.proofs.lemmas.Option.{slice_get-get_or, slice_get_past, cond_some}
use Rattle.tables.specs.Rows.{change_at, change_first}
pub use Rattle.std.proofs.lemmas.Option.{cond_some as some_by_test}

pub none_by_test : (b : Bool) (n : ℕ) → cond b (Some n) None ≡ None → b ≡ false
none_by_test true n e = cc
none_by_test false n e = refl

-- it stands within the list
pub position-within : {X : Type 0} (p : X → Bool) (xs : List X) (i : ℕ) → position p xs ≡ Some i → i < length xs
position-within p xs i e =
    let found = cond_some _ (position_or_len p xs) i e in
    let within : position_or_len p xs < length xs = ltb-true _ _ found.0 in
    subst (λ (n : ℕ). n < length xs) found.1 within

-- it is the one at its place
pub find-found : {X : Type 0} (p : X → Bool) (xs : List X) (i : ℕ) → position p xs ≡ Some i → find p xs ≡ slice_get xs i
find-found p xs i e = find_at p xs ∙ ap (slice_get xs) (cond_some _ (position_or_len p xs) i e).1

pub find-missing : {X : Type 0} (p : X → Bool) (xs : List X) → position p xs ≡ None → find p xs ≡ None
find-missing p xs e = find_at p xs ∙ slice_get_past xs _ (ltb-false _ _ (none_by_test _ (position_or_len p xs) e))

change_at-first : {X : Type 0} (p : X → Bool) (f : X → X) (xs : List X)
    → change_at (position_or_len p xs) f xs ≡ change_first p f xs
change_at-first p f [] = refl
change_at-first p f (x ∷ xs) =
    let next : 1 + position_or_len p xs ≡ suc (position_or_len p xs) = omega arith in
    elim (p x)
    as (λ t.
    change_at (cond (not t) (1 + position_or_len p xs) 0) f (x ∷ xs) ≡ cond t (f x ∷ xs) (x ∷ change_first p f xs)) [
      | true ↦ refl
      | false ↦ ap (λ n. change_at n f (x ∷ xs)) next ∙ ap (λ l. x ∷ l) (change_at-first p f xs)
    ]

-- a change at its place is a change of it
pub changed_at : {X : Type 0} (p : X → Bool) (f : X → X) (xs : List X) (i : ℕ) → position p xs ≡ Some i
    → change_at i f xs ≡ change_first p f xs
changed_at p f xs i e =
    ap (λ n. change_at n f xs) (sym (cond_some _ (position_or_len p xs) i e).1) ∙ change_at-first p f xs

-- what is read of it
pub part_found : {X P : Type 0} (p : X → Bool) (part : X → P) (xs : List X) (i : ℕ) (now : P) → position p xs ≡ Some i
    → ((x : X) → slice_get xs i ≡ Some x → now ≡ part x) → Some now ≡ option_map part (find p xs)
part_found {X} p part [] i now e reads = absurd (omega (arith, position-within p [] i e))
part_found {X} p part (y ∷ ys) i now e reads =
    let at = slice_get-get_or (y ∷ ys) i y (position-within p (y ∷ ys) i e) in
    ap (λ n. Some n) (reads (get_or (y ∷ ys) i y) at) ∙ sym (ap (option_map part) (find-found p (y ∷ ys) i e ∙ at))
