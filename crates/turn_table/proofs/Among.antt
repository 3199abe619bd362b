-- Elements of lists, and a function changed at one number.
use Rattle.std.proofs.Common.{◌≡◌, ◌≢◌, ℕ, zero, suc, ◌<◌, ◌≤◌, ◌⊎◌, Bool, true, false, cond, not, eqb, List, [], ◌∷◌, ◌++◌, map, length, refl, ap, sym, subst, ◌∙◌, inl, inr, ⊎_elim, arith, eq-eqb, ne_eqb}
use Rattle.std.specs.List.{filter}
use mathlib.Core.Option.{some, some-ne-none}
use mathlib.Core.Logic.{dite}
use lib.ListN.{get_elem?}
use native.Mathlib.Decide.{ℕ_discrete}
use Rattle.turn_table.specs.Views.{In}

module _ {T : Type 0} where
  pub in_append : (x : T) (xs ys : List T) → In x (xs ++ ys) → In x xs ⊎ In x ys
  in_append x [] ys h = inr h
  in_append x (z ∷ xs) ys (inl e) = inl (inl e)
  in_append x (z ∷ xs) ys (inr h) = ⊎_elim (λ a. inl (inr a)) (λ b. inr b) (in_append x xs ys h)

  pub in_front : (x : T) (xs ys : List T) → In x xs → In x (xs ++ ys)
  in_front x [] ys h = absurd h
  in_front x (z ∷ xs) ys (inl e) = inl e
  in_front x (z ∷ xs) ys (inr h) = inr (in_front x xs ys h)

  pub in_back : (x : T) (xs ys : List T) → In x ys → In x (xs ++ ys)
  in_back x [] ys h = h
  in_back x (z ∷ xs) ys h = inr (in_back x xs ys h)

  -- what a filter keeps stood in the list, and passes the test
  keep_cases : (t : T → Bool) (x z : T) (xs : List T) (b : Bool) → t z ≡ b
      → In x (cond b (z ∷ filter t xs) (filter t xs)) → (In x (filter t xs) → In x xs × (t x ≡ true))
      → In x (z ∷ xs) × (t x ≡ true)
  keep_cases t x z xs true e (inl p) rec = (inl p, ap t p ∙ e)
  keep_cases t x z xs true e (inr h) rec = let r = rec h in (inr r.0, r.1)
  keep_cases t x z xs false e h rec = let r = rec h in (inr r.0, r.1)

  pub kept_was : (t : T → Bool) (x : T) (xs : List T) → In x (filter t xs) → In x xs × (t x ≡ true)
  kept_was t x [] h = absurd h
  kept_was t x (z ∷ xs) h = keep_cases t x z xs (t z) refl h (kept_was t x xs)

  keeps_on : (t : T → Bool) (x z : T) (xs : List T) (b : Bool) → In x (filter t xs)
      → In x (cond b (z ∷ filter t xs) (filter t xs))
  keeps_on t x z xs true h = inr h
  keeps_on t x z xs false h = h

  pub keeps : (t : T → Bool) (x : T) (xs : List T) → In x xs → t x ≡ true → In x (filter t xs)
  keeps t x [] h e = absurd h
  keeps t x (z ∷ xs) (inl p) e =
      subst (λ b. In x (cond b (z ∷ filter t xs) (filter t xs))) (sym (sym (ap t p) ∙ e)) (inl p)
  keeps t x (z ∷ xs) (inr h) e = keeps_on t x z xs (t z) (keeps t x xs h e)

  shorter_on : (t : T → Bool) (z : T) (xs : List T) (b : Bool) → length (filter t xs) ≤ length xs
      → length (cond b (z ∷ filter t xs) (filter t xs)) ≤ length (z ∷ xs)
  shorter_on t z xs true h = omega arith
  shorter_on t z xs false h = omega arith

  pub filter_shorter : (t : T → Bool) (xs : List T) → length (filter t xs) ≤ length xs
  filter_shorter t [] = omega arith
  filter_shorter t (z ∷ xs) = shorter_on t z xs (t z) (filter_shorter t xs)

  pub in_map : {U : Type 0} (f : T → U) (y : U) (xs : List T) → In y (map f xs) → (x : T) × In x xs × (y ≡ f x)
  in_map f y [] h = absurd h
  in_map f y (x ∷ xs) (inl e) = (x, inl refl, e)
  in_map f y (x ∷ xs) (inr h) = let r = in_map f y xs h in (r.0, inr r.1, r.2)

  pub map_in : {U : Type 0} (f : T → U) (x : T) (xs : List T) → In x xs → In (f x) (map f xs)
  map_in f x [] h = absurd h
  map_in f x (z ∷ xs) (inl e) = inl (ap f e)
  map_in f x (z ∷ xs) (inr h) = inr (map_in f x xs h)

pub pair_first : {T U : Type 0} (a b : T) (x y : U) → ◌≡◌ {A = T × U} (a, x) (b, y) → a ≡ b
pair_first {T} {U} a b x y e = ap (λ (z : T × U). z.0) e

-- a number is another one or not
pub split_on : (m k : ℕ) {X : Type 0} → (m ≡ k → X) → (m ≢ k → X) → X
split_on m k here else = dite (ℕ_discrete m k) here else

not_same : (b : Bool) → not b ≡ true → b ≡ true → ⊥
not_same true e d = absurd cc
not_same false e d = absurd cc

pub other_number : (m k : ℕ) → not (eqb m k) ≡ true → m ≢ k
other_number m k e d = not_same (eqb m k) e (eq-eqb m k d)

pub is_other : (m k : ℕ) → m ≢ k → not (eqb m k) ≡ true
is_other m k n = ap not (ne_eqb m k n)

-- a function that is x at k, and elsewhere what it was
abbrev pub at_one : {X : Type 0} → (ℕ → X) → ℕ → X → ℕ → X
at_one f k x m = cond (eqb m k) x (f m)

pub at_one_same : {X : Type 0} (f : ℕ → X) (k : ℕ) (x : X) (m : ℕ) → m ≡ k → at_one f k x m ≡ x
at_one_same f k x m e = ap (λ b. cond b x (f m)) (eq-eqb m k e)

pub at_one_else : {X : Type 0} (f : ℕ → X) (k : ℕ) (x : X) (m : ℕ) → m ≢ k → at_one f k x m ≡ f m
at_one_else f k x m n = ap (λ b. cond b x (f m)) (ne_eqb m k n)

pub at_length : {X : Type 0} (l : List X) (i : ℕ) (a : X) → get_elem? l i ≡ some a → i < length l
at_length [] i a e = absurd (some-ne-none a (sym e))
at_length (x ∷ xs) zero a e = omega arith
at_length (x ∷ xs) (suc i) a e = let h = at_length xs i a e in omega arith
