-- Lists read and written at numbers.
use Rattle.std.proofs.Common.{◌≡◌, ◌≢◌, ℕ, zero, suc, ◌<◌, List, [], ◌∷◌, length, set, refl, ap, subst, arith}
use Rattle.std.specs.Prelude.{IfSome}
use Rattle.std.specs.List.{slice_get}
use Rattle.std.specs.declared.option.Option.TheVariants.{Some}

module _ {T : Type 0} where
  pub get_set_same : (xs : List T) (i : ℕ) (v : T) → i < length xs → slice_get (set xs i v) i ≡ Some v
  get_set_same [] i v h = absurd (omega arith)
  get_set_same (x ∷ xs) zero v h = refl
  get_set_same (x ∷ xs) (suc i) v h = get_set_same xs i v (omega arith)

  pub get_set_else : (xs : List T) (i j : ℕ) (v : T) → j ≢ i → slice_get (set xs i v) j ≡ slice_get xs j
  get_set_else [] i j v n = refl
  get_set_else (x ∷ xs) zero zero v n = absurd (n refl)
  get_set_else (x ∷ xs) zero (suc j) v n = refl
  get_set_else (x ∷ xs) (suc i) zero v n = refl
  get_set_else (x ∷ xs) (suc i) (suc j) v n = get_set_else xs i j v (λ e. n (ap suc e))

  -- one write on two lists that have the same part there
  pub get_set_cong : (xs ys : List T) (i j : ℕ) (v : T) → length xs ≡ length ys → slice_get xs j ≡ slice_get ys j
      → slice_get (set xs i v) j ≡ slice_get (set ys i v) j
  get_set_cong [] [] i j v n e = refl
  get_set_cong [] (y ∷ ys) i j v n e = absurd (omega arith)
  get_set_cong (x ∷ xs) [] i j v n e = absurd (omega arith)
  get_set_cong (x ∷ xs) (y ∷ ys) zero zero v n e = refl
  get_set_cong (x ∷ xs) (y ∷ ys) zero (suc j) v n e = e
  get_set_cong (x ∷ xs) (y ∷ ys) (suc i) zero v n e = e
  get_set_cong (x ∷ xs) (y ∷ ys) (suc i) (suc j) v n e = get_set_cong xs ys i j v (omega arith) e

  pub set_swap : (xs : List T) (i j : ℕ) (v w : T) → i ≢ j → set (set xs i v) j w ≡ set (set xs j w) i v
  set_swap [] i j v w n = refl
  set_swap (x ∷ xs) zero zero v w n = absurd (n refl)
  set_swap (x ∷ xs) zero (suc j) v w n = refl
  set_swap (x ∷ xs) (suc i) zero v w n = refl
  set_swap (x ∷ xs) (suc i) (suc j) v w n = ap (λ ys. x ∷ ys) (set_swap xs i j v w (λ e. n (ap suc e)))

  pub get_within : (xs : List T) (i : ℕ) → i < length xs → (x : T) × (slice_get xs i ≡ Some x)
  get_within [] i h = absurd (omega arith)
  get_within (x ∷ xs) zero h = (x, refl)
  get_within (x ∷ xs) (suc i) h = get_within xs i (omega arith)

  pub slice_get_length : (xs : List T) (i : ℕ) (v : T) → slice_get xs i ≡ Some v → i < length xs
  slice_get_length [] i v e = absurd (cc)
  slice_get_length (x ∷ xs) zero v e = omega arith
  slice_get_length (x ∷ xs) (suc i) v e = let h = slice_get_length xs i v e in omega arith

  -- two lists with the same parts at all numbers are one
  pub same_parts : (xs ys : List T) → ((i : ℕ) → slice_get xs i ≡ slice_get ys i) → xs ≡ ys
  same_parts [] [] h = refl
  same_parts [] (y ∷ ys) h = absurd (let e = h 0 in cc)
  same_parts (x ∷ xs) [] h = absurd (let e = h 0 in cc)
  same_parts (x ∷ xs) (y ∷ ys) h =
      let e : x ≡ y = let q : Some x ≡ Some y = h 0 in cc in let es = same_parts xs ys (λ i. h (suc i)) in
      λ k. e k ∷ es k

  -- a fact of each element is one of the element at a number, and of each after a write of such an element
  pub get_has : (Q : T → Type 0) (xs : List T) (i : ℕ) → ((s : ℕ) (x : T) → slice_get xs s ≡ Some x → Q x)
      → IfSome (slice_get xs i) Q
  get_has Q [] i q = tt
  get_has Q (x ∷ xs) zero q = q zero x refl
  get_has Q (x ∷ xs) (suc i) q = get_has Q xs i (λ s y e. q (suc s) y e)

  pub each_set : (Q : T → Type 0) (xs : List T) (i : ℕ) (y : T) → Q y
      → ((s : ℕ) (x : T) → slice_get xs s ≡ Some x → Q x) → (s : ℕ) (x : T) → slice_get (set xs i y) s ≡ Some x → Q x
  each_set Q [] i y h q s x e = q s x e
  each_set Q (z ∷ zs) zero y h q zero x e = let d : y ≡ x = let k : Some y ≡ Some x = e in cc in subst Q d h
  each_set Q (z ∷ zs) zero y h q (suc s) x e = q (suc s) x e
  each_set Q (z ∷ zs) (suc i) y h q zero x e = q zero x e
  each_set Q (z ∷ zs) (suc i) y h q (suc s) x e = each_set Q zs i y h (λ t w d. q (suc t) w d) s x e
