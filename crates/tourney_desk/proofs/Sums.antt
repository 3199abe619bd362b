-- Sums over the numbers below a bound, and over lists.
use Rattle.std.proofs.Common.{◌≡◌, ℕ, zero, suc, ◌+◌, ◌<◌, ◌≤◌, Bool, true, false, cond, eqb, List, [], ◌∷◌, ◌++◌, map, refl, sym, ap, ◌∙◌, inl, inr, arith}
use Rattle.std.specs.List.{filter, flat_map, range_with_len, sum_by}
use Rattle.std.proofs.lemmas.Bool.{cases_eq, eq-eqb, ne_eqb, cases_lt}
use Rattle.std.proofs.lemmas.List.Sums.{sum_by-cons, sum_by-append, sum_by_push}

-- the sum of the values at the numbers below n
abbrev pub total : ℕ → (ℕ → ℕ) → ℕ
total zero f = 0
total (suc n) f = total n f + f n

pub total-same : (n : ℕ) (f g : ℕ → ℕ) → ((k : ℕ) → k < n → f k ≡ g k) → total n f ≡ total n g
total-same zero f g h = refl
total-same (suc n) f g h =
    let front : total n f ≡ total n g = total-same n f g (λ k q. h k (omega arith)) in
    let last : f n ≡ g n = h n (omega arith) in
    cc

pub total-zero : (n : ℕ) (f : ℕ → ℕ) → ((k : ℕ) → k < n → f k ≡ 0) → total n f ≡ 0
total-zero zero f h = refl
total-zero (suc n) f h =
    let front : total n f ≡ 0 = total-zero n f (λ k q. h k (omega arith)) in
    let last : f n ≡ 0 = h n (omega arith) in
    omega (arith, front, last)

pub total-add : (n : ℕ) (f g : ℕ → ℕ) → total n (λ k. f k + g k) ≡ total n f + total n g
total-add zero f g = refl
total-add (suc n) f g =
    let front : total n (λ k. f k + g k) ≡ total n f + total n g = total-add n f g in
    omega (arith, front)

pub total-swap : (n m : ℕ) (f : ℕ → ℕ → ℕ) → total n (λ i. total m (λ j. f i j)) ≡ total m (λ j. total n (λ i. f i j))
total-swap zero m f = sym (total-zero m (λ j. 0) (λ k q. refl))
total-swap (suc n) m f =
    ap (λ t. t + total m (λ j. f n j)) (total-swap n m f) ∙ sym (total-add m (λ j. total n (λ i. f i j)) (λ j. f n j))

-- where the value is 0 but at one number
pub total-single : (n : ℕ) (f : ℕ → ℕ) (a : ℕ) → a < n → ((k : ℕ) → k < n → (k ≡ a → ⊥) → f k ≡ 0) → total n f ≡ f a
total-single zero f a low h = absurd (omega arith)
total-single (suc n) f a low h =
    elim (cases_eq n a) as (λ _. total (suc n) f ≡ f a) [
      | inl same ↦
          let front : total n f ≡ 0 = total-zero n f (λ k q. h k (omega arith) (λ e. omega (arith, e, same, q))) in
          ap (λ t. t + f n) front ∙ (let e : 0 + f n ≡ f n = omega arith in e) ∙ ap f same
      | inr other ↦
          let front : total n f ≡ f a =
          total-single n f a (let low' : a < n = omega (arith, other) in low') (λ k q. h k (omega arith)) in
          let last : f n ≡ 0 = h n (omega arith) other in
          omega (arith, front, last)
    ]

-- where the value is at most 1, and not 0 at one number at most
pub total-at_most_one : (n : ℕ) (f : ℕ → ℕ) → ((k : ℕ) → k < n → f k ≤ 1)
    → ((k l : ℕ) → k < n → l < n → 0 < f k → 0 < f l → k ≡ l) → total n f ≤ 1
total-at_most_one zero f small alone = omega arith
total-at_most_one (suc n) f small alone =
    elim (cases_lt 0 (f n)) as (λ _. total (suc n) f ≤ 1) [
      | inl here ↦
          let none : (k : ℕ) → k < n → f k ≡ 0 =
          λ k q. elim (cases_lt 0 (f k)) as (λ _. f k ≡ 0) [
            | inl there ↦
                absurd (let same : k ≡ n = alone k n (omega arith) (omega arith) there here in omega (arith, same, q))
            | inr not_there ↦ omega (arith, not_there)
          ] in
          let front : total n f ≡ 0 = total-zero n f none in
          let last : f n ≤ 1 = small n (omega arith) in
          omega (arith, front, last)
      | inr not_here ↦
          let front : total n f ≤ 1 =
          total-at_most_one n f (λ k q. small k (omega arith)) (λ k l q r. alone k l (omega arith) (omega arith)) in
          omega (arith, front, not_here)
    ]

-- a square of values that are 0 but in one row and one column, and where these cross
pub total-cross : (n a : ℕ) (f : ℕ → ℕ → ℕ) → a < n → f a a ≡ 0
    → ((i j : ℕ) → (i ≡ a → ⊥) → (j ≡ a → ⊥) → f i j ≡ 0)
    → total n (λ i. total n (λ j. f i j)) ≡ total n (λ k. f a k) + total n (λ k. f k a)
total-cross n a f low at_cross off =
    let row = total n (λ k. f a k) in
    let spike : ℕ → ℕ = λ i. cond (eqb i a) row 0 in
    let each : (i : ℕ) → i < n → total n (λ j. f i j) ≡ spike i + f i a =
    λ i q. elim (cases_eq i a) as (λ _. total n (λ j. f i j) ≡ spike i + f i a) [
      | inl same ↦
          let is_row : total n (λ j. f i j) ≡ row = ap (λ k. total n (λ j. f k j)) same in
          let peak : spike i ≡ row = ap (λ t. cond t row 0) (eq-eqb i a same) in
          let none : f i a ≡ 0 = ap (λ k. f k a) same ∙ at_cross in
          omega (arith, is_row, peak, none)
      | inr other ↦
          let is_one : total n (λ j. f i j) ≡ f i a =
          total-single n (λ j. f i j) a low (λ k r apart. off i k other apart) in
          let flat : spike i ≡ 0 = ap (λ t. cond t row 0) (ne_eqb i a other) in
          omega (arith, is_one, flat)
    ] in
    let peak : total n spike ≡ row =
    total-single n spike a low (λ k q apart. ap (λ t. cond t row 0) (ne_eqb k a apart))
    ∙ ap (λ t. cond t row 0) (eq-eqb a a refl) in
    total-same n (λ i. total n (λ j. f i j)) (λ i. spike i + f i a) each
    ∙ total-add n spike (λ i. f i a)
    ∙ ap (λ t. t + total n (λ k. f k a)) peak

-- ---- sums over lists

pub sum_by-map : {X Y : Type 0} (f : Y → ℕ) (g : X → Y) (xs : List X) → sum_by f (map g xs) ≡ sum_by (λ x. f (g x)) xs
sum_by-map f g [] = refl
sum_by-map f g (x ∷ xs) =
    let rest : sum_by f (map g xs) ≡ sum_by (λ y. f (g y)) xs = sum_by-map f g xs in
    omega (arith, sum_by-cons f (g x) (map g xs), sum_by-cons (λ y. f (g y)) x xs, rest)

pub sum_by-filter : {X : Type 0} (f : X → ℕ) (p : X → Bool) (xs : List X)
    → sum_by f (filter p xs) ≡ sum_by (λ x. cond (p x) (f x) 0) xs
sum_by-filter f p [] = refl
sum_by-filter {X} f p (x ∷ xs) =
    let g : X → ℕ = λ y. cond (p y) (f y) 0 in
    let rest : sum_by f (filter p xs) ≡ sum_by g xs = sum_by-filter f p xs in
    let step : sum_by f (cond (p x) (x ∷ filter p xs) (filter p xs)) ≡ cond (p x) (f x) 0 + sum_by g xs =
    elim (p x) as (λ t. sum_by f (cond t (x ∷ filter p xs) (filter p xs)) ≡ cond t (f x) 0 + sum_by g xs) [
      | true ↦ omega (arith, sum_by-cons f x (filter p xs), rest)
      | false ↦ omega (arith, rest)
    ] in
    step ∙ sym (sum_by-cons g x xs)

pub sum_by-flat_map : {X Y : Type 0} (f : Y → ℕ) (g : X → List Y) (xs : List X)
    → sum_by f (flat_map g xs) ≡ sum_by (λ x. sum_by f (g x)) xs
sum_by-flat_map f g [] = refl
sum_by-flat_map f g (x ∷ xs) =
    let rest : sum_by f (flat_map g xs) ≡ sum_by (λ y. sum_by f (g y)) xs = sum_by-flat_map f g xs in
    sum_by-append f (g x) (flat_map g xs) ∙ ap (λ t. sum_by f (g x) + t) rest
    ∙ sym (sum_by-cons (λ y. sum_by f (g y)) x xs)

pub range-more : (a n : ℕ) → range_with_len a (suc n) ≡ range_with_len a n ++ (a + n) ∷ []
range-more a zero = let e : a ≡ a + 0 = omega arith in ap (λ k. k ∷ []) e
range-more a (suc n) =
    let e : a + 1 + n ≡ a + suc n = omega arith in
    ap (λ l. a ∷ l) (range-more (a + 1) n ∙ ap (λ k. range_with_len (a + 1) n ++ k ∷ []) e)

pub sum_by-range : (f : ℕ → ℕ) (a n : ℕ) → sum_by f (range_with_len a n) ≡ total n (λ k. f (a + k))
sum_by-range f a zero = refl
sum_by-range f a (suc n) =
    ap (sum_by f) (range-more a n) ∙ sum_by_push f (range_with_len a n) (a + n)
    ∙ ap (λ t. t + f (a + n)) (sum_by-range f a n)
