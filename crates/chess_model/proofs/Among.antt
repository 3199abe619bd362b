-- What is among the elements of a list, and what tests over lists decide.
use Rattle.std.proofs.Common.{arith, ◌≡◌, ℕ, ◌+◌, ◌<◌, ◌≤◌, ◌⊎◌, inl, inr, suc, zero, List, [], ◌∷◌, map, Bool, true, false, cond, length, nat_lt, ◌++◌, slice_index_or, refl, sym, ap, subst, ◌∙◌}
use Rattle.std.specs.Bool.{Decides}
use Rattle.std.specs.List.{list_all, list_any, filter, flat_map, range_with_len, Contains}
use Rattle.std.proofs.lemmas.Bool.Decides.{Decides-ltb}
use Rattle.std.proofs.lemmas.Bool.{cases_eq, and_parts, and_from, or_left, or_right, or_cases}

-- x is an element
abbrev pub Among : {A : Type 0} → A → List A → Type 0
Among x [] = ⊥
Among x (y ∷ ys) = (x ≡ y) ⊎ Among x ys

pub list_all-each : {A : Type 0} (f : A → Bool) (xs : List A) → list_all f xs ≡ true → (x : A) → Among x xs → f x ≡ true
list_all-each f [] h x a = absurd a
list_all-each f (y ∷ ys) h x (inl same) = ap f same ∙ (and_parts (f y) (list_all f ys) h).0
list_all-each f (y ∷ ys) h x (inr later) = list_all-each f ys (and_parts (f y) (list_all f ys) h).1 x later

pub list_all-from : {A : Type 0} (f : A → Bool) (xs : List A) → ((x : A) → Among x xs → f x ≡ true)
    → list_all f xs ≡ true
list_all-from f [] h = refl
list_all-from f (y ∷ ys) h =
    and_from (f y) (list_all f ys) (h y (inl refl)) (list_all-from f ys (λ x a. h x (inr a)))

pub list_any-some : {A : Type 0} (f : A → Bool) (xs : List A) → list_any f xs ≡ true
    → (x : A) × Among x xs × (f x ≡ true)
list_any-some f [] h = absurd (let no : false ≡ true = h in cc)
list_any-some f (y ∷ ys) h = elim (or_cases (f y) (list_any f ys) h) [
  | inl here ↦ (y, inl refl, here)
  | inr later ↦ let t = list_any-some f ys later in (t.0, inr t.1, t.2)
]

pub list_any-from : {A : Type 0} (f : A → Bool) (xs : List A) (x : A) → Among x xs → f x ≡ true → list_any f xs ≡ true
list_any-from f [] x a h = absurd a
list_any-from f (y ∷ ys) x (inl same) h = or_left (f y) (list_any f ys) (sym (ap f same) ∙ h)
list_any-from f (y ∷ ys) x (inr later) h = or_right (f y) (list_any f ys) (list_any-from f ys x later h)

kept_here : {A : Type 0} (b : Bool) (x y : A) (rest : List A) → x ≡ y → b ≡ true → Among x (cond b (y ∷ rest) rest)
kept_here true x y rest same h = inl same
kept_here false x y rest same h = absurd (let no : false ≡ true = h in cc)

kept_later : {A : Type 0} (b : Bool) (x y : A) (rest : List A) → Among x rest → Among x (cond b (y ∷ rest) rest)
kept_later true x y rest a = inr a
kept_later false x y rest a = a

kept : {A : Type 0} (b : Bool) (x y : A) (rest : List A) → Among x (cond b (y ∷ rest) rest)
    → ((x ≡ y) × (b ≡ true)) ⊎ Among x rest
kept true x y rest (inl same) = inl (same, refl)
kept true x y rest (inr later) = inr later
kept false x y rest a = inr a

pub Among-filter : {A : Type 0} (f : A → Bool) (xs : List A) (x : A) → Among x xs → f x ≡ true → Among x (filter f xs)
Among-filter f [] x a h = absurd a
Among-filter f (y ∷ ys) x (inl same) h = kept_here (f y) x y (filter f ys) same (sym (ap f same) ∙ h)
Among-filter f (y ∷ ys) x (inr later) h = kept_later (f y) x y (filter f ys) (Among-filter f ys x later h)

pub Among-filtered : {A : Type 0} (f : A → Bool) (xs : List A) (x : A) → Among x (filter f xs)
    → Among x xs × (f x ≡ true)
Among-filtered f [] x a = absurd a
Among-filtered f (y ∷ ys) x a = elim (kept (f y) x y (filter f ys) a) [
  | inl here ↦ (inl here.0, ap f here.0 ∙ here.1)
  | inr later ↦ let t = Among-filtered f ys x later in (inr t.0, t.1)
]

pub Among-map : {A B : Type 0} (h : A → B) (xs : List A) (x : A) → Among x xs → Among (h x) (map h xs)
Among-map h [] x a = absurd a
Among-map h (y ∷ ys) x (inl same) = inl (ap h same)
Among-map h (y ∷ ys) x (inr later) = inr (Among-map h ys x later)

pub Among-mapped : {A B : Type 0} (h : A → B) (xs : List A) (y : B) → Among y (map h xs)
    → (x : A) × Among x xs × (y ≡ h x)
Among-mapped h [] y a = absurd a
Among-mapped h (x ∷ xs) y (inl same) = (x, inl refl, same)
Among-mapped h (x ∷ xs) y (inr later) = let t = Among-mapped h xs y later in (t.0, inr t.1, t.2)

pub Among-range : (a n k : ℕ) → a ≤ k → k < a + n → Among k (range_with_len a n)
Among-range a zero k h less = absurd (omega arith)
Among-range a (suc n) k h less = elim (cases_eq k a) [
  | inl same ↦ inl same
  | inr other ↦ inr (Among-range (a + 1) n k (omega arith) (omega arith))
]

pub Among-ranged : (a n k : ℕ) → Among k (range_with_len a n) → (a ≤ k) × (k < a + n)
Among-ranged a zero k h = absurd h
Among-ranged a (suc n) k (inl same) = (omega arith, omega arith)
Among-ranged a (suc n) k (inr later) =
    let t = Among-ranged (a + 1) n k later in (omega (arith, t.0), omega (arith, t.1))

-- the numbers of a range, through a function of them
module _ {A : Type 0} (f : A → Bool) (h : ℕ → A) (P : ℕ → Type 0) (each : (k : ℕ) → Decides (f (h k)) (P k)) where
  pub Decides-each_mapped : (a n : ℕ)
      → Decides (list_all f (map h (range_with_len a n))) ((k : ℕ) → a ≤ k → k < a + n → P k)
  Decides-each_mapped a n = (
    λ e k from to.
        (each k).0
        (list_all-each f (map h (range_with_len a n)) e (h k)
        (Among-map h (range_with_len a n) k (Among-range a n k from to))),
    λ p. list_all-from f (map h (range_with_len a n)) (λ x among.
        let t = Among-mapped h (range_with_len a n) x among in
        let k = Among-ranged a n t.0 t.1 in
        ap f t.2 ∙ (each t.0).1 (p t.0 k.0 k.1)),
  )

module _ (f : ℕ → Bool) (P : ℕ → Type 0) (each : (k : ℕ) → Decides (f k) (P k)) where
  pub Decides-some_below : (n : ℕ) → Decides (list_any f (range_with_len 0 n)) ((k : ℕ) × (k < n) × P k)
  Decides-some_below n = (
    λ e. let t = list_any-some f (range_with_len 0 n) e in
        let k = Among-ranged 0 n t.0 t.1 in
        (t.0, omega (arith, k.1), (each t.0).0 t.2),
    λ t.
        list_any-from f (range_with_len 0 n) t.0 (Among-range 0 n t.0 (omega arith) (omega (arith, t.1)))
        ((each t.0).1 t.2),
  )

-- no element stands twice
abbrev pub Apart : {A : Type 0} → List A → Type 0
Apart [] = Unit {0}
Apart (x ∷ xs) = (¬ Among x xs) × Apart xs

pub Apart-range : (a n : ℕ) → Apart (range_with_len a n)
Apart-range a zero = tt
Apart-range a (suc n) = (λ later. let t = Among-ranged (a + 1) n a later in omega (arith, t.0), Apart-range (a + 1) n)

apart_kept : {A : Type 0} (b : Bool) (y : A) (rest : List A) → ¬ Among y rest → Apart rest
    → Apart (cond b (y ∷ rest) rest)
apart_kept true y rest other apart = (other, apart)
apart_kept false y rest other apart = apart

pub Apart-filter : {A : Type 0} (f : A → Bool) (xs : List A) → Apart xs → Apart (filter f xs)
Apart-filter f [] h = tt
Apart-filter f (y ∷ ys) h =
    apart_kept (f y) y (filter f ys) (λ a. h.0 (Among-filtered f ys y a).0) (Apart-filter f ys h.1)

pub Apart-map : {A B : Type 0} (h : A → B) → ((x y : A) → h x ≡ h y → x ≡ y) → (xs : List A) → Apart xs
    → Apart (map h xs)
Apart-map h same [] apart = tt
Apart-map h same (x ∷ xs) apart = (
  λ later. let t = Among-mapped h xs (h x) later in apart.0 (subst (λ y. Among y xs) (sym (same x t.0 t.2)) t.1),
  Apart-map h same xs apart.1,
)

-- a list of which each element is m
pub single : {A : Type 0} (xs : List A) (m : A) → Apart xs → Among m xs → ((x : A) → Among x xs → x ≡ m) → xs ≡ m ∷ []
single [] m apart a only = absurd a
single (x ∷ []) m apart a only = ap (λ y. y ∷ []) (only x (inl refl))
single (x ∷ y ∷ ys) m apart a only = absurd (apart.0 (inl (only x (inl refl) ∙ sym (only y (inr (inl refl))))))

-- two elements that differ
pub record Two {A : Type 0} (xs : List A) : Type 0 where
  pub one : A
  pub two : A
  pub one_among : Among one xs
  pub two_among : Among two xs
  pub differ : one ≡ two → ⊥

two_of : {A : Type 0} (xs : List A) → Apart xs → 1 < length xs → Two xs
two_of [] apart h = absurd (omega arith)
two_of (x ∷ []) apart h = absurd (omega arith)
two_of (x ∷ y ∷ ys) apart h =
    record { one = x; two = y; one_among = inl refl; two_among = inr (inl refl); differ = λ e. apart.0 (inl e) }

from_two : {A : Type 0} (xs : List A) → Two xs → 1 < length xs
from_two [] t = absurd t.one_among
from_two (x ∷ []) t = absurd (same t.one_among t.two_among t.differ)
  where
    same : {A : Type 0} {x y z : A} → (x ≡ z) ⊎ ⊥ → (y ≡ z) ⊎ ⊥ → ¬ (x ≡ y) → ⊥
    same (inl e) (inl f) differ = differ (e ∙ sym f)
    same (inr e) f differ = e
    same (inl e) (inr f) differ = f
from_two (x ∷ y ∷ ys) t = omega arith

pub Decides-two : {A : Type 0} (xs : List A) → Apart xs → Decides (nat_lt 1 (length xs)) (Two xs)
Decides-two xs apart =
    (λ e. two_of xs apart ((Decides-ltb 1 (length xs)).0 e), λ t. (Decides-ltb 1 (length xs)).1 (from_two xs t))

pub Among-append_left : {A : Type 0} (xs ys : List A) (x : A) → Among x xs → Among x (xs ++ ys)
Among-append_left [] ys x a = absurd a
Among-append_left (y ∷ xs) ys x (inl same) = inl same
Among-append_left (y ∷ xs) ys x (inr later) = inr (Among-append_left xs ys x later)

pub Among-append_right : {A : Type 0} (xs ys : List A) (x : A) → Among x ys → Among x (xs ++ ys)
Among-append_right [] ys x a = a
Among-append_right (y ∷ xs) ys x a = inr (Among-append_right xs ys x a)

pub Among-appended : {A : Type 0} (xs ys : List A) (x : A) → Among x (xs ++ ys) → Among x xs ⊎ Among x ys
Among-appended [] ys x a = inr a
Among-appended (y ∷ xs) ys x (inl same) = inl (inl same)
Among-appended (y ∷ xs) ys x (inr later) = elim (Among-appended xs ys x later) [ inl a ↦ inl (inr a) | inr a ↦ inr a ]

pub Among-flat_map : {A B : Type 0} (f : A → List B) (xs : List A) (x : A) (y : B) → Among x xs → Among y (f x)
    → Among y (flat_map f xs)
Among-flat_map f [] x y a h = absurd a
Among-flat_map f (z ∷ xs) x y (inl same) h =
    Among-append_left (f z) (flat_map f xs) y (subst (λ w. Among y (f w)) same h)
Among-flat_map f (z ∷ xs) x y (inr later) h =
    Among-append_right (f z) (flat_map f xs) y (Among-flat_map f xs x y later h)

pub Among-flat_mapped : {A B : Type 0} (f : A → List B) (xs : List A) (y : B) → Among y (flat_map f xs) →
    (x : A) × Among x xs × Among y (f x)
Among-flat_mapped f [] y a = absurd a
Among-flat_mapped f (z ∷ xs) y a = elim (Among-appended (f z) (flat_map f xs) y a) [
  | inl here ↦ (z, inl refl, here)
  | inr later ↦ let t = Among-flat_mapped f xs y later in (t.0, inr t.1, t.2)
]

pub Contains-among : {A : Type 0} (xs : List A) (x : A) → Among x xs → Contains xs x
Contains-among [] x a = absurd a
Contains-among (y ∷ ys) x (inl same) = (0, omega arith, sym same)
Contains-among (y ∷ ys) x (inr later) = let t = Contains-among ys x later in (suc t.0, omega (arith, t.1), t.2)

pub Among-contains : {A : Type 0} (xs : List A) (x : A) → Contains xs x → Among x xs
Among-contains xs x c = at xs c.0 c.1 c.2
  where
    at : {A : Type 0} {x : A} (xs : List A) (k : ℕ) → k < length xs → slice_index_or xs k x ≡ x → Among x xs
    at [] k h e = absurd (omega arith)
    at (y ∷ ys) zero h e = inl (sym e)
    at (y ∷ ys) (suc k) h e = inr (at ys k (omega arith) e)
