-- Lists whose items are changed one by one, filtered, or written at a place.
use Rattle.std.proofs.Common.{◌≡◌, ◌≢◌, ◌⊎◌, ℕ, ◌<◌, zero, suc, Bool, true, false, cond, List, [], ◌∷◌, Option, None, Some, length, map, filter, get_or, slice_get, refl, sym, ap, ◌∙◌, inl, inr, arith}
use Rattle.std.specs.Prelude.{All, Contains}
use Rattle.std.specs.List.{AllPairs, find}
use Rattle.std.proofs.Math.ListN.{set, get_or-map}
use Rattle.std.proofs.lemmas.List.{length-map}
use Rattle.std.proofs.lemmas.List.Elements.{All-nil, All-cons, All-head, All-tail}
use Rattle.tables.specs.Rows.{change_first}
pub use Rattle.lobby_shelf.proofs.Keeping.{All-filter_passing}
use Rattle.fics_words.proofs.Causes.{first_none}

pub map-map_same : {X Y : Type 0} (g : X → Y) (f : X → X) → ((x : X) → g (f x) ≡ g x) → (xs : List X)
    → map g (map f xs) ≡ map g xs
map-map_same g f same [] = refl
map-map_same g f same (x ∷ xs) =
    ap (λ y. y ∷ map g (map f xs)) (same x) ∙ ap (λ ys. g x ∷ ys) (map-map_same g f same xs)

pub map-by_test : {X Y : Type 0} (g : X → Y) (b : Bool) (x y : X) (xs ys : List X) → g y ≡ g x → map g ys ≡ map g xs
    → map g (cond b (y ∷ xs) (x ∷ ys)) ≡ g x ∷ map g xs
map-by_test g true x y xs ys head tail = ap (λ z. z ∷ map g xs) head
map-by_test g false x y xs ys head tail = ap (λ zs. g x ∷ zs) tail

pub map-change_first_same : {X Y : Type 0} (g : X → Y) (p : X → Bool) (f : X → X) → ((x : X) → g (f x) ≡ g x)
    → (xs : List X)
    → map g (change_first p f xs) ≡ map g xs
map-change_first_same g p f same [] = refl
map-change_first_same g p f same (x ∷ xs) =
    map-by_test g (p x) x (f x) xs (change_first p f xs) (same x) (map-change_first_same g p f same xs)

pub All-map_each : {X : Type 0} (P Q : X → Type 0) (f : X → X) → ((x : X) → P x → Q (f x)) → (xs : List X) → All P xs
    → All Q (map f xs)
All-map_each P Q f step [] h = All-nil Q
All-map_each P Q f step (x ∷ xs) h =
    All-cons Q (f x) (map f xs) (step x (All-head P x xs h)) (All-map_each P Q f step xs (All-tail P x xs h))

pub All-by_test : {X : Type 0} (P : X → Type 0) (b : Bool) (x y : X) (xs ys : List X) → P x → P y → All P xs → All P ys
    → All P (cond b (y ∷ xs) (x ∷ ys))
All-by_test P true x y xs ys hx hy hxs hys = All-cons P y xs hy hxs
All-by_test P false x y xs ys hx hy hxs hys = All-cons P x ys hx hys

pub All-change_first : {X : Type 0} (P : X → Type 0) (p : X → Bool) (f : X → X) → ((x : X) → P x → P (f x))
    → (xs : List X)
    → All P xs → All P (change_first p f xs)
All-change_first P p f step [] h = All-nil P
All-change_first P p f step (x ∷ xs) h =
    let head = All-head P x xs h in
    let tail = All-tail P x xs h in
    All-by_test P (p x) x (f x) xs (change_first p f xs) head (step x head) tail (All-change_first P p f step xs tail)

by_test-passing : {X : Type 0} (P : X → Type 0) (b : Bool) (x y : X) (xs ys : List X) → P x → (b ≡ true → P y)
    → All P xs → All P ys
    → All P (cond b (y ∷ xs) (x ∷ ys))
by_test-passing P true x y xs ys hx hy hxs hys = All-cons P y xs (hy refl) hxs
by_test-passing P false x y xs ys hx hy hxs hys = All-cons P x ys hx hys

-- a change of the first item that passes needs to keep what each item has for such items alone
pub All-change_first_passing : {X : Type 0} (P : X → Type 0) (p : X → Bool) (f : X → X)
    → ((x : X) → p x ≡ true → P x → P (f x)) → (xs : List X)
    → All P xs → All P (change_first p f xs)
All-change_first_passing P p f step [] h = All-nil P
All-change_first_passing P p f step (x ∷ xs) h =
    let head = All-head P x xs h in
    let tail = All-tail P x xs h in
    by_test-passing P (p x) x (f x) xs (change_first p f xs) head (λ passes. step x passes head) tail
    (All-change_first_passing P p f step xs tail)

pub map-cond_cons : {X Y : Type 0} (g : X → Y) (b : Bool) (x : X) (xs : List X)
    → map g (cond b (x ∷ xs) xs) ≡ cond b (g x ∷ map g xs) (map g xs)
map-cond_cons g true x xs = refl
map-cond_cons g false x xs = refl

-- a filter by what g shows
pub map-filter : {X Y : Type 0} (g : X → Y) (q : Y → Bool) (xs : List X)
    → map g (filter (λ x. q (g x)) xs) ≡ filter q (map g xs)
map-filter g q [] = refl
map-filter g q (x ∷ xs) =
    map-cond_cons g (q (g x)) x (filter (λ z. q (g z)) xs) ∙ ap (λ ys. cond (q (g x)) (g x ∷ ys) ys) (map-filter g q xs)

pub Contains-here : {X : Type 0} (x y : X) (xs : List X) → y ≡ x → Contains (y ∷ xs) x
Contains-here x y xs e = (0, omega arith, e)

pub Contains-later : {X : Type 0} (x y : X) (xs : List X) → Contains xs x → Contains (y ∷ xs) x
Contains-later x y xs h = (suc h.0, omega (arith, h.1), h.2)

pub Contains-kept : {X : Type 0} (b : Bool) (x y : X) (xs : List X) → (y ≡ x → b ≡ true) → (k : ℕ) → k < suc (length xs)
    → get_or (y ∷ xs) k x ≡ x
    → (zs : List X) → (Contains xs x → Contains zs x) → Contains (cond b (y ∷ zs) zs) x
Contains-kept true x y xs stays zero h e zs rest = Contains-here x y zs e
Contains-kept false x y xs stays zero h e zs rest = let bad : false ≡ true = stays e in cc
Contains-kept true x y xs stays (suc k) h e zs rest = Contains-later x y zs (rest (k, omega arith, e))
Contains-kept false x y xs stays (suc k) h e zs rest = rest (k, omega arith, e)

pub Contains-filter : {X : Type 0} (p : X → Bool) (xs : List X) (x : X) → p x ≡ true → Contains xs x
    → Contains (filter p xs) x
Contains-filter p [] x passes h = absurd (omega (arith, h.1))
Contains-filter p (y ∷ ys) x passes h =
    Contains-kept (p y) x y ys (λ e. ap p e ∙ passes) h.0 h.1 h.2 (filter p ys) (Contains-filter p ys x passes)

-- items that differ in what g shows still do, where g shows the same as before
pub AllPairs-same : {X Y : Type 0} (g : X → Y) (xs ys : List X) → map g ys ≡ map g xs
    → AllPairs (λ a b. g a ≢ g b) xs → AllPairs (λ a b. g a ≢ g b) ys
AllPairs-same g xs ys same h i j d before inside = λ e.
    let long : length ys ≡ length xs = sym (length-map ys g) ∙ ap length same ∙ length-map xs g in
    let at : (k : ℕ) → g (get_or xs k d) ≡ g (get_or ys k d) =
    λ k. sym (get_or-map g xs k d) ∙ ap (λ zs. get_or zs k (g d)) (sym same) ∙ get_or-map g ys k d in
    h i j d before (omega arith) (at i ∙ e ∙ sym (at j))

pub find-step : {X : Type 0} (b : Bool) (x y : X) (r : Option X) → cond b (Some x) r ≡ Some y
    → ((b ≡ true) × (x ≡ y)) ⊎ (r ≡ Some y)
find-step true x y r e = inl (refl, cc)
find-step false x y r e = inr e

-- what was found passes, and stands in the list
pub find-passes : {X : Type 0} (p : X → Bool) (xs : List X) (y : X) → find p xs ≡ Some y → p y ≡ true
find-passes p [] y e = cc
find-passes p (x ∷ xs) y e =
    elim (find-step (p x) x y (find p xs) e) [ inl h ↦ ap p (sym h.1) ∙ h.0 | inr h ↦ find-passes p xs y h ]

pub find-contained : {X Y : Type 0} (g : X → Y) (p : X → Bool) (xs : List X) (y : X) → find p xs ≡ Some y
    → Contains (map g xs) (g y)
find-contained g p [] y e = cc
find-contained g p (x ∷ xs) y e = elim (find-step (p x) x y (find p xs) e) [
  | inl h ↦ Contains-here (g y) (g x) (map g xs) (ap g h.1)
  | inr h ↦ Contains-later (g y) (g x) (map g xs) (find-contained g p xs y h)
]

-- where nothing was found nothing passes
pub find-none : {X : Type 0} (p : X → Bool) (xs : List X) → find p xs ≡ None → All (λ x. p x ≡ false) xs
find-none p [] e = All-nil (λ x. p x ≡ false)
find-none p (x ∷ xs) e =
    let step = first_none (p x) x (find p xs) e in
    All-cons (λ z. p z ≡ false) x xs step.0 (find-none p xs step.1)

pub get-set_same : {X : Type 0} (xs : List X) (i : ℕ) (y : X) → i < length xs → slice_get (set xs i y) i ≡ Some y
get-set_same [] i y h = absurd (omega arith)
get-set_same (x ∷ xs) zero y h = refl
get-set_same (x ∷ xs) (suc i) y h = get-set_same xs i y (omega arith)

pub get-set_other : {X : Type 0} (xs : List X) (i j : ℕ) (y : X) → j ≢ i → slice_get (set xs i y) j ≡ slice_get xs j
get-set_other [] i j y h = refl
get-set_other (x ∷ xs) zero zero y h = absurd (h refl)
get-set_other (x ∷ xs) zero (suc j) y h = refl
get-set_other (x ∷ xs) (suc i) zero y h = refl
get-set_other (x ∷ xs) (suc i) (suc j) y h = get-set_other xs i j y (λ e. h (ap suc e))
