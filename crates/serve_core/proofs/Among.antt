-- What stands in a list with one taken out, and in one that grew.
use Rattle.std.proofs.Common.{◌≡◌, ℕ, ◌+◌, ◌<◌, ◌⊎◌, inl, inr, List, [], ◌∷◌, ◌++◌, length, map, refl, ap, ◌∙◌, arith, length-append}
use Rattle.std.proofs.Math.ListN.{get_or-append}
use Rattle.std.proofs.lemmas.Option.{slice_get_within, slice_get-get_or, get_or_from_slice_get}
use Rattle.std.specs.List.{slice_get}
use Rattle.std.specs.declared.option.Option.TheVariants.{Some}
use Rattle.turn_table.specs.Views.{In}

pub in_last : {T : Type 0} (x : T) (xs ys : List T) → In x (xs ++ x ∷ ys)
in_last x [] ys = inl refl
in_last x (z ∷ xs) ys = inr (in_last x xs ys)

pub in_map_left : {T : Type 0} (f : T → ℕ) (m : ℕ) (xs ys : List T) → In m (map f xs) → In m (map f (xs ++ ys))
in_map_left f m [] ys p = absurd p
in_map_left f m (z ∷ xs) ys (inl e) = inl e
in_map_left f m (z ∷ xs) ys (inr p) = inr (in_map_left f m xs ys p)

pub in_map_last : {T : Type 0} (f : T → ℕ) (x : T) (xs ys : List T) → In (f x) (map f (xs ++ x ∷ ys))
in_map_last f x [] ys = inl refl
in_map_last f x (z ∷ xs) ys = inr (in_map_last f x xs ys)

-- what has a number
pub in_map_from : {T : Type 0} (f : T → ℕ) (m : ℕ) (xs : List T) → In m (map f xs) → (x : T) × In x xs × (m ≡ f x)
in_map_from f m [] p = absurd p
in_map_from f m (z ∷ xs) (inl e) = (z, inl refl, e)
in_map_from f m (z ∷ xs) (inr p) = let more = in_map_from f m xs p in (more.0, inr more.1, more.2)

-- one was taken out
pub in_rest : {T : Type 0} (x d : T) (one two : List T) → In x (one ++ two) → In x (one ++ d ∷ two)
in_rest x d [] two p = inr p
in_rest x d (z ∷ one) two (inl e) = inl e
in_rest x d (z ∷ one) two (inr p) = inr (in_rest x d one two p)

in_deeper : {T : Type 0} (f : T → ℕ) (m : ℕ) (d z : T) (one two : List T) → (m ≡ f d) ⊎ In m (map f (one ++ two))
    → (m ≡ f d) ⊎ In m (map f (z ∷ (one ++ two)))
in_deeper f m d z one two (inl e) = inl e
in_deeper f m d z one two (inr p) = inr (inr p)

pub in_map_rest : {T : Type 0} (f : T → ℕ) (m : ℕ) (d : T) (one two : List T) → In m (map f (one ++ d ∷ two))
    → (m ≡ f d) ⊎ In m (map f (one ++ two))
in_map_rest f m d [] two (inl e) = inl e
in_map_rest f m d [] two (inr p) = inr p
in_map_rest f m d (z ∷ one) two (inl e) = inr (inl e)
in_map_rest f m d (z ∷ one) two (inr p) = in_deeper f m d z one two (in_map_rest f m d one two p)

pub one_less : {T : Type 0} (d : T) (one two : List T) → length (one ++ d ∷ two) ≡ length (one ++ two) + 1
one_less d one two = omega (arith, length-append one (d ∷ two), length-append one two)

pub one_longer : {T : Type 0} (d : T) (xs : List T) → length (xs ++ d ∷ []) ≡ length xs + 1
one_longer d xs = omega (arith, length-append xs (d ∷ []))

-- a place of a list that grew
pub get_left : {T : Type 0} (xs ys : List T) (i : ℕ) (x : T) → slice_get xs i ≡ Some x → slice_get (xs ++ ys) i ≡ Some x
get_left xs ys i x e =
    let low : i < length xs = slice_get_within xs i x e in
    slice_get-get_or (xs ++ ys) i x (omega (arith, low, length-append xs ys))
    ∙ ap Some (get_or-append xs ys x i low ∙ get_or_from_slice_get xs i x x e)

pub get_last : {T : Type 0} (xs : List T) (x : T) → slice_get (xs ++ x ∷ []) (length xs) ≡ Some x
get_last [] x = refl
get_last (z ∷ xs) x = get_last xs x
