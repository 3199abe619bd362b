-- One step of the loop that changes each item.
use Rattle.std.proofs.Common.{◌≡◌, ℕ, ◌+◌, ◌<◌, List, [], ◌∷◌, ◌++◌, map, take, drop, length, get_or, set, ap, ◌∙◌, arith}
use Rattle.std.proofs.lemmas.List.{drop_more, take_more, map-append, append_assoc, get_or_at, set_at, length-map, length-take-le}

-- the items before place i are changed, and those from i on are as they were
abbrev pub changed_below : {X : Type 0} → (X → X) → List X → ℕ → List X
changed_below f xs i = map f (take i xs) ++ drop i xs

pub set-changed_below : {X : Type 0} (f : X → X) (xs ys : List X) (i : ℕ) (x : X) → i < length xs
    → ys ≡ changed_below f xs i → x ≡ get_or ys i x → set ys i (f x) ≡ changed_below f xs (i + 1)
set-changed_below f xs ys i x within so_far read =
    let front = map f (take i xs) in
    let rest = drop (i + 1) xs in
    let y = get_or xs i x in
    let long : length front ≡ i = length-map (take i xs) f ∙ length-take-le i xs (omega arith) in
    let split : ys ≡ front ++ y ∷ rest =
    so_far ∙ ap (λ more. front ++ more) (drop_more xs i x within)
    in
    let found : x ≡ y = read ∙ ap (λ l. get_or l i x) split ∙ get_or_at front y rest x i long in
    let wrote : set ys i (f x) ≡ front ++ f x ∷ rest =
    ap (λ l. set l i (f x)) split ∙ set_at front y rest (f x) i long
    in
    let more : map f (take (i + 1) xs) ≡ front ++ f y ∷ [] =
    ap (map f) (take_more xs i x within) ∙ map-append f (take i xs) (y ∷ [])
    in
    let joined : front ++ f y ∷ [] ++ rest ≡ front ++ f y ∷ rest = append_assoc front (f y ∷ []) rest in
    wrote ∙ ap (λ z. front ++ f z ∷ rest) found ∙ (cc)
