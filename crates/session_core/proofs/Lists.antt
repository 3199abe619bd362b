-- Texts of lists, one item after the other.
use Rattle.std.proofs.Common.{◌≡◌, ℕ, ◌+◌, ◌<◌, ◌≤◌, List, [], ◌∷◌, ◌++◌, length, drop, get_or, sym, ap, ◌∙◌, append_assoc, append-nil, drop_of_length-le}
use Rattle.std.proofs.lemmas.List.{at_drop_more}

pub regroup : (out line end rest : List ℕ) → out ++ line ++ end ++ rest ≡ out ++ (line ++ end ++ rest)
regroup out line end rest =
    ap (λ (l : List ℕ). l ++ rest) (append_assoc out line end) ∙ append_assoc out (line ++ end) rest

-- one item more was put, of a text that has its line, an end and the rest
pub one_put : {X : Type 0} (F : List X → List ℕ) (f : X → List ℕ) (end : List ℕ) (xs : List X) (i : ℕ) (d : X)
    (start out out' : List ℕ)
    → ((x : X) (ys : List X) → F (x ∷ ys) ≡ f x ++ end ++ F ys) → i < length xs → out ++ F (drop i xs) ≡ start ++ F xs
    → out' ≡ out ++ f (get_or xs i d) ++ end
    → out' ++ F (drop (i + 1) xs) ≡ start ++ F xs
one_put F f end xs i d start out out' cons less before is =
    ap (λ (l : List ℕ). l ++ F (drop (i + 1) xs)) is
    ∙ regroup out (f (get_or xs i d)) end (F (drop (i + 1) xs))
    ∙ ap (λ (l : List ℕ). out ++ l) (sym (at_drop_more F xs i d less ∙ cons (get_or xs i d) (drop (i + 1) xs)))
    ∙ before

-- all were put
pub all_put : {X : Type 0} (F : List X → List ℕ) (xs : List X) (i : ℕ) (start out : List ℕ) → F [] ≡ [] → length xs ≤ i
    → out ++ F (drop i xs) ≡ start ++ F xs → out ≡ start ++ F xs
all_put F xs i start out none over before =
    sym (append-nil out) ∙ ap (λ (l : List ℕ). out ++ l) (sym (ap F (drop_of_length-le xs over) ∙ none)) ∙ before

-- one item more was put, of a text that is its own and the rest
pub one_added : {X : Type 0} (F : List X → List ℕ) (f : X → List ℕ) (xs : List X) (i : ℕ) (d : X)
    (start out out' : List ℕ)
    → ((x : X) (ys : List X) → F (x ∷ ys) ≡ f x ++ F ys) → i < length xs → out ++ F (drop i xs) ≡ start ++ F xs
    → out' ≡ out ++ f (get_or xs i d)
    → out' ++ F (drop (i + 1) xs) ≡ start ++ F xs
one_added F f xs i d start out out' cons less before is =
    ap (λ (l : List ℕ). l ++ F (drop (i + 1) xs)) is
    ∙ append_assoc out (f (get_or xs i d)) (F (drop (i + 1) xs))
    ∙ ap (λ (l : List ℕ). out ++ l) (sym (at_drop_more F xs i d less ∙ cons (get_or xs i d) (drop (i + 1) xs)))
    ∙ before
