-- What stands at a place: an item that is written back, and the last one.
use Rattle.std.proofs.Common.{◌≡◌, ℕ, List, [], ◌∷◌, ◌++◌, Some, get_or, length, set, slice_get, refl, ap, ◌∙◌}
use Rattle.std.proofs.lemmas.List.{set-get_or}

pub set_back : {X : Type 0} (xs : List X) (i : ℕ) (x : X) → x ≡ get_or xs i x → set xs i x ≡ xs
set_back xs i x read = ap (λ y. set xs i y) read ∙ set-get_or xs i x

pub slice_get-append_end : {X : Type 0} (xs : List X) (x : X) → slice_get (xs ++ x ∷ []) (length xs) ≡ Some x
slice_get-append_end [] x = refl
slice_get-append_end (y ∷ ys) x = slice_get-append_end ys x
