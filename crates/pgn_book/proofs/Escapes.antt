-- Texts in quotes, byte by byte.
use Rattle.std.proofs.Common.{◌≡◌, ℕ, ◌+◌, ◌<◌, List, [], ◌∷◌, ◌++◌, length, take, get_or, refl, sym, ap, ◌∙◌, append_assoc, append-nil}
use Rattle.std.proofs.lemmas.List.{take_more}
use Rattle.pgn_book.specs.Lexing.{escaped, escaped_byte}

pub escaped-append : (xs ys : List ℕ) → escaped (xs ++ ys) ≡ escaped xs ++ escaped ys
escaped-append [] ys = refl
escaped-append (x ∷ xs) ys =
    ap (λ (t : List ℕ). escaped_byte x ++ t) (escaped-append xs ys)
    ∙ sym (append_assoc (escaped_byte x) (escaped xs) (escaped ys))

pub escaped_more : (xs : List ℕ) (i : ℕ) → i < length xs
    → escaped (take (i + 1) xs) ≡ escaped (take i xs) ++ escaped_byte (get_or xs i 0)
escaped_more xs i h =
    ap escaped (take_more xs i 0 h) ∙ escaped-append (take i xs) (get_or xs i 0 ∷ [])
    ∙ ap (λ (t : List ℕ). escaped (take i xs) ++ t) (append-nil (escaped_byte (get_or xs i 0)))
