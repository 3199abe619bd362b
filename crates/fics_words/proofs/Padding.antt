-- Handles in their field of 17 bytes, and what lower case does to them.
use Rattle.std.proofs.Common.{◌≡◌, ℕ, ◌+◌, ◌-◌, List, [], ◌∷◌, ◌++◌, length, take, map, replicate, zero, suc, refl, sym, ap, subst, ◌∙◌, inl, inr, arith}
use Rattle.std.specs.Char.{IsAsciiAlphabetic, to_ascii_lowercase}
use Rattle.std.proofs.Math.Seq.{take-append_seam}
use Rattle.std.proofs.lemmas.List.{map-append, length-map}
use Rattle.std.proofs.lemmas.List.Elements.{All-map}
use Rattle.std.proofs.lemmas.Simd.{map-map}
use Rattle.std.proofs.lemmas.Str.Ascii.{lowercase_is, lowercase-lowercase}
use Rattle.fics_words.specs.Handle.{IsHandle, key_of, padded, HoldsHandle}

pub take-padded : (letters : List ℕ) → take (length letters) (padded letters) ≡ letters
take-padded letters = take-append_seam letters (replicate (17 - length letters) 0)

-- the letters of a handle, padded, hold the handle
pub HoldsHandle-padded : (letters : List ℕ) → IsHandle letters → HoldsHandle (padded letters) (length letters)
HoldsHandle-padded letters h =
    subst (λ (l : List ℕ). IsHandle l × (padded letters ≡ padded l) × (length letters ≡ length l))
    (sym (take-padded letters)) (h, refl, refl)

-- a letter in lower case is a letter
pub lowercase_letter : (c : ℕ) → IsAsciiAlphabetic c → IsAsciiAlphabetic (to_ascii_lowercase c)
lowercase_letter c (inl upper) =
    let e : to_ascii_lowercase c ≡ c + 32 = (lowercase_is c).0 upper in
    inr (omega (arith, e), omega (arith, e))
lowercase_letter c (inr lower) =
    let e : to_ascii_lowercase c ≡ c = (lowercase_is c).2 (omega arith) in
    inr (omega (arith, e), omega (arith, e))

-- the key of a handle is a handle
pub IsHandle-key_of : (letters : List ℕ) → IsHandle letters → IsHandle (key_of letters)
IsHandle-key_of letters h =
    let same : length (key_of letters) ≡ length letters = length-map letters to_ascii_lowercase in (
      omega (arith, same),
      omega (arith, same),
      All-map IsAsciiAlphabetic to_ascii_lowercase letters (λ k d small. lowercase_letter _ (h.2 k d small)),
    )

pub map_same : (f g : ℕ → ℕ) → ((c : ℕ) → f c ≡ g c) → (xs : List ℕ) → map f xs ≡ map g xs
map_same f g h [] = refl
map_same f g h (x ∷ xs) = ap (λ y. y ∷ map f xs) (h x) ∙ ap (λ ys. g x ∷ ys) (map_same f g h xs)

pub key_of-key_of : (letters : List ℕ) → key_of (key_of letters) ≡ key_of letters
key_of-key_of letters =
    map-map to_ascii_lowercase to_ascii_lowercase letters
    ∙ map_same (λ c. to_ascii_lowercase (to_ascii_lowercase c)) to_ascii_lowercase lowercase-lowercase letters

lowercase-zeros : (n : ℕ) → map to_ascii_lowercase (replicate n 0) ≡ replicate n 0
lowercase-zeros zero = refl
lowercase-zeros (suc n) = ap (λ zs. 0 ∷ zs) (lowercase-zeros n)

pub lowercase-padded : (letters : List ℕ) → map to_ascii_lowercase (padded letters) ≡ padded (key_of letters)
lowercase-padded letters =
    map-append to_ascii_lowercase letters (replicate (17 - length letters) 0)
    ∙ ap (λ zs. key_of letters ++ zs)
    (lowercase-zeros (17 - length letters)
    ∙ ap (λ n. replicate (17 - n) 0) (sym (length-map letters to_ascii_lowercase)))

-- a field in lower case holds the key of the handle that it held
pub HoldsHandle-lowercase : (field : List ℕ) (len : ℕ) → HoldsHandle field len
    → HoldsHandle (map to_ascii_lowercase field) len
    × (take len (map to_ascii_lowercase field) ≡ key_of (take len field))
HoldsHandle-lowercase field len h =
    let letters = take len field in
    let lower : map to_ascii_lowercase field ≡ padded (key_of letters) =
    ap (map to_ascii_lowercase) h.1 ∙ lowercase-padded letters in
    let long : length (key_of letters) ≡ len = length-map letters to_ascii_lowercase ∙ sym h.2 in
    let held : HoldsHandle (padded (key_of letters)) (length (key_of letters)) =
    HoldsHandle-padded (key_of letters) (IsHandle-key_of letters h.0) in
    let there : HoldsHandle (padded (key_of letters)) len =
    subst (λ (n : ℕ). HoldsHandle (padded (key_of letters)) n) long held in
    let front : take len (padded (key_of letters)) ≡ key_of letters =
    subst (λ (n : ℕ). take n (padded (key_of letters)) ≡ key_of letters) long (take-padded (key_of letters)) in
    subst (λ (f : List ℕ). HoldsHandle f len × (take len f ≡ key_of letters)) (sym lower) (there, front)
