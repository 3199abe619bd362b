-- Bytes that are changed by their places, and the cipher of a byte.
use Rattle.std.proofs.Common.{◌≡◌, ℕ, zero, suc, ◌+◌, ◌%◌, ◌^◌, ◌<◌, List, [], ◌∷◌, get_or, refl, sym, ap, subst, ◌∙◌, arith}
use Rattle.std.specs.Prelude.{bit_or, bit_xor, nat_lt}
use Rattle.std.proofs.lemmas.Bool.Decides.{nat_tests}
use Rattle.std.specs.List.{AllByRecursion}
use lib.Bits.{xor_assoc, xor_self, xor_zero_r, xor_comm, xor_lt, or_comm, or_shifted, xor_shifted}
use Rattle.stamp_codec.specs.Spelling.{key, key_at, by_place, cipher}
use Rattle.stamp_codec.specs.Opening.{decipher}
use Rattle.fics_words.proofs.HandleTests.{each}

-- ---- one byte

-- xor twice gives the number back
undo : (a k : ℕ) → bit_xor (bit_xor a k) k ≡ a
undo a k = xor_assoc a k k ∙ ap (bit_xor a) (xor_self k) ∙ xor_zero_r a

-- the high bit of a small byte is set by xor too
high : (b : ℕ) → b < 128 → bit_or b 0x80 ≡ bit_xor b 0x80
high b small =
    let p : b < 2 ^ 7 = omega arith in
    or_comm b 0x80 ∙ or_shifted 1 7 b p ∙ sym (xor_shifted 1 7 b p) ∙ xor_comm 0x80 b

at_each : (P : ℕ → Type 0) (xs : List ℕ) → P 0 → AllByRecursion P xs → (n : ℕ) → P (get_or xs n 0)
at_each P [] none all n = none
at_each P (x ∷ xs) none all zero = all.0
at_each P (x ∷ xs) none all (suc n) = at_each P xs none all.1 n

key_small : (place : ℕ) → key_at place < 256
key_small place =
    at_each (λ b. b < 256) key (omega arith)
    (each (λ b. nat_lt b 256) (λ b. b < 256) (λ b h. grind (arith, nat_tests)) key refl) (place % 50)

-- a small byte is read back as it was
decipher-cipher : (place byte : ℕ) → byte < 128 → decipher place (cipher place byte) ≡ byte
decipher-cipher place byte small =
    let k = key_at place in
    let marked = bit_or byte 0x80 in
    let e : marked ≡ bit_xor byte 0x80 = high byte small in
    let p : bit_xor byte 0x80 < 2 ^ 8 = xor_lt 8 byte 0x80 (omega arith) (omega arith) in
    let q : marked < 2 ^ 8 = subst (λ (n : ℕ). n < 2 ^ 8) (sym e) p in
    let r : bit_xor marked k < 2 ^ 8 = xor_lt 8 marked k q (omega (arith, key_small place)) in
    let back : ((bit_xor marked k + 224) % 256 + 32) % 256 ≡ bit_xor marked k = omega arith in
    ap (λ (n : ℕ). bit_xor (bit_xor n k) 0x80) back
    ∙ ap (λ (n : ℕ). bit_xor n 0x80) (undo marked k ∙ e)
    ∙ undo byte 0x80

-- what is read as a small byte is spelled as it was
cipher-decipher : (place byte : ℕ) → byte < 256 → decipher place byte < 128 → cipher place (decipher place byte) ≡ byte
cipher-decipher place byte fits small =
    let k = key_at place in
    let moved = (byte + 32) % 256 in
    ap (λ (n : ℕ). (bit_xor n k + 224) % 256) (high (decipher place byte) small ∙ undo (bit_xor moved k) 0x80)
    ∙ ap (λ (n : ℕ). (n + 224) % 256) (undo moved k)
    ∙ omega arith

-- ---- all bytes

pub decipher-cipher_each : (place : ℕ) (bytes : List ℕ) → AllByRecursion (λ b. b < 128) bytes
    → by_place decipher place (by_place cipher place bytes) ≡ bytes
decipher-cipher_each place [] small = refl
decipher-cipher_each place (byte ∷ bytes) small =
    ap (λ (b : ℕ). b ∷ by_place decipher (place + 1) (by_place cipher (place + 1) bytes))
    (decipher-cipher place byte small.0)
    ∙ ap (λ (l : List ℕ). byte ∷ l) (decipher-cipher_each (place + 1) bytes small.1)

pub cipher-decipher_each : (place : ℕ) (bytes : List ℕ) → AllByRecursion (λ b. b < 256) bytes
    → AllByRecursion (λ b. b < 128) (by_place decipher place bytes)
    → by_place cipher place (by_place decipher place bytes) ≡ bytes
cipher-decipher_each place [] fits small = refl
cipher-decipher_each place (byte ∷ bytes) fits small =
    ap (λ (b : ℕ). b ∷ by_place cipher (place + 1) (by_place decipher (place + 1) bytes))
    (cipher-decipher place byte fits.0 small.0)
    ∙ ap (λ (l : List ℕ). byte ∷ l) (cipher-decipher_each (place + 1) bytes fits.1 small.1)
