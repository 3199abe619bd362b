-- How a text comes apart at its first blank: in one way only.
use Rattle.std.proofs.Common.{◌≡◌, ◌≢◌, ℕ, suc, ◌+◌, ◌^◌, ◌<◌, ◌≤◌, false, List, [], ◌∷◌, ◌++◌, length, take, drop, get_or, not, None, Some, refl, sym, ap, ◌∙◌, subst, arith, inl, inr}
use Rattle.std.specs.Prelude.{decimal, position}
use Rattle.std.specs.List.{position_or_len}
use Rattle.std.specs.Char.{IsAsciiAlphabetic}
use Rattle.std.proofs.lemmas.Fmt.{decimal_injective}
use Rattle.std.proofs.lemmas.Bool.{eqb-true, eqb-false}
use Rattle.std.proofs.lemmas.List.{length-take, take-append-drop, drop_more, get_or-take}
use Rattle.std.proofs.lemmas.List.Elements.{recursion_from_All}
use Rattle.std.proofs.lemmas.List.Quantifiers.{position-Some}
use Rattle.std.proofs.lemmas.List.Sums.{fails_before_first, prefix_len-le-length}
use Rattle.std.proofs.lemmas.Grind.{common_steps}
use Rattle.fics_words.specs.Handle.{IsHandle}
use Rattle.fics_words.specs.Blank.{blank, is_blank}
use Rattle.replay_core.specs.Words.{IsWord}
use Rattle.fics_words.proofs.Each.{each-weaker}
use Rattle.fics_words.proofs.Digits.{IsDigit, digits_of_decimal}

-- a text with a blank is no word
pub blank_within : (front rest : List ℕ) → IsWord (front ++ blank ∷ rest) → ⊥
blank_within [] rest h = h.0 refl
blank_within (byte ∷ front) rest h = blank_within front rest h.1

pub no_cut : (word : List ℕ) → IsWord word → (front rest : List ℕ) → word ≢ front ++ blank ∷ rest
no_cut word h front rest e = blank_within front rest (subst IsWord e h)

-- the word before the first blank, and what follows it, are fixed by the text
pub one_cut : (a b x y : List ℕ) → IsWord a → IsWord b → a ++ blank ∷ x ≡ b ++ blank ∷ y → (a ≡ b) × (x ≡ y)
one_cut [] [] x y p q e = (refl, cc)
one_cut [] (d ∷ b) x y p q e = absurd (q.0 cc)
one_cut (c ∷ a) [] x y p q e = absurd (p.0 cc)
one_cut (c ∷ a) (d ∷ b) x y p q e =
    let head : c ≡ d = cc in
    let tail : a ++ blank ∷ x ≡ b ++ blank ∷ y = cc in
    let parts = one_cut a b x y p.1 q.1 tail in
    let front = parts.0 in
    (cc, parts.1)

-- the word before the first blank
word_of-fails : (bytes : List ℕ) → ((k : ℕ) → k < length bytes → is_blank (get_or bytes k 0) ≡ false) → IsWord bytes
word_of-fails [] h = tt
word_of-fails (byte ∷ bytes) h =
    (λ e. eqb-false byte blank (h 0 (omega arith)) e, word_of-fails bytes (λ k lt. h (suc k) (omega arith)))

pub word_of-none : (bytes : List ℕ) → position is_blank bytes ≡ None → IsWord bytes
word_of-none bytes e =
    let within = prefix_len-le-length (λ byte. not (is_blank byte)) bytes in
    let all : length bytes ≤ position_or_len is_blank bytes = grind (arith, common_steps) in
    word_of-fails bytes (λ k lt. fails_before_first is_blank bytes k 0 (omega arith))

pub cut_at_first : (bytes : List ℕ) (place : ℕ) → position is_blank bytes ≡ Some place
    → (bytes ≡ take place bytes ++ blank ∷ drop (place + 1) bytes) × IsWord (take place bytes)
cut_at_first bytes place e =
    let first = position-Some is_blank bytes place 0 e in
    let byte : get_or bytes place 0 ≡ blank = eqb-true (get_or bytes place 0) blank first.1 in
    let short = length-take place bytes in (
      sym (take-append-drop place bytes)
          ∙ ap (λ (l : List ℕ). take place bytes ++ l)
          (drop_more bytes place 0 first.0 ∙ ap (λ (b : ℕ). b ∷ drop (place + 1) bytes) byte),
      word_of-fails (take place bytes)
          (λ k lt. ap is_blank (get_or-take place bytes k 0 (omega arith)) ∙ first.2 k (omega arith)),
    )

-- ---- words that are read

pub decimal_is_word : (n : ℕ) → n < 2 ^ 64 → IsWord (decimal n)
decimal_is_word n small =
    each-weaker IsDigit (λ b. b ≢ blank) (λ b h e. omega arith) (decimal n) (digits_of_decimal n small)

letter_is_no_blank : (b : ℕ) → IsAsciiAlphabetic b → b ≢ blank
letter_is_no_blank b (inl h) e = omega arith
letter_is_no_blank b (inr h) e = omega arith

pub handle_is_word : (name : List ℕ) → IsHandle name → IsWord name
handle_is_word name h =
    each-weaker IsAsciiAlphabetic (λ b. b ≢ blank) letter_is_no_blank name
    (recursion_from_All IsAsciiAlphabetic name h.2)

-- a number at the front of a text, and what follows its blank, are fixed by the text
pub one_number : (m n : ℕ) (x y : List ℕ) → m < 2 ^ 64 → n < 2 ^ 64 → decimal m ++ blank ∷ x ≡ decimal n ++ blank ∷ y
    → (m ≡ n) × (x ≡ y)
one_number m n x y p q e =
    let parts = one_cut (decimal m) (decimal n) x y (decimal_is_word m p) (decimal_is_word n q) e in
    (decimal_injective m n p q parts.0, parts.1)
