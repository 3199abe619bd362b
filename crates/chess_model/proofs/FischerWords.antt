-- The words of Fischer random: the digits of a number below 960, and that they are text.
use Rattle.std.proofs.Common.{arith, ◌≡◌, ℕ, ◌+◌, ◌-◌, ◌/◌, ◌%◌, ◌<◌, ◌≤◌, true, List, [], ◌∷◌, ◌++◌, length, take, drop, decimal, refl, sym, ap, subst, ◌∙◌}
use Rattle.std.proofs.lemmas.Bool.{le-leb}
use Rattle.std.proofs.Math.Seq.{take-length}
use Rattle.std.proofs.lemmas.Fmt.{decimal_digit, decimal_step}
use Rattle.std.specs.Prelude.{Option, Some, IfSome}
use Rattle.chess_model.specs.MoveText.{IsMoveText, is_printable}

-- `fischer ` and the bytes behind it
abbrev pub words_with : List ℕ → List ℕ
words_with digits = 102 ∷ 105 ∷ 115 ∷ 99 ∷ 104 ∷ 101 ∷ 114 ∷ 32 ∷ digits

pub one_digit : (n units : ℕ) → n < 10 → units ≡ 48 + n % 10 → units ∷ [] ≡ decimal n
one_digit n units less u = ap (λ (d : ℕ). d ∷ []) (omega (arith, u)) ∙ sym (decimal_digit n less)

pub two_digits : (n tens units : ℕ) → 10 ≤ n → n < 100 → tens ≡ 48 + n / 10 % 10 → units ≡ 48 + n % 10
    → tens ∷ units ∷ [] ≡ decimal n
two_digits n tens units some less t u =
    let first : tens ∷ [] ≡ decimal (n / 10) = one_digit (n / 10) tens (omega arith) t in
    ap (λ (ds : List ℕ). ds ++ units ∷ []) first ∙ ap (λ (d : ℕ). decimal (n / 10) ++ d ∷ []) u
    ∙ sym (decimal_step n some (omega arith))

pub three_digits : (n hundreds tens units : ℕ) → 100 ≤ n → n < 960 → hundreds ≡ 48 + n / 100 → tens ≡ 48 + n / 10 % 10
    → units ≡ 48 + n % 10 →
    hundreds ∷ tens ∷ units ∷ [] ≡ decimal n
three_digits n hundreds tens units some less h t u =
    let first : hundreds ∷ tens ∷ [] ≡ decimal (n / 10) =
    two_digits (n / 10) hundreds tens (omega arith) (omega arith) (omega (arith, h)) t in
    ap (λ (ds : List ℕ). ds ++ units ∷ []) first ∙ ap (λ (d : ℕ). decimal (n / 10) ++ d ∷ []) u
    ∙ sym (decimal_step n (omega arith) (omega arith))

-- bytes of digits are printable
printable : (digit : ℕ) → 48 ≤ digit → digit < 58 → is_printable digit ≡ true
printable digit low high = rw (le-leb 32 digit (omega arith), le-leb digit 126 (omega arith)) refl

pub one_text : (a : ℕ) → 48 ≤ a → a < 58 → IsMoveText (102 ∷ 105 ∷ 115 ∷ 99 ∷ 104 ∷ 101 ∷ 114 ∷ 32 ∷ a ∷ [])
one_text a la ha = record { some = omega arith; most = omega arith; printable = rw (printable a la ha) refl }

pub two_text : (a b : ℕ) → 48 ≤ a → a < 58 → 48 ≤ b → b < 58
    → IsMoveText (102 ∷ 105 ∷ 115 ∷ 99 ∷ 104 ∷ 101 ∷ 114 ∷ 32 ∷ a ∷ b ∷ [])
two_text a b la ha lb hb =
    record { some = omega arith; most = omega arith; printable = rw (printable a la ha, printable b lb hb) refl }

pub three_text : (a b c : ℕ) → 48 ≤ a → a < 58 → 48 ≤ b → b < 58 → 48 ≤ c → c < 58 →
    IsMoveText (102 ∷ 105 ∷ 115 ∷ 99 ∷ 104 ∷ 101 ∷ 114 ∷ 32 ∷ a ∷ b ∷ c ∷ [])
three_text a b c la ha lb hb lc hc = record {
  some = omega arith;
  most = omega arith;
  printable = rw (printable a la ha, printable b lb hb, printable c lc hc) refl;
}

pub value_of : (read : Option (List ℕ)) (text bytes : List ℕ) → read ≡ Some text → IfSome read (λ t. t ≡ bytes)
    → text ≡ bytes
value_of read text bytes e value = let C : Option (List ℕ) → Type 0 = λ o. IfSome o (λ t. t ≡ bytes) in subst C e value

-- what stands behind `fischer `
pub behind : (word digits : List ℕ) → word ≡ words_with digits → take (length word - 8) (drop 8 word) ≡ digits
behind word digits e =
    ap (λ (w : List ℕ). take (length w - 8) (drop 8 w)) e
    ∙ ap (λ (n : ℕ). take n digits) (omega arith) ∙ take-length digits
