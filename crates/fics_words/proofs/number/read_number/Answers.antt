use Rattle.std.proofs.Common.{◌≡◌, ◌<◌, ◌^◌, ℕ, List, true, false, not, decimal, sym, ap, subst, ◌∙◌, arith}
use Rattle.std.specs.Prelude.{IsUtf8, bytes_eq}
use Rattle.std.specs.Cmp.Lexicographic.{nat_list_eq_equiv}
use Rattle.std.proofs.lemmas.Fmt.{parse-decimal, IsAscii-decimal}
use Rattle.std.proofs.lemmas.Str.{IsUtf8-from_ascii}
use Rattle.fics_words.proofs.number.read_number.Goals as goal

-- the decimal of a number is text
pub returns-in_default-clause-none : goal.returns-in_default-clause-none
returns-in_default-clause-none c = λ n small e.
    let fits : n < 2 ^ 64 = omega (arith, c.ranges.most) in
    c.in_default.ensures.cases.0 (subst IsUtf8 (sym e) (IsUtf8-from_ascii _ (IsAscii-decimal n fits)))

-- the decimal of a number parses
pub returns-in_default-parse-clause-none : goal.returns-in_default-parse-clause-none
returns-in_default-parse-clause-none c = λ n small e.
    let fits : n < 2 ^ 64 = omega (arith, c.ranges.most) in
    c.in_default-parse.not-Ok n
    (parse-decimal 64 n c.in-Ok.text.now c.parse.result fits fits (c.in-Ok.ensures.cases.0 ∙ e) c.parse.ensures.value.0)

-- the number that was parsed is printed as the text
pub returns-then-ne-clause-none : goal.returns-then-ne-clause-none
returns-then-ne-clause-none c = λ n small e.
    let fits : n < 2 ^ 64 = omega (arith, c.ranges.most) in
    let is_text : c.in-Ok.text.now ≡ decimal n = c.in-Ok.ensures.cases.0 ∙ e in
    let read = parse-decimal 64 n c.in-Ok.text.now c.parse.result fits fits is_text c.parse.ensures.value.0 in
    let same : c.in-Ok-parse.number ≡ n = cc in
    let printed : c.format.result.now ≡ c.in-Ok.text.now = c.format.ensures.text ∙ ap decimal same ∙ sym is_text in
    let equal : bytes_eq c.format.result.now c.in-Ok.text.now ≡ true =
    subst (λ (t : List ℕ). bytes_eq c.format.result.now t ≡ true) printed
    (nat_list_eq_equiv.refl c.format.result.now) in
    let bad : true ≡ false = sym c.if-ne.true ∙ c.ne.ensures ∙ ap not equal in
    cc

-- two numbers with one decimal are one
pub returns-else-number-most-clause-none : goal.returns-else-number-most-clause-none
returns-else-number-most-clause-none c = λ n small e.
    let fits : n < 2 ^ 64 = omega (arith, c.ranges.most) in
    let read =
    parse-decimal 64 n c.in-Ok.text.now c.parse.result fits fits (c.in-Ok.ensures.cases.0 ∙ e)
    c.parse.ensures.value.0 in
    let same : c.in-Ok-parse.number ≡ n = cc in
    omega arith
