use Rattle.std.proofs.Common.{arith, ◌≡◌, ℕ, List, true, false, decimal, sym, ap, subst, ◌∙◌}
use Rattle.std.specs.Prelude.{IsUtf8, bytes_eq}
use Rattle.std.specs.Cmp.Lexicographic.{nat_list_eq_equiv}
use Rattle.std.proofs.lemmas.Fmt.{parse-decimal, IsAscii-decimal}
use Rattle.std.proofs.lemmas.Str.{IsUtf8-from_ascii}
use Rattle.chess_model.proofs.FischerWords.{words_with, behind}
use Rattle.chess_model.proofs.variant_words.read_fischer.Goals as goal

-- the decimal of a number is text
pub returns-in_default-from_utf8-clause-none : goal.returns-in_default-from_utf8-clause-none
returns-in_default-from_utf8-clause-none c = λ n less e.
    c.in_default-from_utf8.ensures.cases.0
    (subst IsUtf8 (sym (behind c.args.word.now (decimal n) e))
    (IsUtf8-from_ascii _ (IsAscii-decimal n (omega (arith, less)))))

-- the decimal of a number parses
pub returns-in_default-parse-clause-none : goal.returns-in_default-parse-clause-none
returns-in_default-parse-clause-none c = λ n less e.
    c.in_default-parse.not-Ok n
    (parse-decimal 16 n c.in-Ok.text.now c.parse.result (omega (arith, less)) (omega (arith, less))
    (c.in-Ok.ensures.cases.0 ∙ behind c.args.word.now (decimal n) e) c.parse.ensures.value.0)

-- the number that was read is that of the decimal
pub returns-then-number-ge-ARRAYS-clause-none : goal.returns-then-number-ge-ARRAYS-clause-none
returns-then-number-ge-ARRAYS-clause-none c = λ n less e.
    let read = parse-decimal 16 n c.in-Ok.text.now c.parse.result (omega (arith, less)) (omega (arith, less))
    (c.in-Ok.ensures.cases.0 ∙ behind c.args.word.now (decimal n) e) c.parse.ensures.value.0 in
    let same : c.in-Ok-parse.number ≡ n = cc in
    omega (arith, same, less, c.if-number-ge-ARRAYS.true)

-- and its words are these
pub returns-else-eq-clause-none : goal.returns-else-eq-clause-none
returns-else-eq-clause-none c = λ n less e.
    let read = parse-decimal 16 n c.in-Ok.text.now c.parse.result (omega (arith, less)) (omega (arith, less))
    (c.in-Ok.ensures.cases.0 ∙ behind c.args.word.now (decimal n) e) c.parse.ensures.value.0 in
    let same : c.in-Ok-parse.number ≡ n = cc in
    let printed : c.bytes.result.now ≡ c.args.word.now =
    c.bytes.ensures.value ∙ c.fischer_words.ensures ∙ ap (λ (m : ℕ). words_with (decimal m)) same ∙ sym e in
    let equal : bytes_eq c.bytes.result.now c.args.word.now ≡ true =
    subst (λ (t : List ℕ). bytes_eq c.bytes.result.now t ≡ true) printed (nat_list_eq_equiv.refl c.bytes.result.now) in
    let bad : true ≡ false = sym equal ∙ sym c.eq.ensures ∙ c.if-eq.false in
    cc
