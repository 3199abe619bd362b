-- Printable bytes, as a test and as a fact.
use Rattle.std.proofs.Common.{◌≡◌, ℕ, List, refl, arith}
use Rattle.std.specs.Prelude.{All, nat_le}
use Rattle.std.specs.Bool.{Decides}
use Rattle.std.specs.List.{list_all}
use Rattle.std.proofs.lemmas.Bool.{and_parts, and_from}
use Rattle.std.proofs.lemmas.Bool.Decides.{nat_tests, Decides-by_and}
use Rattle.std.proofs.Common.{Bool, true, false, ◌<◌, ◌≤◌, cond, length, ap, ◌∙◌}
use Rattle.std.specs.Prelude.{nat_lt, Option, Some, None, SomeIff}
use Rattle.std.proofs.Common.{subst, sym}
use Rattle.fics_words.specs.Line.{IsPrintable, IsLine}
use Rattle.line_reader.specs.declared.incoming.Incoming.TheVariants.{Plain, TooLong, BadByte}
use Rattle.line_reader.specs.Reading.{plain_reading}
use Rattle.stamp_codec.specs.Message.{Text, is_message, is_printable, is_text}

Decides-printable : (byte : ℕ) → Decides (is_printable byte) (IsPrintable byte)
Decides-printable byte = (
  λ h.
      (let parts =
      and_parts (nat_le 0x20 byte) (nat_le byte 0x7E) h in let low = parts.0 in let high = parts.1 in
      (grind (arith, nat_tests), grind (arith, nat_tests))),
  λ h.
      and_from (nat_le 0x20 byte) (nat_le byte 0x7E) (let low = h.0 in grind (arith, nat_tests))
      (let high = h.1 in grind (arith, nat_tests)),
)

pub Decides-all_printable : (line : List ℕ) → Decides (list_all is_printable line) (All IsPrintable line)
Decides-all_printable line =
    Decides-by_and is_printable IsPrintable (list_all is_printable) Decides-printable refl (λ _ _. refl) line

-- a line that has at most 1,023 printable bytes is plain
pub plain_line : (line : List ℕ) → IsLine line → plain_reading line ≡ Plain line
plain_line line h =
    let few = h.0 in
    let short : nat_lt 1023 (length line) ≡ false = grind (arith, nat_tests) in
    ap (λ (t : Bool). cond t TooLong (cond (list_all is_printable line) (Plain line) BadByte)) short
    ∙ ap (λ (t : Bool). cond t (Plain line) BadByte) ((Decides-all_printable line).1 h.1)

pub plain_found : (found : Option (List ℕ)) (text line : List ℕ) → SomeIff found (IsLine line) line → found ≡ Some text
    → Plain text ≡ plain_reading line
plain_found found text line h e =
    let one : SomeIff (Some text) (IsLine line) line =
    subst (λ (o : Option (List ℕ)). SomeIff o (IsLine line) line) e h in
    ap Plain one.1 ∙ sym (plain_line line one.0)

-- and one of other bytes is a bad one
no_line : (printable : Bool) (P : Type 0) → (printable ≡ true → P) → (P → ⊥) → printable ≡ false
no_line false P h never = refl
no_line true P h never = absurd (never (h refl))

pub plain_missed : (found : Option (List ℕ)) (line : List ℕ) → length line ≤ 1023 → SomeIff found (IsLine line) line
    → found ≡ None → BadByte ≡ plain_reading line
plain_missed found line few h e =
    let short : nat_lt 1023 (length line) ≡ false = grind (arith, nat_tests) in
    let none : SomeIff None (IsLine line) line = subst (λ (o : Option (List ℕ)). SomeIff o (IsLine line) line) e h in
    sym (
    ap (λ (t : Bool). cond t TooLong (cond (list_all is_printable line) (Plain line) BadByte)) short
    ∙ ap (λ (t : Bool). cond t (Plain line) BadByte)
    (no_line (list_all is_printable line) (IsLine line) (λ all. (few, (Decides-all_printable line).0 all)) none)
    )

-- a longer line is too long, whatever its bytes
pub plain_long : (line : List ℕ) → 1023 < length line → TooLong ≡ plain_reading line
plain_long line many =
    let long : nat_lt 1023 (length line) ≡ true = grind (arith, nat_tests) in
    sym (ap (λ (t : Bool). cond t TooLong (cond (list_all is_printable line) (Plain line) BadByte)) long)

-- the text of a stamped line is a line
pub line_said : (text : List ℕ) (stamp : ℕ) → is_message (Text text stamp) ≡ true → IsLine text
line_said text stamp h =
    let said = and_parts (is_text text) _ h in
    let parts = and_parts (nat_le (length text) 1023) (list_all is_printable text) said.0 in
    let few = parts.0 in
    (grind (arith, nat_tests), (Decides-all_printable text).0 parts.1)

pub line_found : (found : Option (List ℕ)) (line text : List ℕ) → SomeIff found (IsLine text) text → found ≡ Some line
    → line ≡ text
line_found found line text h e = (subst (λ (o : Option (List ℕ)). SomeIff o (IsLine text) text) e h).1

-- so it isn't missed
pub line_not_missed : {A : Type 0} (found : Option (List ℕ)) (text : List ℕ) (stamp : ℕ)
    → is_message (Text text stamp) ≡ true → SomeIff found (IsLine text) text → found ≡ None → A
line_not_missed found text stamp said h e =
    absurd ((subst (λ (o : Option (List ℕ)). SomeIff o (IsLine text) text) e h) (line_said text stamp said))
