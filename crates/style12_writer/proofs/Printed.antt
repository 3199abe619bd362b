-- The parts of the lines are printable.
use Rattle.std.proofs.Common.{ℕ, ℤ, List, [], ◌∷◌, ◌++◌, decimal, arith, rules, tests, ⊎_elim}
use Rattle.std.specs.Prelude.{All, IsTrue}
use Rattle.std.specs.Char.{IsAsciiAlphabetic}
use Rattle.std.specs.Fmt.{signed_decimal}
use Rattle.std.specs.List.{list_all}
use Rattle.std.proofs.lemmas.Bool.{and_parts, leb-true}
use Rattle.std.proofs.lemmas.List.Elements.{All-nil, All-cons}
use Rattle.std.proofs.lemmas.List.Folds.{list_all-append}
use Rattle.std.proofs.lemmas.List.Sums.{list_all-from_AllPass}
use Rattle.chess_model.specs.MoveText.{is_printable}
use Rattle.move_writer.specs.Blanks.{Shows}
use Rattle.fics_words.specs.Line.{IsPrintable}
use Rattle.style12_writer.proofs.Decimals.{All-decimal, All-signed_decimal}

pub printable_from_All : (text : List ℕ) → All IsPrintable text → IsTrue (list_all is_printable text)
printable_from_All text h =
    list_all-from_AllPass is_printable text (λ k d within. let shows = h k d within in search (rules, tests))

pub printable-decimal : (n : ℕ) → IsTrue (list_all is_printable (decimal n))
printable-decimal n =
    printable_from_All (decimal n) (λ k d within. let digit = All-decimal n k d within in (omega arith, omega arith))

pub printable-signed_decimal : (z : ℤ) → IsTrue (list_all is_printable (signed_decimal z))
printable-signed_decimal z =
    printable_from_All (signed_decimal z)
    (λ k d within. let digit = All-signed_decimal z k d within in (omega arith, omega arith))

pub printable-letters : (letters : List ℕ) → All IsAsciiAlphabetic letters → IsTrue (list_all is_printable letters)
printable-letters letters h =
    printable_from_All letters
    (λ k d within. ⊎_elim (λ upper. (omega arith, omega arith)) (λ lower. (omega arith, omega arith)) (h k d within))

-- a byte that shows
pub printable-shows : (byte : ℕ) → Shows byte → IsTrue (is_printable byte)
printable-shows byte h = search (rules, tests)

-- the text of one byte
pub printable-byte : (byte : ℕ) → IsTrue (is_printable byte) → IsTrue (list_all is_printable (byte ∷ []))
printable-byte byte h =
    printable_from_All (byte ∷ [])
    (All-cons IsPrintable byte [] (let parts = and_parts _ _ h in (leb-true 32 _ parts.0, leb-true _ 126 parts.1))
    (All-nil IsPrintable))

-- a text behind another
pub printable-append : (front text : List ℕ) → IsTrue (list_all is_printable front)
    → IsTrue (list_all is_printable text) → IsTrue (list_all is_printable (front ++ text))
printable-append front text h i = simp (list_all-append, h, i)
