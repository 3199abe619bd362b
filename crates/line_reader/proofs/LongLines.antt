-- The prefix of a text that is a line, and lines that are too long whatever follows.
use Rattle.std.proofs.Common.{◌≡◌, ℕ, ◌≤◌, Bool, true, false, cond, List, [], ◌∷◌, ◌++◌, length, ap, ◌∙◌, arith}
use Rattle.std.specs.Prelude.{nat_lt, Some}
use Rattle.std.specs.List.{onto_first}
use Rattle.std.proofs.lemmas.Bool.Decides.{nat_tests}
use Rattle.line_reader.specs.declared.incoming.Incoming.{Incoming}
use Rattle.line_reader.specs.declared.incoming.Incoming.TheVariants.{TooLong}
use Rattle.fics_words.specs.Pieces.{pieces, IsUnbroken}
use Rattle.line_reader.specs.Reading.{is_stamped, stamped_reading, plain_reading, incoming_of, rest_reading}
pub use Rattle.fics_words.proofs.Pieces.{Begins, Begins-pieces}

-- an unbroken line in front belongs to the first piece
pub pieces_front : (line text : List ℕ) (first : List ℕ) (others : List (List ℕ)) → IsUnbroken line
    → pieces text ≡ first ∷ others → pieces (line ++ text) ≡ (line ++ first) ∷ others
pieces_front [] text first others all e = e
pieces_front (b ∷ line) text first others all e =
    ap (λ (t : Bool). cond t ([] ∷ pieces (line ++ text)) (onto_first b (pieces (line ++ text)))) all.0
    ∙ ap (onto_first b) (pieces_front line text first others all.1 e)

-- a long line is too long
pub too_long : (line : List ℕ) → 1034 ≤ length line → incoming_of line ≡ TooLong
too_long line long =
    let plain : nat_lt 1023 (length line) ≡ true = grind (arith, nat_tests) in
    let stamped : nat_lt 1033 (length line) ≡ true = grind (arith, nat_tests) in
    elim (is_stamped line) as (λ t. cond t (stamped_reading line) (plain_reading line) ≡ TooLong) [
      | true ↦
          ap (λ (t : Bool).
          cond t TooLong (Rattle.line_reader.specs.Reading.said (Rattle.stamp_codec.specs.Opening.opened line)))
          stamped
      | false ↦
          ap (λ (t : Bool).
          cond t TooLong
          (cond (Rattle.std.specs.List.list_all Rattle.stamp_codec.specs.Message.is_printable line)
          (Rattle.line_reader.specs.declared.incoming.Incoming.TheVariants.Plain line)
          (Rattle.line_reader.specs.declared.incoming.Incoming.TheVariants.BadByte)))
          plain
    ]

pub rest_too_long : (line : List ℕ) → 1034 ≤ length line → rest_reading line ≡ Some TooLong
rest_too_long [] long = absurd (omega arith)
rest_too_long (b ∷ line) long = ap Some (too_long (b ∷ line) long)
