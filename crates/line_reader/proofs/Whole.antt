-- The lines of a whole text are those of its grammar, and no others.
use Rattle.std.proofs.Common.{◌≡◌, ℕ, true, false, cond, List, [], ◌∷◌, ◌++◌, map, filter, refl, sym, ap, subst, ◌∙◌, append-nil}
use Rattle.std.specs.Prelude.{◌==◌, Option}
use Rattle.std.specs.List.{AllByRecursion, onto_first, join_with_byte}
use Rattle.std.proofs.lemmas.List.Splits.{join_with_byte-slice_split}
use Rattle.line_reader.specs.declared.incoming.Incoming.{Incoming}
use Rattle.line_reader.specs.declared.telnet.Telnet.TheVariants.{Data}
use Rattle.fics_words.specs.Pieces.{is_kept, pieces, but_last, last_of, IsUnbroken}
use Rattle.line_reader.specs.Telnet.{data_from}
use Rattle.line_reader.specs.Reading.{incoming_of, rest_reading}
use Rattle.line_reader.specs.Reader.{fresh, lines_to_come, rest_to_come}
use Rattle.line_reader.specs.Grammar.{AreLines}
use Rattle.line_reader.proofs.LongLines.{pieces_front}
use Rattle.line_reader.proofs.Units.{units_data, units_of}
use Rattle.fics_words.proofs.Pieces.{Begins, Begins-pieces, but_last-last_of}

-- parts without line feeds are the pieces of their join
parts_only : (whole : List (List ℕ)) (left : List ℕ) → AllByRecursion IsUnbroken (whole ++ left ∷ [])
    → pieces (join_with_byte 10 (whole ++ left ∷ [])) ≡ whole ++ left ∷ []
parts_only [] left all =
    ap pieces (sym (append-nil left)) ∙ pieces_front left [] [] [] all.0 refl
    ∙ ap (λ (l : List ℕ). l ∷ []) (append-nil left)
parts_only (x ∷ []) left all =
    pieces_front x (10 ∷ left) [] (pieces left) all.0 refl
    ∙ ap (λ (l : List ℕ). l ∷ pieces left) (append-nil x)
    ∙ ap (λ (l : List (List ℕ)). x ∷ l) (parts_only [] left all.1)
parts_only (x ∷ y ∷ ys) left all =
    let rest = join_with_byte 10 (y ∷ ys ++ left ∷ []) in
    pieces_front x (10 ∷ rest) [] (pieces rest) all.0 refl
    ∙ ap (λ (l : List ℕ). l ∷ pieces rest) (append-nil x)
    ∙ ap (λ (l : List (List ℕ)). x ∷ l) (parts_only (y ∷ ys) left all.1)

but_last-end : (whole : List (List ℕ)) (left : List ℕ) → but_last (whole ++ left ∷ []) ≡ whole
but_last-end [] left = refl
but_last-end (x ∷ []) left = refl
but_last-end (x ∷ y ∷ ys) left = ap (λ (l : List (List ℕ)). x ∷ l) (but_last-end (y ∷ ys) left)

last_of-end : (whole : List (List ℕ)) (left : List ℕ) → last_of (whole ++ left ∷ []) ≡ left
last_of-end [] left = refl
last_of-end (x ∷ []) left = refl
last_of-end (x ∷ y ∷ ys) left = last_of-end (y ∷ ys) left

pub only_lines : (text : List ℕ) (lines : List Incoming) (rest : Option Incoming) → AreLines text lines rest
    → (lines ≡ lines_to_come fresh text) × (rest ≡ rest_to_come fresh text)
only_lines text lines rest h =
    let same : pieces (filter is_kept (data_from Data text)) ≡ h.whole ++ h.left ∷ [] =
    ap (λ (l : List ℕ). pieces (filter is_kept l)) (units_data text h.units h.begun h.parsed) ∙ ap pieces (sym h.joined)
    ∙ parts_only h.whole h.left h.unbroken in (
      h.lines_are ∙ ap (map incoming_of) (sym (but_last-end h.whole h.left))
          ∙ sym (ap (λ (l : List (List ℕ)). map incoming_of (but_last l)) same),
      h.rest_is ∙ ap rest_reading (sym (last_of-end h.whole h.left))
          ∙ sym (ap (λ (l : List (List ℕ)). rest_reading (last_of l)) same),
    )

onto_unbroken : (b : ℕ) (parts : List (List ℕ)) → (b == 10) ≡ false → Begins parts → AllByRecursion IsUnbroken parts
    → AllByRecursion IsUnbroken (onto_first b parts)
onto_unbroken b [] e h all = absurd (let bad = h.is in cc)
onto_unbroken b (x ∷ xs) e h all = ((e, all.0), all.1)

unbroken_pieces : (text : List ℕ) → AllByRecursion IsUnbroken (pieces text)
unbroken_pieces [] = (tt, tt)
unbroken_pieces (b ∷ text) =
    elim (b == 10)
    as (λ t. (b == 10) ≡ t → AllByRecursion IsUnbroken (cond t ([] ∷ pieces text) (onto_first b (pieces text)))) [
      | true ↦ λ e. (tt, unbroken_pieces text)
      | false ↦ λ e. onto_unbroken b (pieces text) e (Begins-pieces text) (unbroken_pieces text)
    ] refl

pub are_lines : (text : List ℕ) → AreLines text (lines_to_come fresh text) (rest_to_come fresh text)
are_lines text =
    let found = units_of text in
    let kept = filter is_kept (data_from Data text) in
    let parts = but_last-last_of (pieces kept) (Begins-pieces kept) in
    record {
      units = found.units;
      begun = found.begun;
      whole = but_last (pieces kept);
      left = last_of (pieces kept);
      parsed = found.are;
      joined =
          ap (join_with_byte 10) parts ∙ join_with_byte-slice_split 10 kept
          ∙ ap (filter is_kept) (units_data text found.units found.begun found.are);
      unbroken = subst (λ (l : List (List ℕ)). AllByRecursion IsUnbroken l) (sym parts) (unbroken_pieces kept);
      lines_are = refl;
      rest_is = refl;
    }
