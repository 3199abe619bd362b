-- The fields of a board line: none is empty, and none has a blank.
use Rattle.std.proofs.Common.{◌≡◌, ℕ, ℤ, pos, ◌+◌, ◌/◌, ◌%◌, ◌<◌, ◌≤◌, Bool, true, false, List, [], ◌∷◌, ◌++◌, length, get_or, decimal, refl, ap, ◌∙◌, arith, ⊎_elim}
use Rattle.std.specs.Prelude.{All, ◌≢◌, ◌==◌, Option, Some, None, codes, slice_index_or}
use Rattle.std.specs.Char.{IsAsciiAlphabetic}
use Rattle.std.specs.Fmt.{signed_decimal}
use Rattle.std.specs.List.{join_with_byte}
use Rattle.std.proofs.lemmas.Bool.{ne_eqb}
use Rattle.std.proofs.lemmas.List.Elements.{All-nil, All-cons, All-head, All-tail, All-append, All-map, All-from_recursion}
use Rattle.std.proofs.lemmas.List.Splits.{slice_split_none, slice_split_at}
use Rattle.chess_model.specs.declared.man.Colour.{Colour}
use Rattle.chess_model.specs.declared.man.Colour.TheVariants.{White, Black}
use Rattle.chess_model.specs.declared.man.Kind.{Kind}
use Rattle.chess_model.specs.declared.man.Kind.TheVariants.{Pawn, Knight, Bishop, Rook, Queen, King}
use Rattle.chess_model.specs.declared.man.Man.{Man}
use Rattle.chess_model.specs.declared.face.Face.{Face}
use Rattle.chess_model.specs.Material.{material_of}
use Rattle.chess_model.specs.Placement.{man_at}
use Rattle.chess_model.specs.Squares.{square_at}
use Rattle.fics_words.specs.Handle.{IsHandle}
use Rattle.move_writer.specs.Blanks.{HasNoBlank}
use Rattle.style12_writer.specs.Board.{man_letter, square_letter, rank_text, ranks, castle_flags, colour_to_move, double_push, flag_text}
use Rattle.style12_writer.specs.Clocks.{whole_seconds_of, two_digits_of, time_taken}
use Rattle.style12_writer.specs.Line12.{cut_at_blanks, position_fields, game_fields, strength_fields, move_fields, fields_of, line12_text}
use Rattle.style12_writer.specs.declared.view.BoardView.{BoardView}
use Rattle.style12_writer.specs.declared.view.Viewer.{Viewer}
use Rattle.style12_writer.proofs.Decimals.{All-decimal, decimal_some, All-signed_decimal, signed_decimal_some}

-- a text that is one field of a line
pub record IsField (text : List ℕ) : Type 0 where
  pub some : 0 < length text
  pub unbroken : HasNoBlank text

-- a text without a blank is cut nowhere
AllPass-from_unbroken : (text : List ℕ) → HasNoBlank text → All (λ byte. (byte == 32) ≡ false) text
AllPass-from_unbroken text h k d within = ne_eqb _ 32 (h k d within)

-- fields that are joined by blanks are what the line is cut into
pub cut-join : (fields : List (List ℕ)) → 0 < length fields → All IsField fields
    → cut_at_blanks (join_with_byte 32 fields) ≡ fields
cut-join [] some h = absurd (omega arith)
cut-join (field ∷ []) some h =
    slice_split_none (λ byte. byte == 32) field (AllPass-from_unbroken field (All-head IsField field [] h).unbroken)
cut-join (field ∷ next ∷ rest) some h =
    slice_split_at (λ byte. byte == 32) field 32 (join_with_byte 32 (next ∷ rest))
    (AllPass-from_unbroken field (All-head IsField field (next ∷ rest) h).unbroken) refl
    ∙ ap (λ fields. field ∷ fields) (cut-join (next ∷ rest) (omega arith) (All-tail IsField field (next ∷ rest) h))

pub IsField-decimal : (n : ℕ) → IsField (decimal n)
IsField-decimal n = record {
  some = decimal_some n;
  unbroken = λ k d within. let digit = All-decimal n k d within in λ blank. omega arith;
}

pub IsField-signed_decimal : (z : ℤ) → IsField (signed_decimal z)
IsField-signed_decimal z = record {
  some = signed_decimal_some z;
  unbroken = λ k d within. let digit = All-signed_decimal z k d within in λ blank. omega arith;
}

pub IsField-name : (letters : List ℕ) → 3 ≤ length letters → All IsAsciiAlphabetic letters → IsField letters
IsField-name letters long h = record {
  some = omega arith;
  unbroken = λ k d within blank. ⊎_elim (λ upper. omega arith) (λ lower. omega arith) (h k d within);
}

man_letter_high : (c : Colour) (k : Kind) → 45 < man_letter c k
man_letter_high White Pawn = omega arith
man_letter_high White Knight = omega arith
man_letter_high White Bishop = omega arith
man_letter_high White Rook = omega arith
man_letter_high White Queen = omega arith
man_letter_high White King = omega arith
man_letter_high Black Pawn = omega arith
man_letter_high Black Knight = omega arith
man_letter_high Black Bishop = omega arith
man_letter_high Black Rook = omega arith
man_letter_high Black Queen = omega arith
man_letter_high Black King = omega arith

square_letter_high : (square : Option Man) → 45 ≤ square_letter square
square_letter_high None = omega arith
square_letter_high (Some man) = let high = man_letter_high man.colour man.kind in omega arith

IsField-rank : (men : List (Option Man)) (rank : ℕ) → IsField (rank_text men rank)
unfolding rank_text
IsField-rank men rank = record {
  some = omega arith;
  unbroken =
      All-map (λ byte. byte ≢ 32) (λ file. square_letter (man_at men (square_at file rank)))
      (0 ∷ 1 ∷ 2 ∷ 3 ∷ 4 ∷ 5 ∷ 6 ∷ 7 ∷ [])
      (λ k d inside blank.
      let high = square_letter_high (man_at men (square_at (get_or (0 ∷ 1 ∷ 2 ∷ 3 ∷ 4 ∷ 5 ∷ 6 ∷ 7 ∷ []) k d) rank)) in
      omega arith);
}

one_unbroken : (byte : ℕ) → byte ≢ 32 → HasNoBlank (byte ∷ [])
one_unbroken byte h = All-cons (λ byte. byte ≢ 32) byte [] h (All-nil (λ byte. byte ≢ 32))

pub IsField-colour : (c : Colour) → IsField (colour_to_move c)
IsField-colour White = record { some = omega arith; unbroken = one_unbroken 87 (λ e. omega arith) }
IsField-colour Black = record { some = omega arith; unbroken = one_unbroken 66 (λ e. omega arith) }

pub IsField-push : (push : Option ℕ) → IsField (double_push push)
IsField-push None =
    record {
      some = omega arith;
      unbroken = All-cons (λ byte. byte ≢ 32) 45 (49 ∷ []) (λ e. omega arith) (one_unbroken 49 (λ e. omega arith));
    }
IsField-push (Some file) = IsField-decimal file

pub IsField-flag : (b : Bool) → IsField (flag_text b)
IsField-flag false = record { some = omega arith; unbroken = one_unbroken 48 (λ e. omega arith) }
IsField-flag true = record { some = omega arith; unbroken = one_unbroken 49 (λ e. omega arith) }

pub IsField-time_taken : (millis : ℕ) → IsField (time_taken millis)
IsField-time_taken millis =
    let IsNoBlank : ℕ → Type 0 = λ byte. byte ≢ 32 in
    let seconds = millis / 1000 in
    record {
      some = omega arith;
      unbroken =
          All-append IsNoBlank (codes "(" ++ decimal (seconds / 60) ++ codes ":" ++ two_digits_of (seconds % 60))
          (codes ")")
          (All-append IsNoBlank (codes "(" ++ decimal (seconds / 60) ++ codes ":") (two_digits_of (seconds % 60))
          (All-append IsNoBlank (codes "(" ++ decimal (seconds / 60)) (codes ":")
          (All-cons IsNoBlank 40 (decimal (seconds / 60)) (λ e. omega arith) (IsField-decimal (seconds / 60)).unbroken)
          (one_unbroken 58 (λ e. omega arith)))
          (All-cons IsNoBlank (48 + seconds % 60 / 10) ((48 + seconds % 60 % 10) ∷ []) (λ e. omega arith)
          (one_unbroken (48 + seconds % 60 % 10) (λ e. omega arith))))
          (one_unbroken 41 (λ e. omega arith));
    }

-- the names are handles, and the two texts of the previous move have no blank
pub record HasUnbrokenParts (v : BoardView) : Type 0 where
  pub white : IsHandle v.white
  pub black : IsHandle v.black
  pub verbose : IsField v.face.verbose
  pub pretty : IsField v.face.pretty

IsField-ranks : (men : List (Option Man)) → All IsField (ranks men)
unfolding ranks
IsField-ranks men =
    All-map IsField (rank_text men) (7 ∷ 6 ∷ 5 ∷ 4 ∷ 3 ∷ 2 ∷ 1 ∷ 0 ∷ []) (λ k d within. IsField-rank men _)

IsField-position : (face : Face) → All IsField (position_fields face)
unfolding position_fields castle_flags ranks
IsField-position face =
    let rest : List (List ℕ) =
    colour_to_move face.to_move ∷ double_push face.push ∷ castle_flags face.rights ++ decimal face.quiet ∷ [] in
    All-append IsField (ranks face.men) rest (IsField-ranks face.men)
    (All-from_recursion IsField rest (
      IsField-colour face.to_move,
      (
        IsField-push face.push,
        (IsField-flag _, (IsField-flag _, (IsField-flag _, (IsField-flag _, (IsField-decimal face.quiet, tt))))),
      ),
    ))

IsField-game : (v : BoardView) (who : Viewer) → HasUnbrokenParts v → All IsField (game_fields v who)
unfolding game_fields
IsField-game v who h =
    All-from_recursion IsField (game_fields v who) (
      IsField-decimal v.game,
      (
        IsField-name v.white h.white.0 h.white.2,
        (
          IsField-name v.black h.black.0 h.black.2,
          (IsField-signed_decimal who.relation, (IsField-decimal v.minutes, (IsField-decimal v.increment, tt))),
        ),
      ),
    )

IsField-strengths : (v : BoardView) → All IsField (strength_fields v)
unfolding strength_fields
IsField-strengths v =
    All-from_recursion IsField (strength_fields v) (
      IsField-decimal (material_of White v.face.men),
      (
        IsField-decimal (material_of Black v.face.men),
        (
          IsField-signed_decimal (whole_seconds_of (slice_index_or v.remaining 0 (pos 0))),
          (IsField-signed_decimal (whole_seconds_of (slice_index_or v.remaining 1 (pos 0))), tt),
        ),
      ),
    )

IsField-moves : (v : BoardView) (who : Viewer) → HasUnbrokenParts v → All IsField (move_fields v who)
unfolding move_fields
IsField-moves v who h =
    All-from_recursion IsField (move_fields v who)
    (IsField-decimal v.face.number, (h.verbose, (IsField-time_taken v.taken, (h.pretty, (IsField-flag who.flip, tt)))))

-- the text `<12>`
IsField-first : IsField (codes "<12>")
IsField-first = record {
  some = omega arith;
  unbroken =
      All-from_recursion (λ byte. byte ≢ 32)
      (codes "<12>") (λ e. omega arith, (λ e. omega arith, (λ e. omega arith, (λ e. omega arith, tt))));
}

pub All-fields_of : (v : BoardView) (who : Viewer) → HasUnbrokenParts v → All IsField (fields_of v who)
unfolding fields_of
All-fields_of v who h =
    All-append IsField (codes "<12>" ∷ position_fields v.face ++ game_fields v who ++ strength_fields v)
    (move_fields v who)
    (All-append IsField (codes "<12>" ∷ position_fields v.face ++ game_fields v who) (strength_fields v)
    (All-append IsField (codes "<12>" ∷ position_fields v.face) (game_fields v who)
    (All-cons IsField (codes "<12>") (position_fields v.face) IsField-first (IsField-position v.face))
    (IsField-game v who h))
    (IsField-strengths v))
    (IsField-moves v who h)

pub length-fields_of : (v : BoardView) (who : Viewer) → length (fields_of v who) ≡ 31
unfolding fields_of position_fields ranks castle_flags game_fields strength_fields move_fields
length-fields_of v who = refl

-- a line is cut into its fields
pub cut-line12_text : (v : BoardView) (who : Viewer) → HasUnbrokenParts v
    → cut_at_blanks (line12_text v who) ≡ fields_of v who
unfolding line12_text
cut-line12_text v who h =
    let count = length-fields_of v who in
    cut-join (fields_of v who) (omega arith) (All-fields_of v who h)
