-- What is read as a word is a spelling of it.
use Rattle.std.proofs.Common.{◌≡◌, ℕ, ◌+◌, ◌*◌, Bool, true, false, cond, List, [], ◌∷◌, ◌++◌, length, take, drop, refl, sym, ap, subst, ◌∙◌, Some, None, inl, inr, take-append-drop}
use Rattle.std.specs.Prelude.{◌==◌, ◌||◌, Option, codes, bytes_eq}
use Rattle.std.proofs.lemmas.Bool.{eqb-true, and_parts}
use Rattle.std.proofs.lemmas.Slice.Eq.{bytes_eq-Decides}
use Rattle.chess_model.specs.declared.man.Kind.{Kind}
use Rattle.chess_model.specs.declared.moves.MoveWord.{MoveWord}
use Rattle.chess_model.specs.declared.moves.MoveWord.TheVariants.{Coordinate, Named, Castle, Drop}
use Rattle.move_reader.specs.Spellings.{Text, OneOf, MadeOf, Spells, square_names, origin_files, origin_ranks, capture_marks, dashes, marks, promotion_and}
use Rattle.move_reader.specs.Reading.{lookup, droppable, man_of, file_of_letter, rank_of_digit, leading, behind_byte, squared, leading_square, is_mark, is_empty, promotion_spelled, to_square, target_of, coordinate_from, coordinate_of, or_pawn, named_by, named_of, is_marked, is_castling, castle_of, dropped_at, dropped, drop_of}
use Rattle.move_reader.proofs.ByteMeanings.{not_some, drop_letter}
use Rattle.move_reader.proofs.PartReaders.{Takes, leading-takes, man-sound, file-sound, rank-sound, behind_byte-sound, squared-both, square_named, square-sound, promotion-sound, is_empty-sound, is_mark-sound}

-- a target and a promotion that were read
pub target-both : (word : ℕ → Option Kind → MoveWord) (is_end : Text → Bool) (found : Option (ℕ × Text)) (w : MoveWord)
    → target_of word is_end found ≡ Some w
    → (to : ℕ) × (rest : Text) × (promo : Option Kind) × (found ≡ Some (to, rest))
    × (promotion_spelled is_end rest ≡ Some promo) × (word to promo ≡ w)
target-both word is_end None w e = not_some w e
target-both word is_end (Some found) w e =
    elim (promotion_spelled is_end found.1)
    as (λ p. promotion_spelled is_end found.1 ≡ p → to_square word found.0 p ≡ Some w
    → (to : ℕ) × (rest : Text) × (promo : Option Kind) × (Some found ≡ Some (to, rest))
    × (promotion_spelled is_end rest ≡ Some promo) × (word to promo ≡ w)) [
      | None ↦ λ is e. not_some w e
      | Some promo ↦ λ is e. (found.0, found.1, promo, refl, is, let same : word found.0 promo ≡ w = cc in same)
    ] refl e

-- a word of two squares, and its spelling
abbrev pub IsSquares : Text → MoveWord → Type 0
IsSquares text w =
    (from : ℕ) × (to : ℕ) × (promo : Option Kind) × (Coordinate from to promo ≡ w)
    × Spells text (Coordinate from to promo)

coordinate-step : (text : Text) (found : Option (ℕ × Text)) (w : MoveWord) → leading_square text ≡ found
    → coordinate_from found ≡ Some w → IsSquares text w
coordinate-step text None w is e = not_some w e
coordinate-step text (Some from) w is e =
    let got = target-both (Coordinate from.0) is_empty (leading_square (behind_byte 45 from.1)) w e in
    let to = got.0 in
    let rest = got.1 in
    let promo = got.2 in (
      from.0,
      to,
      promo,
      got.5,
      square-sound text from (dashes ∷ square_names to ∷ promotion_and promo []) is
          (behind_byte-sound 45 from.1 (square_names to ∷ promotion_and promo [])
          (square-sound (behind_byte 45 from.1) (to, rest) (promotion_and promo []) got.3
          (promotion-sound is_empty [] rest promo is_empty-sound got.4))),
    )

pub coordinate-sound : (text : Text) (w : MoveWord) → coordinate_of text ≡ Some w → IsSquares text w
coordinate-sound text w e = coordinate-step text (leading_square text) w refl e

-- a word in algebraic notation, and its spelling
abbrev pub IsNamed : Text → MoveWord → Type 0
IsNamed text w =
    (kind : Kind) × (file : Option ℕ) × (rank : Option ℕ) × (to : ℕ) × (promo : Option Kind)
    × (Named kind file rank to promo ≡ w)
    × Spells text (Named kind file rank to promo)

-- a file and a rank that were taken, with nothing taken behind them
file-rank-rest : (text : Text) (f r : ℕ) (first second : Option ℕ × Text) (parts : List (List Text))
    → Takes file_of_letter text first → Takes rank_of_digit first.1 second
    → first.0 ≡ Some f → second.0 ≡ Some r → MadeOf parts second.1 → MadeOf (square_names (8 * r + f) ∷ parts) text
file-rank-rest text f r first second parts (inl e) t p q m = not_some f (sym (ap (λ (x : Option ℕ × Text). x.0) e) ∙ p)
file-rank-rest text f r first second parts (inr (b, v, rest, split, means, e)) (inl e') p q m =
    not_some r (sym (ap (λ (x : Option ℕ × Text). x.0) e') ∙ q)
file-rank-rest text f r first second parts (inr (b, v, rest, split, means, e)) (inr (b', v', rest', split', means', e'))
    p q m =
    let file : file_of_letter b ≡ Some f = means ∙ sym (ap (λ (x : Option ℕ × Text). x.0) e) ∙ p in
    let rank : rank_of_digit b' ≡ Some r = means' ∙ sym (ap (λ (x : Option ℕ × Text). x.0) e') ∙ q in
    let behind_file : rest ≡ b' ∷ rest' = sym (ap (λ (x : Option ℕ × Text). x.1) e) ∙ split' in (
      b ∷ b' ∷ [],
      rest',
      square_named b b' f r file rank,
      subst (λ (x : Text). MadeOf parts x) (ap (λ (x : Option ℕ × Text). x.1) e') m,
      split ∙ ap (λ (x : Text). b ∷ x) behind_file,
    )

named-step : (text : Text) (w : MoveWord) (found : Option (ℕ × Text))
    → leading_square (behind_byte 120 (leading rank_of_digit (leading file_of_letter (leading man_of text).1).1).1)
    ≡ found
    → named_by (or_pawn (leading man_of text).0) (leading file_of_letter (leading man_of text).1).0
    (leading rank_of_digit (leading file_of_letter (leading man_of text).1).1).0
    (leading rank_of_digit (leading file_of_letter (leading man_of text).1).1).1 found
    ≡ Some w
    → IsNamed text w
named-step text w (Some found) is e =
    let man = leading man_of text in
    let file = leading file_of_letter man.1 in
    let rank = leading rank_of_digit file.1 in
    let got = target-both (Named (or_pawn man.0) file.0 rank.0) is_mark (Some found) w e in
    let to = got.0 in
    let rest = got.1 in
    let promo = got.2 in
    let ends = promotion_and promo (marks ∷ []) in (
      or_pawn man.0,
      file.0,
      rank.0,
      to,
      promo,
      got.5,
      man-sound text (origin_files file.0 ∷ origin_ranks rank.0 ∷ capture_marks ∷ square_names to ∷ ends)
          (file-sound man.1 (origin_ranks rank.0 ∷ capture_marks ∷ square_names to ∷ ends)
          (rank-sound file.1 (capture_marks ∷ square_names to ∷ ends)
          (behind_byte-sound 120 rank.1 (square_names to ∷ ends)
          (square-sound (behind_byte 120 rank.1) (to, rest) ends (is ∙ got.3)
          (promotion-sound is_mark (marks ∷ []) rest promo is_mark-sound got.4))))),
    )
named-step text w None is e =
    let man = leading man_of text in
    let file = leading file_of_letter man.1 in
    let rank = leading rank_of_digit file.1 in
    let got = target-both (Named (or_pawn man.0) None None) is_mark (squared file.0 rank.0 rank.1) w e in
    let both = squared-both file.0 rank.0 rank.1 (got.0, got.1) got.3 in
    let f = both.0 in
    let r = both.1 in
    let promo = got.2 in
    let ends = promotion_and promo (marks ∷ []) in
    let target : 8 * r + f ≡ got.0 = sym (ap (λ (x : ℕ × Text). x.0) both.4) in
    let end : rank.1 ≡ got.1 = sym (ap (λ (x : ℕ × Text). x.1) both.4) in
    let promotion : promotion_spelled is_mark rank.1 ≡ Some promo =
    ap (λ (x : Text). promotion_spelled is_mark x) end ∙ got.4 in (
      or_pawn man.0,
      None,
      None,
      8 * r + f,
      promo,
      ap (λ (x : ℕ). Named (or_pawn man.0) None None x promo) target ∙ got.5,
      man-sound text (([] ∷ []) ∷ ([] ∷ []) ∷ capture_marks ∷ square_names (8 * r + f) ∷ ends) (
        [],
        man.1,
        inl refl,
        (
          [],
          man.1,
          inl refl,
          (
            [],
            man.1,
            inl refl,
            file-rank-rest man.1 f r file rank ends (leading-takes file_of_letter man.1)
                (leading-takes rank_of_digit file.1) both.2 both.3
                (promotion-sound is_mark (marks ∷ []) rank.1 promo is_mark-sound promotion),
            refl,
          ),
          refl,
        ),
        refl,
      ),
    )

pub named-sound : (text : Text) (w : MoveWord) → named_of text ≡ Some w → IsNamed text w
named-sound text w e =
    named-step text w
    (leading_square (behind_byte 120 (leading rank_of_digit (leading file_of_letter (leading man_of text).1).1).1)) refl
    e

marked : (word text : Text) (choices : List Text) → OneOf choices word → is_marked word text ≡ true
    → MadeOf (choices ∷ marks ∷ []) text
marked word text choices one e =
    let both = and_parts (bytes_eq (take (length word) text) word) (is_mark (drop (length word) text)) e in
    let front : take (length word) text ≡ word = (bytes_eq-Decides (take (length word) text) word).0 both.0 in (
      word,
      drop (length word) text,
      one,
      is_mark-sound (drop (length word) text) both.1,
      sym (take-append-drop (length word) text) ∙ ap (λ (x : Text). x ++ drop (length word) text) front,
    )

one_of_three : (a b c text : Text) → is_castling a b c text ≡ true → MadeOf ((a ∷ b ∷ c ∷ []) ∷ marks ∷ []) text
one_of_three a b c text e =
    elim (is_marked a text)
    as (λ t.
    is_marked a text ≡ t → (t || is_marked b text) || is_marked c text ≡ true
    → MadeOf ((a ∷ b ∷ c ∷ []) ∷ marks ∷ []) text) [
      | true ↦ λ is e. marked a text (a ∷ b ∷ c ∷ []) (inl refl) is
      | false ↦ λ no e.
          elim (is_marked b text)
          as (λ t. is_marked b text ≡ t → t || is_marked c text ≡ true → MadeOf ((a ∷ b ∷ c ∷ []) ∷ marks ∷ []) text) [
            | true ↦ λ is e. marked b text (a ∷ b ∷ c ∷ []) (inr (inl refl)) is
            | false ↦ λ no e. marked c text (a ∷ b ∷ c ∷ []) (inr (inr (inl refl))) e
          ] refl e
    ] refl e

-- castling, and its spelling
abbrev pub IsCastling : Text → MoveWord → Type 0
IsCastling text w = (long : Bool) × (Castle long ≡ w) × Spells text (Castle long)

castle-step : (text : Text) (w : MoveWord) (short long : Bool)
    → is_castling
    (codes "O-O")
    (codes "o-o") (codes "0-0") text ≡ short → is_castling (codes "O-O-O") (codes "o-o-o") (codes "0-0-0") text ≡ long
    → cond short (Some (Castle false)) (cond long (Some (Castle true)) None) ≡ Some w → IsCastling text w
castle-step text w true long is is' e =
    (false, let same : Castle false ≡ w = cc in same, one_of_three (codes "O-O") (codes "o-o") (codes "0-0") text is)
castle-step text w false true is is' e = (
  true,
  let same : Castle true ≡ w = cc in same,
  one_of_three (codes "O-O-O") (codes "o-o-o") (codes "0-0-0") text is',
)
castle-step text w false false is is' e = not_some w e

pub castle-sound : (text : Text) (w : MoveWord) → castle_of text ≡ Some w → IsCastling text w
castle-sound text w e =
    castle-step text w
    (is_castling (codes "O-O")
    (codes "o-o") (codes "0-0") text) (is_castling (codes "O-O-O") (codes "o-o-o") (codes "0-0-0") text) refl refl e

-- a drop, and its spelling
abbrev pub IsDrop : Text → MoveWord → Type 0
IsDrop text w = (kind : Kind) × (to : ℕ) × (Drop kind to ≡ w) × Spells text (Drop kind to)

dropped-step : (letter : ℕ) (rest : Text) (w : MoveWord) (man : Kind) (found : Option (ℕ × Text))
    → lookup droppable letter ≡ Some man → leading_square rest ≡ found
    → dropped_at man found ≡ Some w → IsDrop (letter ∷ 64 ∷ rest) w
dropped-step letter rest w man None is found e = not_some w e
dropped-step letter rest w man (Some at) is found e =
    elim (is_mark at.1)
    as (λ t. is_mark at.1 ≡ t → cond t (Some (Drop man at.0)) None ≡ Some w → IsDrop (letter ∷ 64 ∷ rest) w) [
      | true ↦ λ end e. (
        man,
        at.0,
        let same : Drop man at.0 ≡ w = cc in same,
        (
          letter ∷ [],
          64 ∷ rest,
          drop_letter letter man is,
          (64 ∷ [], rest, inl refl, square-sound rest at (marks ∷ []) found (is_mark-sound at.1 end), refl),
          refl,
        ),
      )
      | false ↦ λ end e. not_some w e
    ] refl e

letter-step : (letter : ℕ) (rest : Text) (w : MoveWord) (man : Option Kind) → lookup droppable letter ≡ man
    → dropped man rest ≡ Some w → IsDrop (letter ∷ 64 ∷ rest) w
letter-step letter rest w None is e = not_some w e
letter-step letter rest w (Some man) is e = dropped-step letter rest w man (leading_square rest) is refl e

pub drop-sound : (text : Text) (w : MoveWord) → drop_of text ≡ Some w → IsDrop text w
drop-sound [] w e = not_some w e
drop-sound (letter ∷ []) w e = not_some w e
drop-sound (letter ∷ at ∷ rest) w e =
    elim (at == 64)
    as (λ t.
    (at == 64) ≡ t → cond t (dropped (lookup droppable letter) rest) None ≡ Some w → IsDrop (letter ∷ at ∷ rest) w) [
      | true ↦ λ is e.
          subst (λ (x : ℕ). IsDrop (letter ∷ x ∷ rest) w) (sym (eqb-true at 64 is))
          (letter-step letter rest w (lookup droppable letter) refl e)
      | false ↦ λ is e. not_some w e
    ] refl e
