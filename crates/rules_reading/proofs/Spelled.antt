-- The pretty text of a move is a spelling of a word.
use Rattle.std.proofs.Common.{arith, ◌≡◌, ◌≢◌, ℕ, ◌+◌, ◌*◌, ◌<◌, ◌⊎◌, inl, inr, [], ◌∷◌, ◌++◌, Bool, true, false, Option, Some, None, refl, sym, ap, ◌∙◌}
use Rattle.std.specs.Prelude.{codes, nat_lt, ⊤}
use Rattle.chess_model.specs.declared.man.Kind.{Kind}
use Rattle.chess_model.specs.declared.man.Kind.TheVariants.{Pawn, Knight, Bishop, Rook, Queen, King}
use Rattle.chess_model.specs.declared.moves.Move.TheVariants as move
use Rattle.chess_model.specs.declared.moves.MoveWord.{MoveWord}
use Rattle.chess_model.specs.declared.moves.MoveWord.TheVariants.{Coordinate, Named, Castle, Drop}
use Rattle.chess_model.specs.declared.states.State.{State}
use Rattle.chess_model.specs.declared.states.State.TheVariants.{Safe, Check, Mate, Stalemate}
use Rattle.chess_model.specs.Squares.{file_of, rank_of}
use Rattle.chess_model.specs.Allowed.{IsPromotion}
use Rattle.move_reader.specs.Spellings.{Text, OneOf, MadeOf, Spells, square_names, man_letters, origin_files, origin_ranks, capture_marks, marks, promotion_and, drop_letters}
use Rattle.move_reader.specs.Reading.{file_of_letter, rank_of_digit, squared, leading_square, behind_byte, is_empty, target_of, coordinate_from, coordinate_of, named_of, castle_of, drop_of, first_of_two, reading}
use Rattle.move_reader.proofs.ByteMeanings.{OneOf-if, is_below, file_again, rank_again}
use Rattle.move_reader.proofs.SpelledWords.{named-again, drop-again}
use Rattle.move_writer.specs.Letters.{letter_of, file_letter, rank_digit, square_text}
use Rattle.move_writer.specs.Pretty.{only_if, pretty_of, mark_text}

-- parts

mark_ends : (s : State) → MadeOf (marks ∷ []) (mark_text s)
mark_ends Safe = ([], [], inl refl, refl, refl)
mark_ends Check = (codes "+", [], inr (inl refl), refl, refl)
mark_ends Mate = (codes "#", [], inr (inr (inl refl)), refl, refl)
mark_ends Stalemate = ([], [], inl refl, refl, refl)

square_named : (b : ℕ) → b < 64 → OneOf (square_names b) (square_text b)
square_named b h = OneOf-if (nat_lt b 64) (square_text b) (is_below b 64 h)

-- a number that the text gives
abbrev pub given : Bool → ℕ → Option ℕ
given true n = Some n
given false n = None

file_given : (marked : Bool) (a : ℕ) → OneOf (origin_files (given marked (file_of a))) (only_if marked (file_letter a))
file_given true a = OneOf-if (nat_lt (file_of a) 8) ((97 + file_of a) ∷ []) (is_below (file_of a) 8 (omega arith))
file_given false a = inl refl

rank_given : (marked : Bool) (a : ℕ) → a < 64
    → OneOf (origin_ranks (given marked (rank_of a))) (only_if marked (rank_digit a))
rank_given true a h = OneOf-if (nat_lt (rank_of a) 8) ((49 + rank_of a) ∷ []) (is_below (rank_of a) 8 (omega arith))
rank_given false a h = inl refl

capture_given : (takes : Bool) → OneOf capture_marks (only_if takes 120)
capture_given true = inr (inl refl)
capture_given false = inl refl

man_named : (k : Kind) → OneOf (man_letters k) (letter_of k ∷ [])
man_named Pawn = inr (inl refl)
man_named Knight = inl refl
man_named Bishop = inl refl
man_named Rook = inl refl
man_named Queen = inl refl
man_named King = inl refl

-- a promotion and a mark
abbrev pub ending : Option Kind → Text → Text
ending None mark = mark
ending (Some k) mark = 61 ∷ letter_of k ∷ mark

-- a promotion that a move may have, or none
abbrev pub MayBecome : Option Kind → Type 0
MayBecome promo = (promo ≡ None) ⊎ IsPromotion promo

ending_made : (promo : Option Kind) (s : State) → MayBecome promo
    → MadeOf (promotion_and promo (marks ∷ [])) (ending promo (mark_text s))
ending_made None s h = mark_ends s
ending_made (Some k) s (inl e) = absurd (let f : None ≡ Some k = sym e in cc)
ending_made (Some Pawn) s (inr h) = absurd h
ending_made (Some Knight) s (inr h) =
    (codes "=", 78 ∷ mark_text s, inr (inl refl), (codes "N", mark_text s, inl refl, mark_ends s, refl), refl)
ending_made (Some Bishop) s (inr h) =
    (codes "=", 66 ∷ mark_text s, inr (inl refl), (codes "B", mark_text s, inl refl, mark_ends s, refl), refl)
ending_made (Some Rook) s (inr h) =
    (codes "=", 82 ∷ mark_text s, inr (inl refl), (codes "R", mark_text s, inl refl, mark_ends s, refl), refl)
ending_made (Some Queen) s (inr h) =
    (codes "=", 81 ∷ mark_text s, inr (inl refl), (codes "Q", mark_text s, inl refl, mark_ends s, refl), refl)
ending_made (Some King) s (inr h) = absurd h

-- texts that spell no two squares

no_letter : (k : Kind) → file_of_letter (letter_of k) ≡ None
no_letter Pawn = refl
no_letter Knight = refl
no_letter Bishop = refl
no_letter Rook = refl
no_letter Queen = refl
no_letter King = refl

capital_first : (k : Kind) (rest : Text) → coordinate_of (letter_of k ∷ rest) ≡ None
capital_first k [] = refl
capital_first k (x ∷ rest) = ap (λ (o : Option ℕ). coordinate_from (squared o (rank_of_digit x) rest)) (no_letter k)

capture_second : (f : ℕ) (rest : Text) → f < 8 → coordinate_of ((97 + f) ∷ 120 ∷ rest) ≡ None
capture_second f rest h = ap (λ (o : Option ℕ). coordinate_from (squared o None rest)) (file_again f h)

no_second : (promo : Option Kind) (s : State) → leading_square (behind_byte 45 (ending promo (mark_text s))) ≡ None
no_second None Safe = refl
no_second None Check = refl
no_second None Mate = refl
no_second None Stalemate = refl
no_second (Some k) s = refl

one_square : (f r : ℕ) (promo : Option Kind) (s : State) → f < 8 → r < 8
    → coordinate_of ((97 + f) ∷ (49 + r) ∷ ending promo (mark_text s)) ≡ None
one_square f r promo s f_fits r_fits =
    ap (λ (o : Option ℕ). coordinate_from (squared o (rank_of_digit (49 + r)) (ending promo (mark_text s))))
    (file_again f f_fits)
    ∙ ap (λ (o : Option ℕ). coordinate_from (squared (Some f) o (ending promo (mark_text s)))) (rank_again r r_fits)
    ∙ ap (λ (o : Option (ℕ × Text)). target_of (Coordinate (8 * r + f)) is_empty o) (no_second promo s)

-- words

named_read : (text : Text) (k : Kind) (file rank : Option ℕ) (to : ℕ) (promo : Option Kind) → coordinate_of text ≡ None
    → Spells text (Named k file rank to promo) → reading text ≡ Some (Named k file rank to promo)
named_read text k file rank to promo none spells =
    ap (λ (x : Option MoveWord).
    first_of_two x (first_of_two (named_of text) (first_of_two (castle_of text) (drop_of text))))
    none
    ∙ ap (λ (x : Option MoveWord). first_of_two x (first_of_two (castle_of text) (drop_of text)))
    (named-again text k file rank to promo spells)

-- any man but a pawn
abbrev pub IsPiece : Kind → Type 0
IsPiece Pawn = ⊥
IsPiece Knight = ⊤
IsPiece Bishop = ⊤
IsPiece Rook = ⊤
IsPiece Queen = ⊤
IsPiece King = ⊤

abbrev pub piece_text : Kind → ℕ → ℕ → Bool → Bool → Bool → State → Text
piece_text k a b by_file by_rank takes s = pretty_of (record {
  what = move.Plain a b None;
  kind = k;
  takes = takes;
  by_file = by_file;
  by_rank = by_rank;
  after = s;
})

-- the same, part behind part
abbrev piece_parts : ℕ → ℕ → ℕ → Bool → Bool → Bool → Text → Text
piece_parts letter a b by_file by_rank takes mark =
    letter
    ∷ (only_if by_file (file_letter a)
    ++ (only_if by_rank (rank_digit a) ++ (only_if takes 120 ++ (square_text b ++ mark))))

joined : (letter a b : ℕ) (by_file by_rank takes : Bool) (mark : Text) →
    (((((letter ∷ only_if by_file (file_letter a)) ++ only_if by_rank (rank_digit a)) ++ only_if takes 120)
    ++ square_text b)
    ++ [])
    ++ mark
    ≡ piece_parts letter a b by_file by_rank takes mark
joined letter a b true true true mark = refl
joined letter a b true true false mark = refl
joined letter a b true false true mark = refl
joined letter a b true false false mark = refl
joined letter a b false true true mark = refl
joined letter a b false true false mark = refl
joined letter a b false false true mark = refl
joined letter a b false false false mark = refl

piece_text-is : (k : Kind) (a b : ℕ) (by_file by_rank takes : Bool) (s : State) → IsPiece k →
    piece_text k a b by_file by_rank takes s ≡ piece_parts (letter_of k) a b by_file by_rank takes (mark_text s)
piece_text-is Pawn a b by_file by_rank takes s h = absurd h
piece_text-is Knight a b by_file by_rank takes s h = joined (letter_of Knight) a b by_file by_rank takes (mark_text s)
piece_text-is Bishop a b by_file by_rank takes s h = joined (letter_of Bishop) a b by_file by_rank takes (mark_text s)
piece_text-is Rook a b by_file by_rank takes s h = joined (letter_of Rook) a b by_file by_rank takes (mark_text s)
piece_text-is Queen a b by_file by_rank takes s h = joined (letter_of Queen) a b by_file by_rank takes (mark_text s)
piece_text-is King a b by_file by_rank takes s h = joined (letter_of King) a b by_file by_rank takes (mark_text s)

piece_spells : (k : Kind) (a b : ℕ) (by_file by_rank takes : Bool) (s : State) → a < 64 → b < 64 →
    Spells (piece_parts (letter_of k) a b by_file by_rank takes (mark_text s))
    (Named k (given by_file (file_of a)) (given by_rank (rank_of a)) b None)
piece_spells k a b by_file by_rank takes s ha hb =
    let target : Text = square_text b ++ mark_text s in
    let capture : Text = only_if takes 120 ++ target in
    let rank : Text = only_if by_rank (rank_digit a) ++ capture in
    let file : Text = only_if by_file (file_letter a) ++ rank in (
      letter_of k ∷ [],
      file,
      man_named k,
      (
        only_if by_file (file_letter a),
        rank,
        file_given by_file a,
        (
          only_if by_rank (rank_digit a),
          capture,
          rank_given by_rank a ha,
          (
            only_if takes 120,
            target,
            capture_given takes,
            (square_text b, mark_text s, square_named b hb, mark_ends s, refl),
            refl,
          ),
          refl,
        ),
        refl,
      ),
      refl,
    )

-- the text of a piece's move
pub piece_read : (k : Kind) (a b : ℕ) (by_file by_rank takes : Bool) (s : State) → IsPiece k → a < 64 → b < 64 →
    reading (piece_text k a b by_file by_rank takes s)
    ≡ Some (Named k (given by_file (file_of a)) (given by_rank (rank_of a)) b None)
piece_read k a b by_file by_rank takes s piece ha hb =
    let rest : Text =
    only_if by_file (file_letter a)
    ++ (only_if by_rank (rank_digit a) ++ (only_if takes 120 ++ (square_text b ++ mark_text s))) in
    ap reading (piece_text-is k a b by_file by_rank takes s piece)
    ∙ named_read (letter_of k ∷ rest) k (given by_file (file_of a)) (given by_rank (rank_of a)) b None
    (capital_first k rest)
    (piece_spells k a b by_file by_rank takes s ha hb)

abbrev pub pawn_text : ℕ → ℕ → Option Kind → Bool → State → Text
pawn_text a b promo takes s = pretty_of (record {
  what = move.Plain a b promo;
  kind = Pawn;
  takes = takes;
  by_file = false;
  by_rank = false;
  after = s;
})

push_parts : (a b : ℕ) (promo : Option Kind) (s : State)
    → pawn_text a b promo false s ≡ (97 + file_of b) ∷ (49 + rank_of b) ∷ ending promo (mark_text s)
push_parts a b None s = refl
push_parts a b (Some k) s = refl

capture_parts : (a b : ℕ) (promo : Option Kind) (s : State) →
    pawn_text a b promo true s
    ≡ (97 + file_of a) ∷ 120 ∷ (97 + file_of b) ∷ (49 + rank_of b) ∷ ending promo (mark_text s)
capture_parts a b None s = refl
capture_parts a b (Some k) s = refl

-- the text of a pawn's move: its file where it takes
pub pawn_read : (a b : ℕ) (promo : Option Kind) (takes : Bool) (s : State) → a < 64 → b < 64 → MayBecome promo →
    reading (pawn_text a b promo takes s) ≡ Some (Named Pawn (given takes (file_of a)) None b promo)
pawn_read a b promo false s ha hb h =
    let end : Text = ending promo (mark_text s) in
    let text : Text = (97 + file_of b) ∷ (49 + rank_of b) ∷ end in
    ap reading (push_parts a b promo s)
    ∙ named_read text Pawn None None b promo (one_square (file_of b) (rank_of b) promo s (omega arith) (omega arith)) (
      [],
      text,
      inl refl,
      (
        [],
        text,
        inl refl,
        (
          [],
          text,
          inl refl,
          ([], text, inl refl, (square_text b, end, square_named b hb, ending_made promo s h, refl), refl),
          refl,
        ),
        refl,
      ),
      refl,
    )
pawn_read a b promo true s ha hb h =
    let end : Text = ending promo (mark_text s) in
    let target : Text = (97 + file_of b) ∷ (49 + rank_of b) ∷ end in
    let text : Text = (97 + file_of a) ∷ 120 ∷ target in
    ap reading (capture_parts a b promo s)
    ∙ named_read text Pawn (Some (file_of a)) None b promo (capture_second (file_of a) target (omega arith)) (
      [],
      text,
      inl refl,
      (
        (97 + file_of a) ∷ [],
        120 ∷ target,
        file_given true a,
        (
          [],
          120 ∷ target,
          inl refl,
          (
            codes "x",
            target,
            inr (inl refl),
            (square_text b, end, square_named b hb, ending_made promo s h, refl),
            refl,
          ),
          refl,
        ),
        refl,
      ),
      refl,
    )

-- the text of castling
pub castle_read : (long : Bool) (s : State) → reading (pretty_of (record {
  what = move.Castle long;
  kind = King;
  takes = false;
  by_file = false;
  by_rank = false;
  after = s;
})) ≡ Some (Castle long)
castle_read false Safe = refl
castle_read false Check = refl
castle_read false Mate = refl
castle_read false Stalemate = refl
castle_read true Safe = refl
castle_read true Check = refl
castle_read true Mate = refl
castle_read true Stalemate = refl

drop_named : (k : Kind) → k ≢ King → OneOf (drop_letters k) (letter_of k ∷ [])
drop_named Pawn h = inl refl
drop_named Knight h = inl refl
drop_named Bishop h = inl refl
drop_named Rook h = inl refl
drop_named Queen h = inl refl
drop_named King h = absurd (h refl)

-- the text of a drop
pub drop_read : (k : Kind) (to : ℕ) (s : State) → k ≢ King → to < 64 → reading (pretty_of (record {
  what = move.Drop k to;
  kind = k;
  takes = false;
  by_file = false;
  by_rank = false;
  after = s;
})) ≡ Some (Drop k to)
drop_read k to s h fits =
    let name : Text = square_text to ++ mark_text s in
    drop-again (letter_of k ∷ 64 ∷ name) k to (
      letter_of k ∷ [],
      64 ∷ name,
      drop_named k h,
      (codes "@", name, inl refl, (square_text to, mark_text s, square_named to fits, mark_ends s, refl), refl),
      refl,
    )
