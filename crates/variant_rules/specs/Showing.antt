-- What the printed text of an allowed half-move needs (FICS help page `style12`; algebraic notation, FIDE Laws
-- appendix C).
use Rattle.std.specs.Prelude.{ℕ, Bool, true, false, Option, Some, None, is_ok, is_some}
use Rattle.chess_model.specs.declared.man.Kind.{Kind}
use Rattle.chess_model.specs.declared.man.Kind.TheVariants.{Pawn, Knight, Bishop, Rook, Queen, King}
use Rattle.chess_model.specs.declared.man.Man.{Man}
use Rattle.chess_model.specs.declared.moves.Move.{Move}
use Rattle.chess_model.specs.declared.moves.Move.TheVariants.{Plain, Castle, Drop}
use Rattle.chess_model.specs.declared.moves.MoveWord.TheVariants as word
use Rattle.chess_model.specs.declared.states.Shown.{Shown}
use Rattle.chess_model.specs.Squares.{file_of, rank_of}
use Rattle.chess_model.specs.Placement.{Placement, man_at}
use Rattle.chess_model.specs.MoveList.{taken}
use Rattle.chess_model.specs.Position.{Position}
use Rattle.chess_model.specs.Next.{next}
use Rattle.chess_model.specs.WordAnswer.{word_answer}
use Rattle.variant_rules.specs.declared.shown.Marks.{Marks}
use Rattle.variant_rules.specs.States.{state_in}

-- the kind of a man; no move leaves an empty square, which counts as a pawn's
abbrev pub kind_on : Option Man → Kind
kind_on None = Pawn
kind_on (Some m) = m.kind

-- the kind of the man that moves or is dropped, the king for castling
abbrev pub shown_kind : Placement → Move → Kind
shown_kind P (Plain a b promo) = kind_on (man_at P a)
shown_kind P (Castle long) = King
shown_kind P (Drop k to) = k

-- whether the word for a man of that kind, with these of its file and rank, leaves one allowed move
abbrev pub is_clear_word : Position → Kind → Option ℕ → Option ℕ → ℕ → Bool
is_clear_word p k file rank b = is_ok (word_answer p (word.Named k file rank b None))

-- no mark
abbrev pub bare : Marks
bare = record { by_file = false; by_rank = false }

-- the first of nothing, file, rank, file and rank that leaves one allowed move
abbrev pub marks_by : Bool → Bool → Bool → Marks
marks_by true by_file by_rank = bare
marks_by false true by_rank = record { by_file = true; by_rank = false }
marks_by false false true = record { by_file = false; by_rank = true }
marks_by false false false = record { by_file = true; by_rank = true }

-- the marks of a piece that moves from a to b
abbrev pub piece_marks : Position → Kind → ℕ → ℕ → Marks
piece_marks p k a b =
    marks_by (is_clear_word p k None None b) (is_clear_word p k (Some (file_of a)) None b)
    (is_clear_word p k None (Some (rank_of a)) b)

-- a pawn has none
abbrev pub plain_marks : Position → Kind → ℕ → ℕ → Marks
plain_marks p Pawn a b = bare
plain_marks p Knight a b = piece_marks p Knight a b
plain_marks p Bishop a b = piece_marks p Bishop a b
plain_marks p Rook a b = piece_marks p Rook a b
plain_marks p Queen a b = piece_marks p Queen a b
plain_marks p King a b = piece_marks p King a b

-- nor has castling or a drop
abbrev pub marks_of : Position → Move → Marks
marks_of p (Plain a b promo) = plain_marks p (kind_on (man_at p.men a)) a b
marks_of p (Castle long) = bare
marks_of p (Drop k to) = bare

-- what the text of a half-move needs
abbrev pub shown_of : Position → Move → Shown
shown_of p m = record {
  what = m;
  kind = shown_kind p.men m;
  takes = is_some (taken p.men m);
  by_file = (marks_of p m).by_file;
  by_rank = (marks_of p m).by_rank;
  after = state_in (next p m);
}
