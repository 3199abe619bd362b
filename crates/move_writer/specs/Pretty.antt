-- The pretty text of a move: short algebraic notation (FIDE Laws, appendix C), with `=` before what a pawn becomes,
-- and `@` for the drops of crazyhouse and bughouse.
use Rattle.std.specs.Prelude.{◌≡◌, ℕ, List, [], ◌∷◌, ◌++◌, Bool, true, false, if◌then◌else◌, Option, Some, None, codes, refl}
use Rattle.chess_model.specs.declared.man.Kind.{Kind}
use Rattle.chess_model.specs.declared.man.Kind.TheVariants.{Pawn, Knight, Rook, Queen, King}
use Rattle.chess_model.specs.declared.moves.Move.{Move}
use Rattle.chess_model.specs.declared.moves.Move.TheVariants.{Plain, Castle, Drop}
use Rattle.chess_model.specs.declared.states.Shown.{Shown}
use Rattle.chess_model.specs.declared.states.State.{State}
use Rattle.chess_model.specs.declared.states.State.TheVariants.{Safe, Check, Mate, Stalemate}
use Rattle.move_writer.specs.Letters.{letter_of, file_letter, rank_digit, square_text, promotion_text}

-- a byte that stands where the text has it
abbrev pub only_if : Bool → ℕ → List ℕ
only_if wanted byte = if wanted then byte ∷ [] else []

-- where a man comes from: a pawn by its file where it captures, another man by its letter and what tells it from others
abbrev pub origin_text : Shown → ℕ → Kind → List ℕ
origin_text shown from Pawn = only_if shown.takes (file_letter from)
origin_text shown from moved =
    letter_of moved ∷ only_if shown.by_file (file_letter from) ++ only_if shown.by_rank (rank_digit from)

-- a man that goes from a square to another
abbrev pub plain_text : Shown → ℕ → ℕ → Option Kind → List ℕ
plain_text shown from to promo =
    origin_text shown from shown.kind ++ only_if shown.takes 120 ++ square_text to ++ promotion_text promo

-- the move without what it does to the opponent's king
abbrev pub pretty_move : Shown → Move → List ℕ
pretty_move shown (Plain from to promo) = plain_text shown from to promo
pretty_move shown (Castle false) = codes "O-O"
pretty_move shown (Castle true) = codes "O-O-O"
pretty_move shown (Drop dropped to) = letter_of dropped ∷ codes "@" ++ square_text to

-- the mark of a check, or of a mate
abbrev pub mark_text : State → List ℕ
mark_text Safe = []
mark_text Check = codes "+"
mark_text Mate = codes "#"
mark_text Stalemate = []

abbrev pub pretty_of : Shown → List ℕ
pretty_of shown = pretty_move shown shown.what ++ mark_text shown.after

-- White's pawn on e2 goes to e4
example_push : pretty_of (record {
  what = Plain 12 28 None;
  kind = Pawn;
  takes = false;
  by_file = false;
  by_rank = false;
  after = Safe;
}) ≡ codes "e4"
example_push = refl

-- White's pawn on e4 takes on d5
example_capture : pretty_of (record {
  what = Plain 28 35 None;
  kind = Pawn;
  takes = true;
  by_file = false;
  by_rank = false;
  after = Safe;
}) ≡ codes "exd5"
example_capture = refl

-- a pawn becomes a queen on e8 and mates
example_promotion : pretty_of (record {
  what = Plain 52 60 (Some Queen);
  kind = Pawn;
  takes = false;
  by_file = false;
  by_rank = false;
  after = Mate;
}) ≡ codes "e8=Q#"
example_promotion = refl

-- a knight on b1 goes to d2, where another one might too, and gives check
example_knight : pretty_of (record {
  what = Plain 1 11 None;
  kind = Knight;
  takes = false;
  by_file = true;
  by_rank = false;
  after = Check;
}) ≡ codes "Nbd2+"
example_knight = refl

-- a rook on a1 takes on a5, where one on the same file might too
example_rook : pretty_of (record {
  what = Plain 0 32 None;
  kind = Rook;
  takes = true;
  by_file = false;
  by_rank = true;
  after = Safe;
}) ≡ codes "R1xa5"
example_rook = refl

example_castle : pretty_of (record {
  what = Castle true;
  kind = King;
  takes = false;
  by_file = false;
  by_rank = false;
  after = Check;
}) ≡ codes "O-O-O+"
example_castle = refl

example_drop : pretty_of (record {
  what = Drop Pawn 28;
  kind = Pawn;
  takes = false;
  by_file = false;
  by_rank = false;
  after = Safe;
}) ≡ codes "P@e4"
example_drop = refl
