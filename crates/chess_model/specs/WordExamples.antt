-- Worked examples: allowed half-moves and answers to words, in small positions.
use Rattle.std.specs.Prelude.{◌≡◌, ℕ, true, false, List, [], ◌∷◌, replicate, Option, Some, None, Ok, Err, slice_set}
use Rattle.chess_model.specs.declared.man.Colour.{Colour}
use Rattle.chess_model.specs.declared.man.Colour.TheVariants.{White, Black}
use Rattle.chess_model.specs.declared.man.Kind.{Kind}
use Rattle.chess_model.specs.declared.man.Kind.TheVariants.{Pawn, Knight, Rook, Queen, King}
use Rattle.chess_model.specs.declared.moves.Move.TheVariants as move
use Rattle.chess_model.specs.declared.moves.MoveWord.{MoveWord}
use Rattle.chess_model.specs.declared.moves.MoveWord.TheVariants as word
use Rattle.chess_model.specs.declared.moves.Rejection.TheVariants.{Ambiguous, LeavesKing, CastleForbidden, NoDrops, NotInHand, Occupied, EndRank, NoPiece, CannotReach}
use Rattle.chess_model.specs.declared.hand.Hand.{Hand}
use Rattle.chess_model.specs.declared.variant.Variant.{Variant}
use Rattle.chess_model.specs.declared.variant.Variant.TheVariants.{Chess, Crazyhouse, Fischer}
use Rattle.chess_model.specs.Placement.{Placement, man_at, unpromoted}
use Rattle.chess_model.specs.MoveList.{place_after}
use Rattle.chess_model.specs.Position.{Position, position_after}
use Rattle.chess_model.specs.Tests.{is_allowed}
use Rattle.chess_model.specs.WordAnswer.{word_answer}

-- a man on a square
pub record StandingMan : Type 0 where
  pub on : ℕ
  pub colour : Colour
  pub kind : Kind

abbrev pub white : Kind → ℕ → StandingMan
white k s = record { on = s; colour = White; kind = k }

abbrev pub black : Kind → ℕ → StandingMan
black k s = record { on = s; colour = Black; kind = k }

-- the placement of some men
abbrev pub placed_men : List StandingMan → Placement
placed_men [] = replicate 64 None
placed_men (m ∷ ms) = slice_set (placed_men ms) m.on (unpromoted m.colour m.kind)

abbrev pub empty_hand : Hand
empty_hand = record { pawns = 0; knights = 0; bishops = 0; rooks = 0; queens = 0 }

-- a position of some men, with all castling rights
abbrev pub board : Variant → Colour → Option ℕ → Hand → List StandingMan → Position
board v c en_passant hand ms = record {
  variant = v;
  men = placed_men ms;
  to_move = c;
  en_passant = en_passant;
  rights = record { white_short = true; white_long = true; black_short = true; black_long = true };
  quiet = 0;
  white = hand;
  black = empty_hand;
}

abbrev pub chess : Colour → List StandingMan → Position
chess c ms = board Chess c None empty_hand ms

-- the start of a game of chess
abbrev pub start : Position
start = position_after Chess [] 1

-- a word with a kind and a target alone
abbrev pub to_square : Kind → ℕ → MoveWord
to_square k s = word.Named k None None s None

-- two squares
abbrev pub from_to : ℕ → ℕ → MoveWord
from_to a b = word.Coordinate a b None

-- White: Ke1, Ne2; Black: Ka8, Re8
abbrev pub pinned_knight : Position
pinned_knight = chess White (white King 4 ∷ white Knight 12 ∷ black King 56 ∷ black Rook 60 ∷ [])

-- White: Ka5, Pb5; Black: Kh8 and some more men, and Black has just played c7-c5
abbrev pub passed_on_fifth : List StandingMan → Position
passed_on_fifth more =
    board Chess White (Some 42) empty_hand (white King 32 ∷ white Pawn 33 ∷ black Pawn 34 ∷ black King 63 ∷ more)

-- White: Ke1, Ra1, Rh1; Black: Kd7 and a rook
abbrev pub castling_past : ℕ → Position
castling_past rook = chess White (white King 4 ∷ white Rook 0 ∷ white Rook 7 ∷ black King 51 ∷ black Rook rook ∷ [])

-- Black: Ke8, Ra8; White: Ke1
abbrev pub black_long : Position
black_long = chess Black (black King 60 ∷ black Rook 56 ∷ white King 4 ∷ [])

-- array 96, where the king begins on g1. White: Kg1, Rh1; Black: Ka8
abbrev pub king_on_g : Position
king_on_g = board (Fischer 96) White None empty_hand (white King 6 ∷ white Rook 7 ∷ black King 56 ∷ [])

-- array 681, where the king begins on c1 beside a rook on b1. White: Kc1, Rb1; Black: Kh8 and some more men
abbrev pub rook_beside : List StandingMan → Position
rook_beside more = board (Fischer 681) White None empty_hand (white King 2 ∷ white Rook 1 ∷ black King 63 ∷ more)

-- White: Kh1, Nc3, Ng1; Black: Kh8
abbrev pub two_knights : Position
two_knights = chess White (white King 7 ∷ white Knight 18 ∷ white Knight 6 ∷ black King 63 ∷ [])

-- White: Kh1, Pa7; Black: Kh8
abbrev pub about_to_promote : Position
about_to_promote = chess White (white King 7 ∷ white Pawn 48 ∷ black King 63 ∷ [])

-- crazyhouse, a white pawn in hand; White: Ka1; Black: Kh8 and some more men
abbrev pub pawn_in_hand : List StandingMan → Position
pawn_in_hand more =
    board Crazyhouse White None (record { pawns = 1; knights = 0; bishops = 0; rooks = 0; queens = 0 })
    (white King 0 ∷ black King 63 ∷ more)

pub record AllowedExamples : Type 0 where
  -- a pinned knight may not leave its line, and the king may step out of it
  pub pinned : is_allowed pinned_knight (move.Plain 12 18 None) ≡ false
  pub steps_aside : is_allowed pinned_knight (move.Plain 4 3 None) ≡ true
  -- en passant takes two pawns off the rank, here between king and rook
  pub passing_pinned : is_allowed (passed_on_fifth (black Rook 39 ∷ [])) (move.Plain 33 42 None) ≡ false
  pub passing_free : is_allowed (passed_on_fifth []) (move.Plain 33 42 None) ≡ true
  -- castling: past an attacked square, out of check, with the rook attacked, and long with b1 attacked
  pub through_check : is_allowed (castling_past 61) (move.Castle false) ≡ false
  pub out_of_check : is_allowed (castling_past 60) (move.Castle false) ≡ false
  pub rook_attacked : is_allowed (castling_past 63) (move.Castle false) ≡ true
  pub long_past_b1 : is_allowed (castling_past 57) (move.Castle true) ≡ true
  pub long_past_d1 : is_allowed (castling_past 35) (move.Castle true) ≡ false
  pub black_castles : is_allowed black_long (move.Castle true) ≡ true
  pub black_rook : man_at (place_after Chess black_long.men Black (move.Castle true)) 59 ≡ unpromoted Black Rook
  -- Fischer random: king and rook exchange, the other rook is in the way, the king is there already, and castling takes
  -- the rook away that stood between the king and a queen
  pub exchange : is_allowed (position_after (Fischer 468) [] 1) (move.Castle false) ≡ true
  pub in_the_way : is_allowed (position_after (Fischer 0) [] 1) (move.Castle false) ≡ false
  pub on_g : is_allowed king_on_g (move.Castle false) ≡ true
  pub king_stays : man_at (place_after (Fischer 96) king_on_g.men White (move.Castle false)) 6 ≡ unpromoted White King
  pub rook_comes : man_at (place_after (Fischer 96) king_on_g.men White (move.Castle false)) 5 ≡ unpromoted White Rook
  pub unmasked : is_allowed (rook_beside (black Queen 0 ∷ [])) (move.Castle true) ≡ false
  pub not_unmasked : is_allowed (rook_beside []) (move.Castle true) ≡ true
  -- promotion: to a queen and not to a king, and not without a kind
  pub to_queen : is_allowed about_to_promote (move.Plain 48 56 (Some Queen)) ≡ true
  pub to_king : is_allowed about_to_promote (move.Plain 48 56 (Some King)) ≡ false
  pub to_nothing : is_allowed about_to_promote (move.Plain 48 56 None) ≡ false

pub record WordExamples : Type 0 where
  pub opening : word_answer start (from_to 12 28) ≡ Ok (move.Plain 12 28 None)
  pub knight_out : word_answer start (to_square Knight 21) ≡ Ok (move.Plain 6 21 None)
  pub castles_long : word_answer black_long (from_to 60 58) ≡ Ok (move.Castle true)
  pub named_file : word_answer two_knights (word.Named Knight (Some 2) None 12 None) ≡ Ok (move.Plain 18 12 None)
  pub queen_if_unsaid : word_answer about_to_promote (from_to 48 56) ≡ Ok (move.Plain 48 56 (Some Queen))
  pub drops : word_answer (pawn_in_hand []) (word.Drop Pawn 28) ≡ Ok (move.Drop Pawn 28)
  -- each refusal
  pub ambiguous : word_answer two_knights (to_square Knight 12) ≡ Err Ambiguous
  pub leaves_king : word_answer pinned_knight (to_square Knight 18) ≡ Err LeavesKing
  pub drop_leaves_king : word_answer (pawn_in_hand (black Rook 56 ∷ [])) (word.Drop Pawn 28) ≡ Err LeavesKing
  pub castle_forbidden : word_answer start (word.Castle false) ≡ Err CastleForbidden
  pub castle_forbidden_squares : word_answer (castling_past 60) (from_to 4 6) ≡ Err CastleForbidden
  pub no_drops : word_answer start (word.Drop Pawn 28) ≡ Err NoDrops
  pub not_in_hand : word_answer (pawn_in_hand []) (word.Drop Queen 28) ≡ Err NotInHand
  pub occupied : word_answer (pawn_in_hand []) (word.Drop Pawn 63) ≡ Err Occupied
  pub end_rank : word_answer (pawn_in_hand []) (word.Drop Pawn 59) ≡ Err EndRank
  pub no_piece : word_answer start (from_to 28 36) ≡ Err NoPiece
  pub no_piece_on_file : word_answer two_knights (word.Named Knight (Some 0) None 12 None) ≡ Err NoPiece
  pub cannot_reach : word_answer start (from_to 0 16) ≡ Err CannotReach
