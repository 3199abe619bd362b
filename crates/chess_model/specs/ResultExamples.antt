-- Worked examples: mates, stalemates, claims, and how many half-moves are allowed.
use Rattle.std.specs.Prelude.{◌≡◌, ℕ, true, false, List, [], ◌∷◌, length, Option, Some, None}
use Rattle.chess_model.specs.declared.hand.Hand.{Hand}
use Rattle.chess_model.specs.declared.man.Colour.TheVariants.{White, Black}
use Rattle.chess_model.specs.declared.man.Kind.TheVariants.{Pawn, Knight, Rook, Queen, King}
use Rattle.chess_model.specs.declared.moves.Move.{Move}
use Rattle.chess_model.specs.declared.states.State.TheVariants.{Safe, Check, Mate, Stalemate}
use Rattle.chess_model.specs.declared.variant.Variant.{Variant}
use Rattle.chess_model.specs.declared.variant.Variant.TheVariants.{Chess, Crazyhouse, Bughouse}
use Rattle.chess_model.specs.Position.{Position, position_after}
use Rattle.chess_model.specs.Claims.{alone_on}
use Rattle.chess_model.specs.Examples.{go}
use Rattle.chess_model.specs.WordExamples.{StandingMan, white, black, board, start, empty_hand}
use Rattle.chess_model.specs.AllMoves.{allowed_moves}
use Rattle.chess_model.specs.Result.{result}
use Rattle.chess_model.specs.Claims.{same_position, is_threefold}

-- 1 f3 e5 2 g4 Qh4
abbrev pub fools_mate : Position
fools_mate = position_after Chess (alone_on 1 (go 13 21 ∷ go 52 36 ∷ go 14 30 ∷ go 59 31 ∷ [])) 1

-- White: Kh1, pawns g2 and h2; Black: Ka8, a rook on e1 that gives check along the rank
abbrev pub back_rank_check : Variant → Hand → Position
back_rank_check v hand =
    board v White None hand (white King 7 ∷ white Pawn 14 ∷ white Pawn 15 ∷ black Rook 4 ∷ black King 56 ∷ [])

-- White: Kh1, Rg1, pawns g2 and h2; Black: Ka8, a knight on f2 that gives check
abbrev pub smothered : Position
smothered =
    board Bughouse White None empty_hand
    (white King 7 ∷ white Rook 6 ∷ white Pawn 14 ∷ white Pawn 15 ∷ black Knight 13 ∷ black King 56 ∷ [])

-- Black: Kh8; White: Kf6, Qg6
abbrev pub cornered : Variant → Position
cornered v = board v Black None empty_hand (black King 63 ∷ white King 45 ∷ white Queen 46 ∷ [])

abbrev pub hand_with : ℕ → ℕ → Hand
hand_with pawns knights = record { pawns = pawns; knights = knights; bishops = 0; rooks = 0; queens = 0 }

-- 1 Nf3 Nf6 2 Ng1 Ng8 3 Nf3 Nf6 4 Ng1
abbrev pub knights_out_and_back : List Move
knights_out_and_back = go 6 21 ∷ go 62 45 ∷ go 21 6 ∷ go 45 62 ∷ go 6 21 ∷ go 62 45 ∷ go 21 6 ∷ []

-- the same with 4 .. Ng8, which makes the position of the start stand for the third time
abbrev pub third_time : List Move
third_time = go 6 21 ∷ go 62 45 ∷ go 21 6 ∷ go 45 62 ∷ go 6 21 ∷ go 62 45 ∷ go 21 6 ∷ go 45 62 ∷ []

-- White: Kh1, Pe4; Black: Kh8, and some more men; the en passant square e3 or none
abbrev pub pawn_on_e4 : Option ℕ → List StandingMan → Position
pawn_on_e4 en_passant more =
    board Chess Black en_passant empty_hand (white King 7 ∷ white Pawn 28 ∷ black King 63 ∷ more)

pub record ResultExamples : Type 0 where
  pub start_safe : result start ≡ Safe
  pub mated : result fools_mate ≡ Mate
  pub stalemated : result (cornered Chess) ≡ Stalemate
  pub crazyhouse_stalemated : result (cornered Crazyhouse) ≡ Stalemate
  -- in bughouse such a player waits
  pub bughouse_waits : result (cornered Bughouse) ≡ Safe
  pub back_rank_mate : result (back_rank_check Chess empty_hand) ≡ Mate
  -- a pawn can't be dropped on the first rank, a knight can
  pub pawn_no_help : result (back_rank_check Crazyhouse (hand_with 1 0)) ≡ Mate
  pub knight_helps : result (back_rank_check Crazyhouse (hand_with 0 1)) ≡ Check
  -- in bughouse a man may come, but none helps against a knight
  pub man_may_come : result (back_rank_check Bughouse empty_hand) ≡ Check
  pub none_helps : result smothered ≡ Mate
  pub twenty_moves : length (allowed_moves start) ≡ 20

pub record ClaimExamples : Type 0 where
  pub twice : is_threefold Chess (alone_on 1 knights_out_and_back) 1 ≡ false
  pub thrice : is_threefold Chess (alone_on 1 third_time) 1 ≡ true
  -- the square e3 counts where a black pawn may take on it
  pub uncounted : same_position (pawn_on_e4 (Some 20) []) (pawn_on_e4 None []) ≡ true
  pub counted : same_position (pawn_on_e4 (Some 20) (black Pawn 27 ∷ [])) (pawn_on_e4 None (black Pawn 27 ∷ [])) ≡ false
