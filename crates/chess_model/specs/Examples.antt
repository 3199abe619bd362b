-- Worked examples: what the definitions give in positions that everybody knows.
use Rattle.std.specs.Prelude.{◌≡◌, ℕ, true, false, List, [], ◌∷◌, Some, None}
use Rattle.chess_model.specs.declared.man.Colour.TheVariants.{White, Black}
use Rattle.chess_model.specs.declared.man.Kind.TheVariants.{Pawn, Rook, Queen, King}
use Rattle.chess_model.specs.declared.moves.Move.{Move}
use Rattle.chess_model.specs.declared.moves.Move.TheVariants.{Plain, Castle}
use Rattle.chess_model.specs.declared.variant.Variant.TheVariants.{Chess, Crazyhouse, Bughouse}
use Rattle.chess_model.specs.Placement.{Placement, man_at, unpromoted, array_of}
use Rattle.chess_model.specs.MoveList.{place_from, history}
use Rattle.chess_model.specs.Claims.{alone_on}
use Rattle.chess_model.specs.RightsAndCounts.{right_stands, en_passant_after, quiet_count}
use Rattle.chess_model.specs.Holdings.{count_in, hand_after}

-- a plain move without promotion
abbrev pub go : ℕ → ℕ → Move
go a b = Plain a b None

-- 1 e4
abbrev pub king_pawn : List Move
king_pawn = go 12 28 ∷ []

-- 1 e4 a6 2 e5 d5 3 exd6 en passant
abbrev pub passing : List Move
passing = go 12 28 ∷ go 48 40 ∷ go 28 36 ∷ go 51 35 ∷ go 36 43 ∷ []

-- 1 Nf3 Nf6 2 g3 g6 3 Bg2 Bg7
abbrev pub before_castling : List Move
before_castling = go 6 21 ∷ go 62 45 ∷ go 14 22 ∷ go 54 46 ∷ go 5 14 ∷ go 61 54 ∷ []

-- 4 Rg1 a6 5 Rh1 a5: the rook has come back
abbrev pub rook_returned : List Move
rook_returned =
    go 6 21 ∷ go 62 45 ∷ go 14 22 ∷ go 54 46 ∷ go 5 14 ∷ go 61 54 ∷ go 7 6 ∷ go 48 40 ∷ go 6 7 ∷ go 40 32 ∷ []

-- 1 a4 b5 2 axb5 a6 3 bxa6 h6 4 a7 h5 5 axb8=Q Rxb8
abbrev pub promoted_and_taken : List Move
promoted_and_taken =
    go 8 24 ∷ go 49 33 ∷ go 24 33 ∷ go 48 40 ∷ go 33 40 ∷ go 55 47 ∷ go 40 48 ∷ go 47 39 ∷ Plain 48 57 (Some Queen)
    ∷ go 56 57 ∷ []

-- 1 e4 d5 2 exd5
abbrev pub pawn_taken : List Move
pawn_taken = go 12 28 ∷ go 51 35 ∷ go 28 35 ∷ []

abbrev pub placed : List Move → Placement
placed ms = place_from Chess (array_of Chess) White ms

pub record WorkedExamples : Type 0 where
  pub array_king : man_at (array_of Chess) 4 ≡ unpromoted White King
  pub array_pawn : man_at (array_of Bughouse) 52 ≡ unpromoted Black Pawn
  pub pawn_on_e4 : man_at (placed king_pawn) 28 ≡ unpromoted White Pawn
  pub e3_passed : en_passant_after (history Chess (alone_on 1 king_pawn) 1) ≡ Some 20
  pub d5_empty : man_at (placed passing) 35 ≡ None
  pub quiet_bishops : quiet_count (history Chess (alone_on 1 before_castling) 1) ≡ 2
  pub castled_rook : man_at (place_from Chess (placed before_castling) White (Castle false ∷ [])) 5
      ≡ unpromoted White Rook
  pub right_gone : right_stands Chess (history Chess (alone_on 1 rook_returned) 1) White false ≡ false
  pub right_left : right_stands Chess (history Chess (alone_on 1 rook_returned) 1) White true ≡ true
  pub queen_as_pawn : hand_after Crazyhouse (alone_on 1 promoted_and_taken) 1 Black ≡
      record { pawns = 1; knights = 0; bishops = 0; rooks = 0; queens = 0 }
  pub partner_gets_pawn : count_in (hand_after Bughouse (alone_on 1 pawn_taken) 2 Black) Pawn ≡ 1
  pub taker_gets_none : count_in (hand_after Bughouse (alone_on 1 pawn_taken) 1 White) Pawn ≡ 0
