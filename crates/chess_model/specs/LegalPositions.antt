-- What holds in every position that a legal list of half-moves leads to.
use Rattle.std.specs.Prelude.{◌≡◌, ◌≢◌, ℕ, ◌+◌, ◌-◌, ◌%◌, ◌<◌, Bool, true, false, IsTrue, List, [], ◌∷◌, ◌++◌, count_by, Option, Some, None, length, slice_index_or}
use Rattle.chess_model.specs.declared.man.Colour.{Colour}
use Rattle.chess_model.specs.declared.man.Colour.TheVariants.{White, Black}
use Rattle.chess_model.specs.declared.man.Kind.{Kind}
use Rattle.chess_model.specs.declared.man.Kind.TheVariants.{Pawn, Rook, King}
use Rattle.chess_model.specs.declared.man.Man.{Man}
use Rattle.chess_model.specs.declared.moves.Move.{Move}
use Rattle.chess_model.specs.declared.moves.Move.TheVariants.{Plain}
use Rattle.chess_model.specs.declared.variant.Variant.{Variant}
use Rattle.chess_model.specs.Squares.{file_of, rank_of}
use Rattle.chess_model.specs.Men.{is_held_as}
use Rattle.chess_model.specs.Placement.{Placement, man_at, opposite, IsHeldAs, unpromoted, home_rank, array_of, king_home, rook_home}
use Rattle.chess_model.specs.Attacked.{IsKingSafe}
use Rattle.chess_model.specs.MoveList.{HalfMove, Ply, taken, history}
use Rattle.chess_model.specs.Position.{Position, position_after}
use Rattle.chess_model.specs.Allowed.{right_of, Allowed, IsLegal}

-- the square on which a pawn of that colour stands after it passed s by a double push
abbrev pub behind : Colour → ℕ → ℕ
behind White s = s + 8
behind Black s = s - 8

-- a pawn of that colour has just passed s: it stands behind s, which is empty
pub record HasPassed (P : Placement) (c : Colour) (s : ℕ) : Type 0 where
  pub empty : man_at P s ≡ None
  pub pawn : IsHeldAs c Pawn (man_at P (behind c s))

-- a king and a rook stand on their homes
pub record AreAtHome (v : Variant) (P : Placement) (c : Colour) (long : Bool) : Type 0 where
  pub king : IsHeldAs c King (man_at P (king_home v c))
  pub rook : IsHeldAs c Rook (man_at P (rook_home v c long))

pub record IsSound (p : Position) : Type 0 where
  pub squares : length p.men ≡ 64
  -- each colour has one king
  pub one_king : (c : Colour) → count_by (is_held_as c King) p.men ≡ 1
  -- the side that isn't to move isn't in check
  pub other_safe : IsKingSafe p.men (opposite p.to_move)
  -- where a right stands, king and rook stand on their homes
  pub rights : (c : Colour) (long : Bool) → IsTrue (right_of p.rights c long) → AreAtHome p.variant p.men c long
  -- the en passant square is empty, and an enemy pawn stands behind it
  pub passed : (s : ℕ) → p.en_passant ≡ Some s → HasPassed p.men (opposite p.to_move) s

-- an enemy man that isn't a king
pub record IsPrey (p : Position) (man : Man) : Type 0 where
  pub enemy : man.colour ≡ opposite p.to_move
  pub no_king : man.kind ≢ King

-- a pawn of the side to move goes from a to the en passant square b, which is on another file
pub record IsPassing (p : Position) (a b : ℕ) : Type 0 where
  pub pawn : IsHeldAs p.to_move Pawn (man_at p.men a)
  pub square : p.en_passant ≡ Some b
  pub files : file_of a ≢ file_of b

-- what a plain move from a to b does: the man leaves a and stands on b, or there stands what the pawn became; a pawn
-- that goes to the en passant square takes the pawn behind it; every other square is as before
pub record MovesAMan (p : Position) (a b : ℕ) (promo : Option Kind) (Q : Placement) : Type 0 where
  pub leaves : man_at Q a ≡ None
  pub arrives : promo ≡ None → man_at Q b ≡ man_at p.men a
  pub becomes : (k : Kind) → promo ≡ Some k → man_at Q b
      ≡ Some (record { colour = p.to_move; kind = k; promoted = true })
  pub passes : IsPassing p a b → man_at Q (behind (opposite p.to_move) b) ≡ None
  pub others : (s : ℕ) → s ≢ a → s ≢ b → (IsPassing p a b → s ≢ behind (opposite p.to_move) b) → man_at Q s
      ≡ man_at p.men s

pub record LegalPositionsAreSound : Type 0 where
  pub sound : (v : Variant) (T : List HalfMove) (b : ℕ) → IsLegal v T → IsSound (position_after v T b)
  -- a capture takes an enemy man, and never a king
  pub captures : (v : Variant) (T : List HalfMove) (b : ℕ) (m : Move) → IsLegal v T → Allowed (position_after v T b) m →
      (man : Man) → taken (position_after v T b).men m ≡ Some man → IsPrey (position_after v T b) man
  pub plain_moves : (v : Variant) (T : List HalfMove) (n a b : ℕ) (promo : Option Kind) → IsLegal v T →
      Allowed (position_after v T n) (Plain a b promo) →
      MovesAMan (position_after v T n) a b promo
      (position_after v (T ++ record { board = n; what = Plain a b promo } ∷ []) n).men

-- a half-move of another board leaves the men of this one, who is to move there, its en passant square and its rights
-- as they were
pub record IsAsBefore (p q : Position) : Type 0 where
  pub men : q.men ≡ p.men
  pub to_move : q.to_move ≡ p.to_move
  pub en_passant : q.en_passant ≡ p.en_passant
  pub rights : q.rights ≡ p.rights
  pub quiet : q.quiet ≡ p.quiet

abbrev pub OtherBoardStays : Type 0
OtherBoardStays = (v : Variant) (T : List HalfMove) (h : HalfMove) (b : ℕ) → h.board ≢ b →
    IsAsBefore (position_after v T b) (position_after v (T ++ h ∷ []) b)

-- of the half-moves of a board, counted from 0, those with an even number are White's and the others Black's
pub record ColoursAlternate : Type 0 where
  pub even : (v : Variant) (T : List HalfMove) (b k : ℕ) (x : Ply) → k < length (history v T b) → k % 2 ≡ 0 →
      (slice_index_or (history v T b) k x).by ≡ White
  pub odd : (v : Variant) (T : List HalfMove) (b k : ℕ) (x : Ply) → k < length (history v T b) → k % 2 ≡ 1 →
      (slice_index_or (history v T b) k x).by ≡ Black

-- a man of the array that isn't promoted stands on each home, the rook for long castling on the lesser file
pub record HomesAreInTheArray : Type 0 where
  pub king : (v : Variant) (c : Colour) → man_at (array_of v) (king_home v c) ≡ unpromoted c King
  pub rook : (v : Variant) (c : Colour) (long : Bool) → man_at (array_of v) (rook_home v c long) ≡ unpromoted c Rook
  pub order : (v : Variant) (c : Colour) → (rook_home v c true < king_home v c) × (king_home v c < rook_home v c false)
  pub rank : (v : Variant) (c : Colour) → rank_of (king_home v c) ≡ home_rank c
