-- How each man moves and what it strikes (FIDE Laws 3.1 to 3.8.1).
use Rattle.std.specs.Prelude.{◌≡◌, ℕ, ◌+◌, ◌<◌, ◌≢◌, ◌⊎◌, Option, Some, None, ⊤}
use Rattle.chess_model.specs.declared.man.Colour.{Colour}
use Rattle.chess_model.specs.declared.man.Colour.TheVariants.{White, Black}
use Rattle.chess_model.specs.declared.man.Kind.{Kind}
use Rattle.chess_model.specs.declared.man.Kind.TheVariants.{Pawn, Knight, Bishop, Rook, Queen, King}
use Rattle.chess_model.specs.Squares.{rank_of, files_apart, ranks_apart, distance, along}
use Rattle.chess_model.specs.Placement.{Placement, man_at, opposite, IsHeldBy, second_rank}

-- b is n ranks before a, seen by that colour
abbrev pub IsForward : Colour → ℕ → ℕ → ℕ → Type 0
IsForward White n a b = rank_of b ≡ rank_of a + n
IsForward Black n a b = rank_of a ≡ rank_of b + n

-- two squares of one file or one rank (FIDE 3.3)
abbrev pub IsStraight : ℕ → ℕ → Type 0
IsStraight a b = (a ≢ b) × ((files_apart a b ≡ 0) ⊎ (ranks_apart a b ≡ 0))

-- two squares of one diagonal (FIDE 3.2)
abbrev pub IsDiagonal : ℕ → ℕ → Type 0
IsDiagonal a b = (a ≢ b) × (files_apart a b ≡ ranks_apart a b)

-- the step of a knight: one square along one line and two along the other (FIDE 3.6)
abbrev pub IsKnightStep : ℕ → ℕ → Type 0
IsKnightStep a b = ((files_apart a b ≡ 1) × (ranks_apart a b ≡ 2)) ⊎ ((files_apart a b ≡ 2) × (ranks_apart a b ≡ 1))

-- b lies where a man of that colour and kind on a strikes on an empty board
unfoldable pub IsStep : Colour → Kind → ℕ → ℕ → Type 0
IsStep c Pawn a b = (files_apart a b ≡ 1) × IsForward c 1 a b
IsStep c Knight a b = IsKnightStep a b
IsStep c Bishop a b = IsDiagonal a b
IsStep c Rook a b = IsStraight a b
IsStep c Queen a b = IsStraight a b ⊎ IsDiagonal a b
IsStep c King a b = distance a b ≡ 1

-- the squares between a and b are empty
pub record Clear (P : Placement) (a b : ℕ) : Type 0 where
  pub empty : (k : ℕ) → 0 < k → k < distance a b → man_at P (along a b k) ≡ None

-- no man stands in the way; nothing is in a knight's way (FIDE 3.5, 3.6)
abbrev pub IsOpen : Kind → Placement → ℕ → ℕ → Type 0
IsOpen Knight P a b = ⊤
IsOpen Pawn P a b = Clear P a b
IsOpen Bishop P a b = Clear P a b
IsOpen Rook P a b = Clear P a b
IsOpen Queen P a b = Clear P a b
IsOpen King P a b = Clear P a b

-- a man of that colour and kind on a strikes b
pub record Strikes (P : Placement) (c : Colour) (k : Kind) (a b : ℕ) : Type 0 where
  pub step : IsStep c k a b
  pub open_way : IsOpen k P a b

-- the next square ahead, or the one after it from the second rank (FIDE 3.7.1, 3.7.2)
abbrev pub IsAhead : Colour → ℕ → ℕ → Type 0
IsAhead c a b = IsForward c 1 a b ⊎ (IsForward c 2 a b × (rank_of a ≡ second_rank c))

-- a pawn goes forward to the next square, or over it from its second rank, where these are empty (FIDE 3.7.1, 3.7.2)
pub record Advances (P : Placement) (c : Colour) (a b : ℕ) : Type 0 where
  pub file : files_apart a b ≡ 0
  pub ahead : IsAhead c a b
  pub way : Clear P a b
  pub free : man_at P b ≡ None

-- a pawn takes an enemy man diagonally ahead, or the pawn that has just passed that square (FIDE 3.7.3)
pub record PawnTakes (P : Placement) (en_passant : Option ℕ) (c : Colour) (a b : ℕ) : Type 0 where
  pub step : IsStep c Pawn a b
  pub enemy : IsHeldBy (opposite c) (man_at P b) ⊎ (en_passant ≡ Some b)

-- any other man goes where it strikes and no own man stands (FIDE 3.1)
pub record Goes (P : Placement) (c : Colour) (k : Kind) (a b : ℕ) : Type 0 where
  pub strikes : Strikes P c k a b
  pub not_own : ¬ IsHeldBy c (man_at P b)

-- a man of that colour and kind on a reaches b; `en_passant` is the en passant square
abbrev pub Reaches : Placement → Option ℕ → Colour → Kind → ℕ → ℕ → Type 0
Reaches P en_passant c Pawn a b = Advances P c a b ⊎ PawnTakes P en_passant c a b
Reaches P en_passant c Knight a b = Goes P c Knight a b
Reaches P en_passant c Bishop a b = Goes P c Bishop a b
Reaches P en_passant c Rook a b = Goes P c Rook a b
Reaches P en_passant c Queen a b = Goes P c Queen a b
Reaches P en_passant c King a b = Goes P c King a b
