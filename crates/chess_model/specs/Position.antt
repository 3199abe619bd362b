-- What a board shows of the list of half-moves that led to it.
use Rattle.std.specs.Prelude.{◌≡◌, ℕ, ◌≤◌, min, Option, List}
use Rattle.chess_model.specs.declared.man.Colour.{Colour}
use Rattle.chess_model.specs.declared.man.Colour.TheVariants.{White, Black}
use Rattle.chess_model.specs.declared.man.Kind.{Kind}
use Rattle.chess_model.specs.declared.hand.Hand.{Hand}
use Rattle.chess_model.specs.declared.rights.Rights.{Rights}
use Rattle.chess_model.specs.declared.variant.Variant.{Variant}
use Rattle.chess_model.specs.Placement.{Placement, array_of}
use Rattle.chess_model.specs.MoveList.{HalfMove, moves_of, place_from, side_from, history}
use Rattle.chess_model.specs.RightsAndCounts.{rights_after, en_passant_after, quiet_count}
use Rattle.chess_model.specs.Holdings.{gained, spent, hand_after}

-- what the rules of the next half-move depend on
pub record Position : Type 0 where
  pub variant : Variant
  pub men : Placement
  pub to_move : Colour
  -- the en passant square
  pub en_passant : Option ℕ
  pub rights : Rights
  -- quiet half-moves, counted to 65,535
  pub quiet : ℕ
  pub white : Hand
  pub black : Hand

-- the position of board b after a list of half-moves
abbrev pub position_after : Variant → List HalfMove → ℕ → Position
position_after v T b = record {
  variant = v;
  men = place_from v (array_of v) White (moves_of b T);
  to_move = side_from White (moves_of b T);
  en_passant = en_passant_after (history v T b);
  rights = rights_after v (history v T b);
  quiet = min (quiet_count (history v T b)) 65535;
  white = hand_after v T b White;
  black = hand_after v T b Black;
}

-- a position is that of board b after the list T, in which nobody dropped more than came into the hand
pub record Stands (p : Position) (T : List HalfMove) (b : ℕ) : Type 0 where
  pub same : p ≡ position_after p.variant T b
  pub paid : (c : Colour) (k : Kind) → spent p.variant T b c k ≤ gained p.variant T b c k

-- the hand of a colour
abbrev pub hand_of_side : Position → Colour → Hand
hand_of_side p White = p.white
hand_of_side p Black = p.black
