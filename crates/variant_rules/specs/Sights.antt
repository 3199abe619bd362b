-- What tells whether the kings of a colour are safe: the other colour's men, the occupied squares, and the kings.
use Rattle.std.specs.Prelude.{◌≡◌, length}
use Rattle.chess_model.specs.declared.man.Colour.{Colour}
use Rattle.chess_model.specs.Placement.{Placement, opposite}
use Rattle.bitboard_core.specs.Strikers.{IsOccupied, AreMenOf, AreKingsOf}
use Rattle.variant_rules.specs.declared.sights.Sights.{Sights}

-- the sets are those of the placement
pub record AreSightsOf (P : Placement) (c : Colour) (sights : Sights) : Type 0 where
  pub squares : length P ≡ 64
  pub enemies : AreMenOf P (opposite c) sights.enemies
  pub occupied : IsOccupied P sights.occupied
  pub kings : AreKingsOf P c sights.kings
