-- What sets of men say of a placement that they stand for.
use Rattle.std.specs.Prelude.{ℕ, ◌+◌, ◌<◌, ◌↔◌, Bool, false, nat_eq, is_some, slice_index, Option, Some, None}
use Rattle.chess_model.specs.declared.man.Colour.{Colour}
use Rattle.chess_model.specs.declared.man.Colour.TheVariants.{White, Black}
use Rattle.chess_model.specs.declared.man.Kind.{Kind}
use Rattle.chess_model.specs.declared.man.Kind.TheVariants.{Pawn, Knight, Bishop, Rook, Queen, King}
use Rattle.chess_model.specs.declared.man.Man.{Man}
use Rattle.chess_model.specs.AllMoves.{kind_place}
use Rattle.chess_model.specs.Placement.{Placement}
use Rattle.chess_model.specs.Reach.{Strikes, Advances, Reaches}
use Rattle.chess_model.specs.Attacked.{StrikesFrom}
use Rattle.bitboard_core.specs.declared.bits.BitSets.{BitSets}
use Rattle.bitboard_core.specs.declared.sides.Side.{Side}
use Rattle.bitboard_core.specs.Sets.{Has, IsSetOf}

-- the place of the men of a colour and kind among the twelve sets: White's P N B R Q K, then Black's
abbrev pub side_place : Colour → ℕ
side_place White = 0
side_place Black = 6

abbrev pub man_place : Colour → Kind → ℕ
man_place c k = side_place c + kind_place k

-- whether a man stands there whose set has that place
abbrev pub is_placed : ℕ → Option Man → Bool
is_placed i None = false
is_placed i (Some m) = nat_eq (man_place m.colour m.kind) i

-- whether a promoted man stands there
abbrev pub is_promoted : Option Man → Bool
is_promoted None = false
is_promoted (Some m) = m.promoted

-- the set has the squares on which a man stands
abbrev pub IsOccupied : Placement → ℕ → Type 0
IsOccupied P set = IsSetOf is_some P set

-- the sets have the men of one colour, by kind
pub record AreMenOf (P : Placement) (c : Colour) (side : Side) : Type 0 where
  pub pawns : IsSetOf (is_placed (man_place c Pawn)) P side.pawns
  pub knights : IsSetOf (is_placed (man_place c Knight)) P side.knights
  pub bishops : IsSetOf (is_placed (man_place c Bishop)) P side.bishops
  pub rooks : IsSetOf (is_placed (man_place c Rook)) P side.rooks
  pub queens : IsSetOf (is_placed (man_place c Queen)) P side.queens
  pub kings : IsSetOf (is_placed (man_place c King)) P side.kings

-- the set has the squares of a colour's kings
abbrev pub AreKingsOf : Placement → Colour → ℕ → Type 0
AreKingsOf P c kings = IsSetOf (is_placed (man_place c King)) P kings

-- the set has the squares that a man of that colour and kind on a strikes
pub record IsStruckSet (P : Placement) (c : Colour) (k : Kind) (a set : ℕ) : Type 0 where
  pub each : (t : ℕ) → t < 64 → Has set t ↔ Strikes P c k a t

-- the set has the squares of the men of a colour that strike s
pub record IsStrikerSet (P : Placement) (c : Colour) (s set : ℕ) : Type 0 where
  pub each : (a : ℕ) → a < 64 → Has set a ↔ StrikesFrom P c a s

-- the set has the squares that a man of that colour and kind on a reaches, en passant aside
pub record IsReachSet (P : Placement) (c : Colour) (k : Kind) (a set : ℕ) : Type 0 where
  pub each : (t : ℕ) → t < 64 → Has set t ↔ Reaches P None c k a t

-- the man, if there is one, has this set as what it reaches
abbrev pub IsReachOf : Placement → ℕ → ℕ → Option Man → Type 0
IsReachOf P a set None = ⊥
IsReachOf P a set (Some m) = IsReachSet P m.colour m.kind a set

-- the set has the squares to which a pawn of that colour on a may push
pub record IsPushSet (P : Placement) (c : Colour) (a set : ℕ) : Type 0 where
  pub each : (t : ℕ) → t < 64 → Has set t ↔ Advances P c a t

-- a set for each colour and kind, one for the promoted men and one for all
pub record AreSetsOf (P : Placement) (sets : BitSets) : Type 0 where
  pub men : (c : Colour) (k : Kind) → IsSetOf (is_placed (man_place c k)) P (slice_index sets.men (man_place c k))
  pub promoted : IsSetOf is_promoted P sets.promoted
  pub occupied : IsOccupied P sets.occupied
