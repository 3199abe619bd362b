-- A link in memory: the steps that it gives, one after another.
use Rattle.std.specs.Prelude.{◌≡◌, ℕ, ◌+◌, ◌^◌, ◌<◌, ◌≤◌, List, [], ◌∷◌, ◌++◌, length, map, take, drop}
use Rattle.memory_edges.specs.Plan.{Plan}
use Rattle.edge_traits.specs.Link.{Sign, Byte, Pause, Tale}
use Rattle.memory_edges.specs.declared.steps.LinkStep.{LinkStep}
use Rattle.memory_edges.specs.declared.steps.LinkStep.TheVariants.{Piece, Quiet}
use Rattle.memory_edges.specs.declared.steps.Spot.{Spot}
use Rattle.memory_edges.specs.declared.steps.Look.{Look}
use Rattle.memory_edges.specs.declared.steps.Look.TheVariants.{Gives, Pauses, Passes, Ends}

-- what the steps give, whatever the pieces' borders
abbrev pub signs_in : List LinkStep → List Sign
signs_in [] = []
signs_in (Piece bytes ∷ steps) = map Byte bytes.items ++ signs_in steps
signs_in (Quiet ∷ steps) = Pause ∷ signs_in steps

-- what the first n bytes of the first step are, where it's a piece
abbrev pub front_of : ℕ → List LinkStep → List Sign
front_of n [] = []
front_of n (Piece bytes ∷ steps) = map Byte (take n bytes.items)
front_of n (Quiet ∷ steps) = []

-- what is left of the steps without these bytes
abbrev pub rest_of_wire : ℕ → List LinkStep → List Sign
rest_of_wire n [] = []
rest_of_wire n (Piece bytes ∷ steps) = map Byte (drop n bytes.items) ++ signs_in steps
rest_of_wire n (Quiet ∷ steps) = Pause ∷ signs_in steps

-- what was taken up to a spot, and what is left from there
abbrev pub taken_at : List LinkStep → Spot → List Sign
taken_at steps spot = signs_in (take spot.step steps) ++ front_of spot.offset (drop spot.step steps)

abbrev pub left_at : List LinkStep → Spot → List Sign
left_at steps spot = rest_of_wire spot.offset (drop spot.step steps)

-- a link in memory: what it tells, its plan of faults, and the number under which a door keeps it
pub record Wire : Type 0 where
  pub tale : Tale
  pub plan : Plan
  pub number : ℕ

-- what a piece gives behind its first bytes: nothing more, or bytes with which the buffer now begins
abbrev pub IsSeenIn : Look → List ℕ → ℕ → List ℕ → Type 0
IsSeenIn (Gives n) bytes offset buf =
    (0 < n) × (n ≤ length buf) × (take n buf ≡ take n (drop offset bytes)) × (offset + n < 2 ^ 64)
IsSeenIn Passes bytes offset buf = length bytes ≤ offset
IsSeenIn Pauses bytes offset buf = ⊥
IsSeenIn Ends bytes offset buf = ⊥

-- what the first of the steps gives behind its first bytes
abbrev pub IsSeen : Look → List LinkStep → ℕ → List ℕ → Type 0
IsSeen Ends [] offset buf = Unit {0}
IsSeen Pauses (Quiet ∷ steps) offset buf = Unit {0}
IsSeen look (Piece bytes ∷ steps) offset buf = IsSeenIn look bytes.items offset buf
IsSeen look steps offset buf = ⊥
