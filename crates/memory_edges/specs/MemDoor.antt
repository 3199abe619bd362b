-- A door in memory: the links that it is to give, those that came, and those that came back.
use Rattle.std.specs.Prelude.{ℕ, List, [], ◌∷◌, map, Some}
use Rattle.std.specs.declared.option.Option.{Option}
use Rattle.memory_edges.specs.Plan.{Plan}
use Rattle.edge_traits.specs.Link.{Handed, Tale}
use Rattle.memory_edges.specs.Wire.{Wire}
use Rattle.edge_traits.specs.Door.{DoorTale, IsNew}

-- what a door in memory tells, and its plan of faults
pub record MemDoorState : Type 0 where
  pub tale : DoorTale
  pub plan : Plan

-- what each of the links tells
abbrev pub told_by : List Wire → List (Option Tale)
told_by links = map (λ link. Some link.tale) links

-- a link as it is handed back
abbrev pub handed : Wire → Handed
handed link = record { tale = Some link.tale; faults = link.plan.faults }

-- each of the links with its number, as it was handed back
abbrev pub numbered : List Wire → List (ℕ × Handed)
numbered links = map (λ link. (link.number, handed link)) links

-- each of the links is new
abbrev pub AreNew : List Wire → Type 0
AreNew [] = Unit {0}
AreNew (link ∷ links) = IsNew link.plan.faults (Some link.tale) × AreNew links
