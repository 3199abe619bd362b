-- What the calls of a door do to what it tells.
use Rattle.std.specs.Prelude.{◌≡◌, ◌≢◌, ℕ, ◌+◌, ◌<◌, ◌≤◌, ⊤, List, [], ◌∷◌, ◌++◌, length, IfSome}
use Rattle.std.specs.declared.option.Option.{Option}
use Rattle.edge_traits.specs.Link.{Handed, Tale, IsFresh}
use Rattle.edge_traits.specs.declared.doorway.Answered.{Answered}
use Rattle.edge_traits.specs.declared.doorway.Answered.TheVariants as answered
use Rattle.edge_traits.specs.declared.doorway.Came.{Came}
use Rattle.edge_traits.specs.declared.doorway.Came.TheVariants.{Link, Quiet, Closed, Failed}

-- what a door tells: the links that it has left to give, each as what it tells; those that came, in their order, as
-- what they told when they came; those that came back, each with its number and as it was handed back; how many Quiets
-- the door gave; and what it answered last
pub record DoorTale : Type 0 where
  pub left : List (Option Tale)
  pub came : List (Option Tale)
  pub back : List (ℕ × Handed)
  pub quiets : ℕ
  pub last : Answered

-- what an answer of a door, whose links tell this, does to what it tells
abbrev pub DoorGives : {L : Type 0} → (L → Option Tale) → Came L → DoorTale → DoorTale → Type 0
DoorGives tells (Link link) old new =
    (old.left ≡ tells link ∷ new.left)
    × (new ≡ record old { left = new.left; came = old.came ++ tells link ∷ []; last = answered.Link })
DoorGives tells Quiet old new = new ≡ record old { quiets = old.quiets + 1; last = answered.Quiet }
DoorGives tells Closed old new = (old.left ≡ []) × (new ≡ record old { last = answered.Closed })
DoorGives tells Failed old new = new ≡ record old { last = answered.Failed }

-- the fact holds of a link that came
abbrev pub IfCame : {L : Type 0} → Came L → (L → Type 0) → Type 0
IfCame (Link link) P = P link
IfCame answer P = ⊤

-- a link is new: no fault was counted, and where it tells, nothing was read or written and it isn't closed
abbrev pub IsNew : ℕ → Option Tale → Type 0
IsNew faults tale = (faults ≡ 0) × IfSome tale IsFresh

-- the number is that of a link which came, and some link didn't come back yet
abbrev pub IsOut : ℕ → DoorTale → Type 0
IsOut number tale = (number ≢ 0) × (number ≤ length tale.came) × (length tale.back < length tale.came)

-- a link, handed back like this, came back under its number
abbrev pub TakesBack : ℕ → Handed → DoorTale → DoorTale → Type 0
TakesBack number link old new = new ≡ record old { back = old.back ++ (number, link) ∷ [] }

-- a door gives its links in their order, and each once: what it had left is what came since, and then what it has left
abbrev pub KeepsLinks : DoorTale → DoorTale → Type 0
KeepsLinks old new = old.came ++ old.left ≡ new.came ++ new.left

-- the fact holds where the door failed
abbrev pub OnDoorFailed : {L : Type 0} → Came L → Type 0 → Type 0
OnDoorFailed Failed P = P
OnDoorFailed answer P = ⊤
