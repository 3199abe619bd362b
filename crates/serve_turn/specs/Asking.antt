-- What is taken of an answer of the door.
use Rattle.edge_traits.specs.declared.doorway.Came.{Came}
use Rattle.edge_traits.specs.declared.doorway.Came.TheVariants as came
use Rattle.serve_turn.specs.declared.asking.Asked.{Asked}
use Rattle.serve_turn.specs.declared.asking.Asked.TheVariants.{Link, Quiet, Ended}
use Rattle.serve_turn.specs.declared.end.DoorEnd.TheVariants.{Closed, Failed, Spent}

-- the fact holds of the door's answer, of which this was taken: a closed door ends as closed and one that failed as
-- failed; that all links came is no answer of a door
abbrev pub OfAnswer : {L : Type 0} → Asked L → (Came L → Type 0) → Type 0
OfAnswer (Link link) P = P (came.Link link)
OfAnswer Quiet P = P came.Quiet
OfAnswer (Ended Closed) P = P came.Closed
OfAnswer (Ended Failed) P = P came.Failed
OfAnswer (Ended Spent) P = ⊥
