-- The door's answer that no further link comes, once workers were settled with, whatever its reason.
use Rattle.std.proofs.Common.{◌≡◌, ℕ, ◌<◌, ◌^◌, Bool, List, subst}
use Rattle.std.specs.declared.option.Option.{Option}
use Rattle.atomic_table.specs.Seated.{TableId}
use Rattle.edge_traits.specs.Calls.{Store}
use Rattle.edge_traits.specs.Door.{DoorTale, DoorGives, KeepsLinks, OnDoorFailed}
use Rattle.edge_traits.specs.Faults.{Rose}
use Rattle.edge_traits.specs.Link.{Tale}
use Rattle.edge_traits.specs.WhereTold.{WhereTold}
use Rattle.edge_traits.specs.declared.doorway.Answered.TheVariants as answered
use Rattle.edge_traits.specs.declared.doorway.Came.{Came}
use Rattle.edge_traits.specs.declared.doorway.Came.TheVariants as came
use Rattle.hall_core.specs.Pass.{PassState}
use Rattle.serve_turn.specs.Asking.{OfAnswer}
use Rattle.serve_turn.specs.declared.asking.Asked.TheVariants.{Ended}
use Rattle.serve_turn.specs.declared.end.DoorEnd.{DoorEnd}
use Rattle.serve_turn.specs.declared.end.DoorEnd.TheVariants.{Closed, Failed, Spent}
use Rattle.serve_turn.specs.declared.supply.Supply.{Supply}
use Rattle.serve_core.specs.Keeping.{KeepsLeft, Stopped, Underway}
use Rattle.serve_core.specs.Tending.{Stand, Tended, stand}
use Rattle.serve_core.specs.Working.{Due}
use Rattle.serve_core.proofs.Keeping.{kept_answered}
use Rattle.serve_core.proofs.Stopping.{stops_closed, stops_failed}
use Rattle.serve_core.proofs.Telling.{links_came, where_as}
use Rattle.serve_core.proofs.Tending.{door_then}

-- what that answer does to what the door tells
abbrev pub GivesEnd : {L : Type 0} → (L → Option Tale) → DoorEnd → Option DoorTale → Option DoorTale → Type 0
GivesEnd {L} tells end one two = OfAnswer (Ended end) (λ (answer : Came L). WhereTold one two (DoorGives tells answer))

pub ended_tended : {L : Type 0} (tells : L → Option Tale) (end : DoorEnd) (start : Stand) (pass : PassState)
    (supply : Supply) (door door' : Option DoorTale) (store : Store)
    → Tended start (stand pass supply door store) → GivesEnd tells end door door'
    → Tended start (stand pass supply door' store)
ended_tended tells Closed start pass supply door door' store so_far goes =
    door_then tells came.Closed start pass supply door door' store (λ none. none) so_far goes
ended_tended tells Failed start pass supply door door' store so_far goes =
    door_then tells came.Failed start pass supply door door' store (λ none. none) so_far goes
ended_tended tells Spent start pass supply door door' store so_far goes = absurd goes

pub ended_links : {L : Type 0} (tells : L → Option Tale) (end : DoorEnd) (one two three : Option DoorTale)
    → WhereTold one two KeepsLeft → GivesEnd tells end two three → WhereTold one three KeepsLinks
ended_links tells Closed one two three left goes = links_came tells came.Closed one two three left goes
ended_links tells Failed one two three left goes = links_came tells came.Failed one two three left goes
ended_links tells Spent one two three left goes = absurd goes

pub ended_stops : {L : Type 0} (tells : L → Option Tale) (end : DoorEnd) (one two : Option DoorTale)
    (count before mid now : ℕ)
    → GivesEnd tells end one two → OfAnswer (Ended end) (λ (answer : Came L). OnDoorFailed answer (Rose mid now))
    → mid ≡ before → count < 2 ^ 31 → Stopped end count two before now
ended_stops tells Closed one two count before mid now goes rose same few =
    ((stops_closed tells one two goes, few), λ bad. cc)
ended_stops tells Failed one two count before mid now goes rose same few =
    ((stops_failed tells one two goes, few), λ is. subst (λ (n : ℕ). Rose n now) same rose)
ended_stops tells Spent one two count before mid now goes rose same few = absurd goes

pub ended_kept : {C L : Type 0} (shows : C → ℕ → Bool) (hall : TableId) (clock : C) (supply : Supply)
    (tells : L → Option Tale) (end : DoorEnd) (door door' : Option DoorTale) (pass : PassState) (waiting : List (Due C))
    → Underway shows hall clock supply door pass waiting → GivesEnd tells end door door'
    → Underway shows hall clock supply door' pass waiting
ended_kept shows hall clock supply tells Closed door door' pass waiting k goes =
    kept_answered shows hall clock supply answered.Closed door door' pass waiting k
    (where_as door door' (DoorGives tells came.Closed) (λ a b. b ≡ record a { last = answered.Closed }) (λ a b e. e.1)
    goes)
ended_kept shows hall clock supply tells Failed door door' pass waiting k goes =
    kept_answered shows hall clock supply answered.Failed door door' pass waiting k goes
ended_kept shows hall clock supply tells Spent door door' pass waiting k goes = absurd goes
