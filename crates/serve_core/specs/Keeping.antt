-- What holds while the door's thread takes links and joins workers.
use Rattle.std.specs.Prelude.{◌≡◌, ◌≢◌, ℕ, ◌+◌, ◌<◌, ◌≤◌, ◌⊎◌, Bool, List, [], ◌∷◌, ◌++◌, length, map, IfSome}
use Rattle.std.specs.declared.option.Option.{Option}
use Rattle.atomic_table.specs.Seated.{TableId}
use Rattle.edge_traits.specs.Faults.{Rose}
use Rattle.edge_traits.specs.Link.{IsFresh, Tale}
use Rattle.edge_traits.specs.Door.{DoorTale}
use Rattle.edge_traits.specs.declared.doorway.Answered.TheVariants as answered
use Rattle.turn_table.specs.declared.view.Joined.{Joined}
use Rattle.turn_table.specs.Views.{In, joined_number}
use Rattle.one_server.specs.declared.act.Timed.{Timed}
use Rattle.one_server.specs.declared.reply.Reply.{Reply}
use Rattle.hall_core.specs.Pass.{PassState}
use Rattle.link_core.specs.declared.link_end.LinkEnd.{LinkEnd}
use Rattle.link_core.specs.declared.link_end.LinkEnd.TheVariants as link_end
use Rattle.serve_turn.specs.declared.end.DoorEnd.{DoorEnd}
use Rattle.serve_turn.specs.declared.end.DoorEnd.TheVariants as door_end
use Rattle.serve_turn.specs.declared.supply.Supply.{Supply}
use Rattle.serve_turn.specs.declared.supply.Supply.TheVariants.{Short}
use Rattle.serve_core.specs.Sessions.{CameAs, HadSession}
use Rattle.serve_turn.specs.Stopping.{IsDoorStopped}
use Rattle.serve_core.specs.Working.{Due}

-- whether memory ran out somewhere, once a link was served that ended like this
abbrev pub supply_after : LinkEnd → Supply → Supply
supply_after link_end.Memory before = Short
supply_after end before = before

abbrev pub due_number : {C : Type 0} → Due C → ℕ
due_number due = due.pass.number

module _ {C : Type 0} (shows : C → ℕ → Bool) (hall : TableId) (clock : C) where
  -- a worker's pass is a new one of this hall, its link is the one that came, fresh, under the pass's number, and its
  -- clock is this one
  pub record IsOwed (door : Option DoorTale) (due : Due C) : Type 0 where
    pub home : due.pass.home ≡ hall
    pub number : due.pass.number ≢ 0
    pub same : due.clock ≡ clock
    pub fresh : IfSome due.link IsFresh
    pub came : IfSome door (CameAs due.pass.number due.link)

  -- The pass is the hall's first one. Each number that was split from it is that of a pass which was joined and has
  -- served its link, or of a worker that is waited for; links came as many as there are such numbers, and those that
  -- didn't come back are as many as the workers
  pub record Underway (supply : Supply) (door : Option DoorTale) (pass : PassState) (waiting : List (Due C))
      : Type 0 where
    pub here : pass.home ≡ hall
    pub first : pass.number ≡ 0
    pub owed : (due : Due C) → In due waiting → IsOwed door due
    pub served : (j : Joined Timed Reply) → In j pass.joined
        → HadSession (shows clock) (supply ≡ Short) door j.number j.calls
    pub numbers : (m : ℕ) → 0 < m → m ≤ pass.splits
        → In m (map joined_number pass.joined) ⊎ In m (map due_number waiting)
    pub came : IfSome door (λ tale. length tale.came ≡ pass.splits)
    pub out : IfSome door (λ tale. length tale.back + length waiting ≡ length tale.came)

-- a settlement changes neither how many passes were split nor with what the hall opened
abbrev pub SameHall : PassState → PassState → Type 0
SameHall old new = (new.splits ≡ old.splits) × (new.opening ≡ old.opening)

-- the door wasn't asked: it has those links left that it had, those came that had come, and its last answer is the same
abbrev pub KeepsLeft : DoorTale → DoorTale → Type 0
KeepsLeft old new = (new.left ≡ old.left) × (new.came ≡ old.came) × (new.last ≡ old.last)

-- one more link came, which tells this
abbrev pub Comes : Option Tale → DoorTale → DoorTale → Type 0
Comes link old new = new ≡ record old { left = new.left; came = old.came ++ link ∷ []; last = answered.Link }

-- no further link is taken for that reason, after so many; and where the door failed, it counted that
abbrev pub Stopped : DoorEnd → ℕ → Option DoorTale → ℕ → ℕ → Type 0
Stopped why count door before now = IsDoorStopped why count door × (why ≡ door_end.Failed → Rose before now)
