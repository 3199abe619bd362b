-- What is written while serving, and how serving ended by what became of it. This server's own.
use Rattle.std.specs.Prelude.{codes, ◌≡◌, ◌≢◌, ◌⊎◌, ℕ, Bool, List, ◌++◌}
use Rattle.std.specs.declared.option.Option.{Option}
use Rattle.edge_traits.specs.Door.{DoorTale}
use Rattle.edge_traits.specs.Faults.{Rose}
use Rattle.edge_traits.specs.Sink.{OnWriteFailed, UnlessWriteFailed, Wrote}
use Rattle.edge_traits.specs.declared.sink.Sent.{Sent}
use Rattle.edge_traits.specs.declared.sink.Sent.TheVariants as sent
use Rattle.steward_core.specs.declared.turn.StewardEnd.{StewardEnd}
use Rattle.serve_turn.specs.declared.end.DoorEnd.{DoorEnd}
use Rattle.serve_turn.specs.declared.end.DoorEnd.TheVariants as door_end
use Rattle.serve_turn.specs.declared.end.ServeEnd.{ServeEnd}
use Rattle.serve_turn.specs.declared.supply.Supply.{Supply}
use Rattle.serve_core.specs.Outside.{Sheet}
use Rattle.serve_turn.specs.Stopping.{IsDoorStopped, end_of, is_short}

-- what is written once the hall is open, and once all is served
abbrev pub ready_text : List ℕ
ready_text = codes "ready\n"

abbrev pub closed_text : List ℕ
closed_text = codes "closed\n"

abbrev pub whole_text : List ℕ
whole_text = ready_text ++ closed_text

-- one write of the text, which the sink answered so: all of it was written, but for an end of it where the write failed
-- or ran out of memory; and the sink counted a fault exactly where the write failed
pub record Says (text : List ℕ) (said : Sent) (before after : Sheet) : Type 0 where
  pub wrote : Wrote before.written after.written text said
  pub cause : OnWriteFailed said (Rose before.faults after.faults)
  pub calm : UnlessWriteFailed said (after.faults ≡ before.faults)

-- `ready` wasn't written out: the sink failed or memory ran out. Nothing else was written, no link was taken, and
-- serving ended by what became of that write, by the last turn of the steward and by whether memory ran out in it, as
-- at a door that is closed; and it is told whether memory ran out
pub record StopsUnready (end : ServeEnd) (short : Bool) (last : StewardEnd) (count : ℕ) (before after : Sheet) : Type 0
  where
    -- there is
    pub said : Sent
    pub supply : Supply
    -- such that
    pub none_taken : count ≡ 0
    pub unwritten : said ≢ sent.All
    pub ready : Says ready_text said before after
    pub ends : end ≡ end_of door_end.Closed said last supply
    pub shortage : short ≡ is_short supply said

-- `ready` was written; links were taken until the door had none left, or failed, or 2^31 had come; and then `closed`
-- was to be written. Serving ended by why no further link was taken, by what became of that write, by the last turn of
-- the steward, and by whether memory ran out before that write; and it is told whether memory ran out
pub record SaysClosed (end : ServeEnd) (short : Bool) (last : StewardEnd) (door : Option DoorTale) (count : ℕ)
    (before after : Sheet) : Type 0 where
  -- there is
  pub why : DoorEnd
  pub mid : Sheet
  pub said : Sent
  pub supply : Supply
  -- such that
  pub stopped : IsDoorStopped why count door
  pub ready : Says ready_text sent.All before mid
  pub closed : Says closed_text said mid after
  pub ends : end ≡ end_of why said last supply
  pub shortage : short ≡ is_short supply said

-- the text was written and all links were taken, so many, but for the reasons that are named; and serving ended by the
-- first that holds of a fault of the door, of the sink and of the keeper in the last turn, want of memory, and 2^31
-- links
abbrev pub SaysText : ServeEnd → Bool → StewardEnd → Option DoorTale → ℕ → Sheet → Sheet → Type 0
SaysText end short last door count before after =
    StopsUnready end short last count before after ⊎ SaysClosed end short last door count before after
