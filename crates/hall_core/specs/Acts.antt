-- What one act makes of what a pass of the hall knows.
use Rattle.std.specs.Prelude.{◌≡◌, ℕ, [], ◌∷◌, ◌++◌}
use Rattle.histories.specs.Core.{Touches}
use Rattle.histories.specs.History.{state}
use Rattle.one_server.specs.declared.act.Timed.{Timed}
use Rattle.one_server.specs.House.{house}
use Rattle.one_server.specs.Running.{Made, ServerRan as IsAnswered}
use Rattle.turn_chain.specs.declared.tried.Tried.{Tried}
use Rattle.turn_chain.specs.declared.tried.Tried.TheVariants as tried
use Rattle.one_server.specs.declared.reply.Reply.{Reply}
use Rattle.hall_core.specs.declared.ran.Ran.{Ran}
use Rattle.hall_core.specs.declared.ran.Ran.TheVariants.{Done, Busy}
use Rattle.hall_core.specs.Passes.{PassState, runs_of}

-- an act changes what the pass has seen, what it made and which parts it found busy, and nothing else
abbrev pub OnlyRan : PassState → PassState → Type 0
OnlyRan old new = new ≡ record old { seen = new.seen; made = new.made; busy = new.busy }

-- the last try of a turn found this part with another pass, and it is a part of the act, as what is seen says
pub record FoundPartBusy (old : PassState) (timed : Timed) (number : ℕ) (new : PassState) : Type 0 where
  pub part : Touches house (state house new.opening new.seen) new.number timed number
  pub last : new.busy ≡ old.busy ++ number ∷ []

-- an act that waited for nobody was answered, or it made no entry and comes back
abbrev pub ActCameTo : PassState → Timed → Ran → PassState → Type 0
ActCameTo old timed (Done reply) new = IsAnswered (runs_of old) timed reply (runs_of new)
ActCameTo old timed (Busy number act) new =
    Made (runs_of old) [] (runs_of new) × (act ≡ timed.act) × FoundPartBusy old timed number new

-- what the chain of an act came to, with the reply where it was made, and without the moment of an act that comes back
abbrev pub ran_of : Tried Timed → Reply → Ran
ran_of tried.Done reply = Done reply
ran_of (tried.Busy number timed) reply = Busy number timed.act
