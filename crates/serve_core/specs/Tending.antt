-- What the door's thread does for the store while it takes links: it makes turns of the steward.
use Rattle.std.specs.Prelude.{◌≡◌, ℕ, ◌+◌}
use Rattle.std.specs.declared.option.Option.{Option}
use Rattle.edge_traits.specs.Door.{DoorTale}
use Rattle.edge_traits.specs.WhereTold.{WhereTold}
use Rattle.one_server.specs.Running.{IsKnown, Log, Made}
use Rattle.hall_core.specs.Passes.{PassState, runs_of}
use Rattle.steward_core.specs.Agreement.{StaysAgreed}
use Rattle.edge_traits.specs.Calls.{Store}
use Rattle.serve_core.specs.Stewarding.{AreTurns, MayEnd}
use Rattle.serve_turn.specs.declared.supply.Supply.{Supply}
use Rattle.serve_turn.specs.declared.supply.Supply.TheVariants.{Short}

-- where the door's thread stands: its pass, whether memory ran out somewhere, what the door tells, and the keeper
pub record Stand : Type 0 where
  pub pass : PassState
  pub supply : Supply
  pub door : Option DoorTale
  pub store : Store

abbrev pub stand : PassState → Supply → Option DoorTale → Store → Stand
stand pass supply door store = record { pass = pass; supply = supply; door = door; store = store }

-- the door gave so many Quiets
abbrev pub GivesQuiets : ℕ → DoorTale → DoorTale → Type 0
GivesQuiets n old new = new.quiets ≡ old.quiets + n

-- From one time to another the pass made no entries but those of turns of the steward, as many as the door gave Quiets.
-- None of them ended with a keeper fault unless its own last call of the keeper failed, and none for want of memory
-- unless it is known that memory ran out. The keeper had no other calls, and a table that agreed still agrees
pub record Tended (old new : Stand) : Type 0 where
  pub count : ℕ
  pub entries : Log
  pub turns : AreTurns (MayEnd (new.supply ≡ Short)) count old.store new.store entries
  pub grew : IsKnown (runs_of old.pass) → Made (runs_of old.pass) entries (runs_of new.pass)
  pub quiets : WhereTold old.door new.door (GivesQuiets count)
  pub short : old.supply ≡ Short → new.supply ≡ Short
  pub agrees : IsKnown (runs_of old.pass)
      → StaysAgreed old.store.table new.store.table (runs_of old.pass) (runs_of new.pass)
