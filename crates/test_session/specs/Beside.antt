-- What the acts of other sessions do to a server, as session 1 sees it.
use Rattle.std.specs.Prelude.{◌≡◌, false}
use Rattle.histories.specs.History.{IsPrefix, calls_of, Legal}
use Rattle.one_server.specs.House.{house}
use Rattle.one_server.specs.Running.{RunnerState}
use Rattle.one_server.specs.Server.{ServerState, seat_state}

-- the history has gone on, legally, and nothing that is new there is session 1's
pub record Beside (old new : ServerState) : Type 0 where
  pub opening : new.opening ≡ old.opening
  pub begins : IsPrefix old.log new.log
  pub legal : Legal house new.opening new.log
  pub none : calls_of 1 new.log ≡ calls_of 1 old.log

-- session 1 at a server where others make acts too
abbrev pub opposed : ServerState → RunnerState
opposed server = record (seat_state 1 server) { sole = false }
