-- What the call that serves a link makes of its runner and of the link. This server's own.
use Rattle.std.specs.Prelude.{ℕ, Bool}
use Rattle.edge_traits.specs.Link.{Handed}
use Rattle.one_server.specs.Running.{Log, Made, RunnerState}
use Rattle.link_core.specs.declared.link_end.LinkEnd.{LinkEnd}
use Rattle.link_core.specs.ServedInPart.{WasServed}

-- a call served a link by the session's new entries
pub record ServesLink (shows : ℕ → Bool) (end : LinkEnd) (old : RunnerState) (link : Handed) (new : RunnerState)
    (link_now : Handed) : Type 0 where
  -- there is
  pub entries : Log
  -- such that
  pub grew : Made old entries new
  pub served : WasServed shows old.mark old.number end entries link link_now
