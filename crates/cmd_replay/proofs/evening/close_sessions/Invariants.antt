use Rattle.cmd_replay.specs.Evening.{AfterLeaving}
use Rattle.cmd_replay.proofs.Leaving.{AreLeft}
use Rattle.cmd_replay.proofs.evening.close_sessions.Given as goal

-- the first sessions, as far as they were here, have left, and what the others remember is as it was
abbrev pub invariant-loop-place : goal.invariant-loop-place
invariant-loop-place l = record {
  left : AfterLeaving l.order l.initial.sessions l.moment l.place l.initial.server l.server;
  sessions : AreLeft l.initial.sessions l.sessions l.place;
}
