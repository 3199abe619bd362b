use Rattle.std.proofs.Common.{◌≡◌, drop, length}
use Rattle.cmd_replay.specs.Evening.{seated_from}
use Rattle.cmd_replay.proofs.evening.seat_sessions.Given as goal

-- what the names that are left make of the sessions is what all names make of them at first
abbrev pub invariant-loop-place : goal.invariant-loop-place
invariant-loop-place l = record {
  due : seated_from l.place (drop l.place l.names) l.sessions ≡ seated_from 0 l.names l.initial.sessions;
  count : length l.sessions ≡ length l.initial.sessions;
}
