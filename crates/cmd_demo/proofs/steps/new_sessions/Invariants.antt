use Rattle.std.proofs.Common.{◌≡◌, replicate}
use Rattle.session_core.specs.Memory.{newcomer}
use Rattle.cmd_demo.proofs.steps.new_sessions.Given as goal

abbrev pub invariant-loop-place : goal.invariant-loop-place
invariant-loop-place l = l.sessions ≡ replicate l._place newcomer
