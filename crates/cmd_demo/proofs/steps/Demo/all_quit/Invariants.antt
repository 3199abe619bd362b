use Rattle.std.proofs.Common.{◌≤◌}
use Rattle.cmd_demo.specs.Demo.{Go, quitting}
use Rattle.cmd_demo.proofs.steps.Demo.all_quit.Given as goal

-- those so far have quit
abbrev pub invariant-loop-place : goal.invariant-loop-place
invariant-loop-place l = record {
  gone : Go (quitting l.place) l.initial.self l.self;
  moment : l.self.moment ≤ 8000000;
}
