use Rattle.std.proofs.Common.{◌≡◌}
use Rattle.cmd_demo.specs.Demo.{Go, all_entering}
use Rattle.cmd_demo.proofs.steps.Demo.all_enter.Given as goal

-- those so far have entered
abbrev pub invariant-loop-place : goal.invariant-loop-place
invariant-loop-place l = record {
  gone : Go (all_entering l.place) l.initial.self l.self;
  moment : l.self.moment ≡ 0;
}
