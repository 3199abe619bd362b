use Rattle.std.proofs.Common.{◌*◌, ◌≤◌}
use Rattle.cmd_demo.specs.Demo.{Go, turns_of}
use Rattle.cmd_demo.proofs.steps.Demo.all_turns.Given as goal

-- so many turns came, each within two seconds of the one before
abbrev pub invariant-loop-turn : goal.invariant-loop-turn
invariant-loop-turn l = record {
  gone : Go (turns_of l._turn) l.initial.self l.self;
  moment : l.self.moment ≤ 2000 * l._turn;
}
