use Rattle.std.proofs.Common.{◌-◌, ◌<◌}
use Rattle.bitboard_core.specs.Sets.{Has}
use Rattle.variant_rules.specs.Checks.{AreAnswers}
use Rattle.variant_rules.proofs.guard.answers.Given as goal

abbrev pub invariant-loop-x : goal.invariant-loop-x
invariant-loop-x l = record {
  all : AreAnswers l.fn.men l.fn.c l.fn.s l.set;
  here : l.x < 64 → Has l.checkers l.x;
}

abbrev pub decreases-loop-x : goal.decreases-loop-x
decreases-loop-x l = 64 - l.x
