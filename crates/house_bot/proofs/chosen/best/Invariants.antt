use Rattle.std.proofs.Common.{◌≡◌, ◌-◌, pos, neg_ℤ, ◌<ℤ◌, ◌≤ℤ◌, take}
use Rattle.house_bot.specs.Value.{move_value}
use Rattle.house_bot.specs.Searching.{best_of}
use Rattle.house_bot.proofs.Choices.{no_choice}
use Rattle.house_bot.proofs.chosen.best.Given as goal

abbrev pub invariant-loop-m : goal.invariant-loop-m
invariant-loop-m l = record {
  same : l.p ≡ l.fn.p;
  choice : l.choice ≡ best_of (move_value (l.depth - 1) l.fn.p) no_choice (take l.m-index l.m-items);
  least : neg_ℤ (pos 200000) ≤ℤ l.choice.worth;
  below : l.choice.worth <ℤ pos 200000;
}
