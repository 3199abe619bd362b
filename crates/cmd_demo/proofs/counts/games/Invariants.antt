use Rattle.std.proofs.Common.{◌≡◌, ◌≤◌, count_by, take}
use Rattle.cmd_demo.specs.Summary.{is_start}
use Rattle.cmd_demo.proofs.counts.games.Given as goal

abbrev pub invariant-loop-entry : goal.invariant-loop-entry
invariant-loop-entry l = record {
  is : l.count ≡ count_by is_start (take l.entry-index l.log);
  few : l.count ≤ l.entry-index;
}
