use Rattle.std.proofs.Common.{◌≡◌, ◌≤◌, count_by, take}
use Rattle.cmd_demo.specs.Summary.{is_made}
use Rattle.cmd_demo.proofs.counts.half_moves.Given as goal

abbrev pub invariant-loop-entry : goal.invariant-loop-entry
invariant-loop-entry l = record {
  is : l.count ≡ count_by is_made (take l.entry-index l.log);
  few : l.count ≤ l.entry-index;
}
