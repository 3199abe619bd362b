use Rattle.std.proofs.Common.{◌≤◌, ◌+◌, ◌++◌, ℕ, List, take}
use Rattle.cmd_lines.specs.Progress.{Progress}
use Rattle.cmd_lines.proofs.machine.Machine.feed_bytes.Given as goal

abbrev pub invariant-loop-byte : goal.invariant-loop-byte
invariant-loop-byte g l = record {
  count : l.self.number ≤ l.initial.self.number + l.byte-index;
  fed : (start : g.row.T.Denot) (taken base : List ℕ)
      → Progress (g.T.LineHandler.reached start) taken l.initial.self (base ++ l.initial.out.items)
      → Progress (g.T.LineHandler.reached start) (taken ++ take l.byte-index l.piece) l.self (base ++ l.out.items);
}
