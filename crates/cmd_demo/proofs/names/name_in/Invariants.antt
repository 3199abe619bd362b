use Rattle.std.proofs.Common.{◌≡◌, drop}
use Rattle.cmd_demo.specs.Said.{name_in}
use Rattle.cmd_demo.proofs.names.name_in.Given as goal

-- the entries that are left tell the name that all tell
abbrev pub invariant-loop-entry : goal.invariant-loop-entry
invariant-loop-entry l = name_in l.session (drop l.entry-index l.log) ≡ name_in l.session l.log
