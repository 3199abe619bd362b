use Rattle.std.proofs.Common.{◌≡◌, ◌++◌, drop}
use Rattle.session_core.specs.Texts.{lines_text}
use Rattle.session_core.proofs.texts.put_each.Given as goal

abbrev pub invariant-loop-place : goal.invariant-loop-place
invariant-loop-place l =
    l.out.items ++ lines_text (drop l.place l.lines) ≡ l.initial.out.items ++ lines_text l.initial.lines
