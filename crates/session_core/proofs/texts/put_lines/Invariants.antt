use Rattle.std.proofs.Common.{◌≡◌, ◌++◌, drop}
use Rattle.session_core.specs.Texts.{lines_text}
use Rattle.session_core.proofs.texts.put_lines.Given as goal

abbrev pub invariant-loop-line : goal.invariant-loop-line
invariant-loop-line l =
    l.out.items ++ lines_text (drop l.line-index l.lines) ≡ l.initial.out.items ++ lines_text l.initial.lines
