use Rattle.std.proofs.Common.{◌≡◌, ◌++◌, take}
use Rattle.cmd_examine.specs.Texts.{lines_text}
use Rattle.cmd_examine.proofs.texts.put_lines.Given as goal

abbrev pub invariant-loop-line : goal.invariant-loop-line
invariant-loop-line l = l.out.items ≡ l.fn.out.items ++ lines_text (take l.line-index l.lines)
