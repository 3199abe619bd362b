use Rattle.std.proofs.Common.{◌≡◌, ◌+◌, ◌++◌, length, replicate}
use Rattle.move_writer.specs.Letters.{letter_of}
use Rattle.style12_writer.proofs.holdings.put_men.Given as goal

abbrev pub invariant-loop-man : goal.invariant-loop-man
invariant-loop-man l =
    (l.line ≡ l.initial.line ++ replicate l._man (letter_of l.kind)) × (length l.line ≡ length l.initial.line + l._man)
