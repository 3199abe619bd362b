use Rattle.std.proofs.Common.{◌≡◌, ◌++◌, length}
use Rattle.fics_words.specs.Pieces.{pieces}
use Rattle.cmd_replay.specs.Tagged.{shown, tagged_lines}
use Rattle.cmd_replay.proofs.tagged.put_lines.Given as goal

-- what is there and what the rest shows are what is to be there
abbrev pub invariant-loop-line : goal.invariant-loop-line
invariant-loop-line l =
    l.out.items ++ tagged_lines l.session (shown (pieces l.rest))
    ≡ l.fn.out.items ++ tagged_lines l.session (shown (pieces l.fn.text))

abbrev pub decreases-loop-line : goal.decreases-loop-line
decreases-loop-line l = length l.rest
