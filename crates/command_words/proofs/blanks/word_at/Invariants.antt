use Rattle.std.proofs.Common.{◌≡◌}
use Rattle.command_words.specs.Blanks.{word_numbered}
use Rattle.command_words.proofs.blanks.word_at.Given as goal

abbrev pub invariant-words : goal.invariant-words
invariant-words l = word_numbered l.left l.rest ≡ word_numbered l.fn.number l.text

abbrev pub decreases-words : goal.decreases-words
decreases-words l = l.left
