use Rattle.std.proofs.Common.{◌≡◌, ◌++◌, length}
use Rattle.command_words.specs.Aliases.{filled}
use Rattle.command_words.proofs.expansion.filled.Given as goal

abbrev pub invariant-fill : goal.invariant-fill
invariant-fill l = l.made.items ++ filled l.rest l.left ≡ filled l.rest l.text

abbrev pub decreases-fill : goal.decreases-fill
decreases-fill l = length l.left
