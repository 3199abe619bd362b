use Rattle.std.proofs.Common.{rules, append_assoc}
use Rattle.style12_writer.specs.Line12.{position_fields}
use Rattle.style12_writer.proofs.Spacing.{spaced-append}
use Rattle.style12_writer.proofs.board.put_position.Goals as goal

pub returns-clause-text : goal.returns-clause-text
unfolding position_fields
returns-clause-text c = simp spaced-append (search (rules, append_assoc))
