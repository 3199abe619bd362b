use Rattle.std.proofs.Common.{refl}
use Rattle.command_words.proofs.laws.the_table_has_the_commands.Goals as goal

pub returns : goal.returns
returns c = refl
