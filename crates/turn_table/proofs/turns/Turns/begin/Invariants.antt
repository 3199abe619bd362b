use Rattle.std.proofs.Common.{Some}
use Rattle.turn_table.proofs.turns.Turns.begin.Given as goal

abbrev pub ghosts-begin : goal.ghosts-begin
ghosts-begin g a = record { meant = Some a.act.now }
