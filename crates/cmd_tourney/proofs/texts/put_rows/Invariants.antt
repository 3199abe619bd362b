use Rattle.std.proofs.Common.{◌≡◌, ◌++◌, take}
use Rattle.cmd_tourney.specs.Texts.{rows_text}
use Rattle.cmd_tourney.proofs.texts.put_rows.Given as goal

abbrev pub invariant-loop-index : goal.invariant-loop-index
invariant-loop-index l = l.out.items ≡ l.fn.out.items ++ rows_text l.tourney.players 1 (take l.index l.rows)
