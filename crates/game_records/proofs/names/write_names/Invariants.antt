use Rattle.std.proofs.Common.{◌≡◌, ◌++◌, take}
use Rattle.game_records.specs.Spelling.{names_text}
use Rattle.game_records.proofs.names.write_names.Given as goal

-- the names so far are written
abbrev pub invariant-loop-name : goal.invariant-loop-name
invariant-loop-name l = l.out.items ≡ l.fn.out.items ++ names_text (take l.name-index l.names)
