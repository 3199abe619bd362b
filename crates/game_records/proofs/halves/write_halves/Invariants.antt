use Rattle.std.proofs.Common.{◌≡◌, ◌++◌, take}
use Rattle.game_records.specs.Spelling.{halves_text}
use Rattle.game_records.proofs.halves.write_halves.Given as goal

-- the half-moves so far are written
abbrev pub invariant-loop-half : goal.invariant-loop-half
invariant-loop-half l = l.out.items ≡ l.fn.out.items ++ halves_text l.variant (take l.half-index l.halves)
