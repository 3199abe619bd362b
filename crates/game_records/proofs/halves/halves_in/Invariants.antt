use Rattle.std.proofs.Common.{◌≡◌, ◌-◌, ◌++◌}
use Rattle.game_records.specs.Reading.{halves_in}
use Rattle.game_records.proofs.halves.halves_in.Given as goal

-- the half-moves so far, and those that are still to be read
abbrev pub invariant-loop-place : goal.invariant-loop-place
invariant-loop-place l =
    l.halves ++ halves_in l.variant (l.count - l._place) l.rest ≡ halves_in l.variant l.count l.bytes
