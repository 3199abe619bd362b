use Rattle.std.proofs.Common.{◌≡◌, ◌-◌}
use Rattle.game_records.specs.Reading.{behind_names}
use Rattle.game_records.proofs.names.behind_names.Given as goal

-- the bytes behind the names that are still to come are those behind all
abbrev pub invariant-loop-place : goal.invariant-loop-place
invariant-loop-place l = behind_names (l.count - l._place) l.rest ≡ behind_names l.count l.bytes
