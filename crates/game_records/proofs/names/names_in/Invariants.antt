use Rattle.std.proofs.Common.{◌≡◌, ◌-◌, ◌++◌}
use Rattle.std.specs.List.{AllByRecursion}
use Rattle.fics_words.specs.Handle.{IsHandle}
use Rattle.game_records.specs.Reading.{names_in}
use Rattle.game_records.proofs.names.names_in.Given as goal

-- the names so far, and those that are still to be read
abbrev pub invariant-loop-place : goal.invariant-loop-place
invariant-loop-place l = record {
  same : l.names ++ names_in (l.count - l._place) l.rest ≡ names_in l.count l.bytes;
  handles : AllByRecursion IsHandle l.names;
}
