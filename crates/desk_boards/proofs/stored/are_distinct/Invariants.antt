use Rattle.std.proofs.Common.{bytes_eq, map, length}
use Rattle.std.specs.Prelude.{◌↔◌}
use Rattle.std.specs.List.{IsDistinct}
use Rattle.fics_words.specs.Handle.{key_of}
use Rattle.desk_boards.proofs.stored.are_distinct.Given as goal

-- the names so far differ from each other and from those that are still to be compared
abbrev pub invariant-loop-name : goal.invariant-loop-name
invariant-loop-name l = IsDistinct bytes_eq (map key_of l.rest) ↔ IsDistinct bytes_eq (map key_of l.names)

abbrev pub decreases-loop-name : goal.decreases-loop-name
decreases-loop-name l = length l.rest
