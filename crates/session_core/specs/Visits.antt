-- All games of a session. This server's own.
use Rattle.std.specs.Prelude.{List}
use Rattle.session_asks.specs.Visits.{all_visits}
use Rattle.session_asks.specs.declared.visit.Visit.{Visit}
use Rattle.session_core.specs.Memory.{MemoryState}

-- those at the places that it remembers, and those at which it looks on
abbrev pub visits_in : MemoryState → List Visit
visits_in memory = all_visits memory.places.rows memory.observed.rows
