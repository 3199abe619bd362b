use Rattle.std.proofs.Common.{◌≡◌, drop}
use Rattle.std.specs.Prelude.{◌==◌}
use Rattle.std.specs.List.{find}
use Rattle.session_core.specs.Memory.{observed_at}
use Rattle.session_core.proofs.session_memory.SessionMemory.observed_at.Given as goal

-- none of the games before this number is of the desk
abbrev pub invariant-loop-at : goal.invariant-loop-at
invariant-loop-at l =
    observed_at l.desk l.self ≡ find (λ place. place.desk == l.desk) (drop l.at l.self-inside.observed.rows)
