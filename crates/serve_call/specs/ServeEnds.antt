-- How a call ends that was to serve, by the counts of faults and the text: so the clauses of its status follow.
use Rattle.std.specs.Prelude.{◌≡◌, ◌⊎◌, ℕ}
use Rattle.edge_traits.specs.Calls.{Store}
use Rattle.serve_call.specs.Opening.{IsUnopened}
use Rattle.serve_core.specs.Ends.{EndsServing}
use Rattle.serve_core.specs.Outside.{Sheet}
use Rattle.serve_turn.specs.Stopping.{serving_status}
use Rattle.serve_turn.specs.declared.end.ServeEnd.{ServeEnd}

-- it opened no hall, or it served, over a door that had counted so many faults before and after, a sink and a keeper
abbrev pub EndsCall : ℕ → ℕ → ℕ → Sheet → Sheet → Store → Store → Type 0
EndsCall status door door' before after old new =
    IsUnopened status old new before after
    ⊎ ((end : ServeEnd) × (status ≡ serving_status end) × EndsServing end door door' before after old new)
