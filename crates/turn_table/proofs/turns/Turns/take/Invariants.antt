use Rattle.std.proofs.Common.{◌≡◌, ℕ}
use Rattle.turn_table.specs.Passes.{busy_more, with_busy}
use Rattle.turn_table.proofs.turns.Turns.take.Given as goal

abbrev pub invariant-loop : goal.invariant-loop
invariant-loop g l =
    (goal.iterator-loop g).can_next l.iterator' × (goal.iterator-loop g).is_finite l.iterator'
    × (l.pass.home ≡ l.fn.pass.home)
    × ((n : ℕ) × (l.pass.view ≡ with_busy (busy_more n l.part l.fn.pass.view.busy) l.fn.pass.view))
