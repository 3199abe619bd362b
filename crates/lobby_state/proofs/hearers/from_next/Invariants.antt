use Rattle.std.proofs.Common.{◌≡◌, length}
use Rattle.lobby_state.specs.Hearers.{from_next}
use Rattle.lobby_state.proofs.hearers.from_next.Given as goal

abbrev pub invariant-loop-row : goal.invariant-loop-row
invariant-loop-row l =
    from_next l.others.session l.others.channel l.left ≡ from_next l.others.session l.others.channel l.rows

abbrev pub decreases-loop-row : goal.decreases-loop-row
decreases-loop-row l = length l.left
