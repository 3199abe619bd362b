use Rattle.std.proofs.Common.{◌≡◌, None, replicate}
use Rattle.lobby_state.proofs.game.nothing.Given as goal

abbrev pub invariant-loop-place : goal.invariant-loop-place
invariant-loop-place g l = l.places ≡ replicate l._place None
