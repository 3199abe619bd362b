use Rattle.std.proofs.Common.{◌≡◌, ◌-◌, length, take}
use Rattle.game_board.proofs.rewind.take_all_off.Given as goal

abbrev pub invariant-loop-taken : goal.invariant-loop-taken
invariant-loop-taken l =
    l.clock
    ≡ record l.initial.clock { charges = take (length l.initial.clock.charges - l._taken) l.initial.clock.charges }
