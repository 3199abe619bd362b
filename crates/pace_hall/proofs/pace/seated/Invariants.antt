use Rattle.std.proofs.Common.{◌≡◌, ◌*◌}
use Rattle.pace_hall.proofs.pace.seated.Given as goal

abbrev pub invariant-loop-number : goal.invariant-loop-number
invariant-loop-number g l = record {
  here : l.first.home ≡ l.fn.first.home;
  first : l.first.number ≡ 0;
  splits : l.first.splits ≡ 2 * l.number;
}
