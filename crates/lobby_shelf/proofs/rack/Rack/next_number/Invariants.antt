use Rattle.std.proofs.Common.{◌+◌, ◌-◌, ◌<◌, ◌≤◌, length}
use Rattle.lobby_shelf.specs.Numbers.{next_number}
use Rattle.lobby_shelf.proofs.rack.Rack.next_number.Given as goal

abbrev pub invariant-loop-low : goal.invariant-loop-low
invariant-loop-low l = record {
  within : l.high ≤ length l.self;
  least : l.low < next_number l.self;
  most : next_number l.self ≤ l.high + 1;
}

abbrev pub decreases-loop-low : goal.decreases-loop-low
decreases-loop-low l = l.high - l.low
