use Rattle.std.proofs.Common.{◌≡◌, drop}
use Rattle.std.specs.List.{filter}
use Rattle.lobby_shelf.specs.Players.{is_of_both}
use Rattle.lobby_shelf.proofs.rack.Rack.next_of.Given as goal

abbrev pub invariant-loop-place : goal.invariant-loop-place
invariant-loop-place l =
    filter (is_of_both l.one l.other) (drop l.from l.self) ≡ filter (is_of_both l.one l.other) (drop l.place l.self)
