use Rattle.std.proofs.Common.{◌≡◌, drop}
use Rattle.std.specs.List.{AllByRecursion}
use Rattle.game_records.specs.Bounds.{IsCharge}
use Rattle.desk_boards.specs.Replaying.{played_on, replayed}
use Rattle.desk_boards.proofs.boards.Boards.replay.Given as goal

-- the boards so far, with the half-moves that are still to come, are what the whole game comes to
abbrev pub invariant-loop-half : goal.invariant-loop-half
invariant-loop-half l = record {
  boards : played_on l.boards (drop l.half-index l.halves) ≡ replayed l.fn.terms l.halves l.fn.moment;
  charges : AllByRecursion (λ h. IsCharge h.charge) (drop l.half-index l.halves);
}
