use Rattle.std.proofs.Common.{◌≡◌, take, drop}
use Rattle.lobby_shelf.proofs.cells.Cells.first.Given as goal

abbrev pub invariant-loop-place : goal.invariant-loop-place
invariant-loop-place g l = record { copied : l.copies ≡ take l._place l.self; left : l.rest ≡ drop l._place l.self }
