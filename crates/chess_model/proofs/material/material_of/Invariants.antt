use Rattle.std.proofs.Common.{◌≡◌, ◌*◌, ◌≤◌, take}
use Rattle.std.specs.Prelude.{sum_by}
use Rattle.chess_model.specs.Material.{square_worth}
use Rattle.chess_model.proofs.material.material_of.Given as goal

abbrev pub invariant-loop-square : goal.invariant-loop-square
invariant-loop-square l =
    (l.total ≡ sum_by (square_worth l.colour) (take l.square-index l.men)) × (l.total ≤ 9 * l.square-index)
