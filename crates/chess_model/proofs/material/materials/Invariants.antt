use Rattle.std.proofs.Common.{◌≡◌, ◌*◌, ◌≤◌, take}
use Rattle.std.specs.Prelude.{sum_by}
use Rattle.chess_model.specs.Material.{square_worth}
use Rattle.chess_model.specs.declared.man.Colour.TheVariants.{White, Black}
use Rattle.chess_model.proofs.material.materials.Given as goal

abbrev pub invariant-loop-square : goal.invariant-loop-square
invariant-loop-square l =
    (l.white ≡ sum_by (square_worth White) (take l.square-index l.men)) × (l.white ≤ 9 * l.square-index)
    × (l.black ≡ sum_by (square_worth Black) (take l.square-index l.men)) × (l.black ≤ 9 * l.square-index)
