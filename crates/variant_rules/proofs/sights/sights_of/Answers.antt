use Rattle.std.proofs.Common.{subst}
use Rattle.chess_model.specs.declared.man.Colour.{Colour}
use Rattle.bitboard_core.specs.Strikers.{AreMenOf}
use Rattle.variant_rules.proofs.sights.sights_of.Goals as goal

pub returns : goal.returns
returns c size = record {
  squares = size;
  enemies = subst (λ (x : Colour). AreMenOf c.args.men.now x c.side.result) c.opposite.ensures c.side.ensures;
  occupied = c.occupied.ensures;
  kings = c.side-2.ensures.kings;
}
