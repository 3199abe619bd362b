use Rattle.std.proofs.Common.{◌↔◌, IsTrue, ap, sym, subst, ◌∙◌}
use Rattle.chess_model.specs.declared.man.Colour.{Colour}
use Rattle.chess_model.specs.Placement.{opposite}
use Rattle.chess_model.specs.Attacked.{IsKingSafe}
use Rattle.bitboard_core.specs.Strikers.{AreKingsOf, AreMenOf}
use Rattle.variant_rules.proofs.sights.Sights.are_safe.Goals as goal
use Rattle.chess_model.proofs.ChessLaws.{opposite-opposite}

pub returns : goal.returns
returns c P seen =
    let e = ap opposite c.opposite.ensures ∙ opposite-opposite c.args.c in
    let men = subst (λ (x : Colour). AreMenOf P x c.args.self.now.enemies) (sym c.opposite.ensures) seen.enemies in
    let kings = subst (λ (x : Colour). AreKingsOf P x c.args.self.now.kings) (sym e) seen.kings in
    subst (λ (x : Colour). IsTrue c.are_safe.result ↔ IsKingSafe P x) e (c.are_safe.ensures P men seen.occupied kings)
