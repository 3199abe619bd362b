use Rattle.std.proofs.Common.{◌↔◌, IsTrue, Option, Some, subst}
use Rattle.std.specs.Prelude.{slice_set}
use Rattle.chess_model.specs.declared.man.Kind.TheVariants.{Knight}
use Rattle.chess_model.specs.declared.man.Man.{Man}
use Rattle.chess_model.specs.Placement.{unpromoted}
use Rattle.chess_model.specs.Position.{Position}
use Rattle.chess_model.specs.Attacked.{IsKingSafe}
use Rattle.variant_rules.proofs.position.Position.is_shielded_on.Goals as goal

pub returns : goal.returns
returns c =
    let b = c.self.inside in
    let seen = c.with.ensures b.men (c.sights_of.ensures c.self.invariant.squares) in
    let safe = c.are_safe.ensures (slice_set b.men c.args.s (Some c.unpromoted_man.result)) seen in
    let here : IsTrue c.are_safe.result
    ↔ IsKingSafe (slice_set b.men c.args.s (unpromoted b.to_move Knight)) b.to_move =
    subst (λ (man : Option Man). IsTrue c.are_safe.result ↔ IsKingSafe (slice_set b.men c.args.s man) b.to_move)
    c.unpromoted_man.ensures safe in
    subst (λ (x : Position).
    IsTrue c.are_safe.result ↔ IsKingSafe (slice_set x.men c.args.s (unpromoted x.to_move Knight)) x.to_move)
    c.self.view_is here
