use Rattle.std.proofs.Common.{sym, ◌∙◌, None}
use Rattle.std.proofs.lemmas.Bool.{true≢false}
use Rattle.chess_model.specs.declared.man.Kind.TheVariants.{Pawn}
use Rattle.chess_model.specs.Reach.{Reaches}
use Rattle.variant_rules.proofs.ReachLemmas.{passed_reaches}
use Rattle.variant_rules.proofs.rules.pawn_reaches.Goals as goal

pub returns : goal.returns
returns c =
    let P = c.args.men.now in
    let other : ¬ Reaches P None c.args.c Pawn c.args.a c.args.b =
    λ r.
    true≢false (sym (c.has_square.ensures.value.1 ((c.reach_of.ensures.each c.args.b c.has_square.ensures.within).1 r))
    ∙ c.if-has_square.false) in
    let e = passed_reaches P c.args.en_passant c.args.c c.args.a c.args.b other in
    (λ t. e.0 (c.strikes_passed.ensures.0 t), λ r. c.strikes_passed.ensures.1 (e.1 r))
