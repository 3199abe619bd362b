use Rattle.variant_rules.proofs.rules.strikes_as_pawn.Goals as goal

pub returns : goal.returns
returns c =
    let each = (c.pawn_squares.ensures c.args.men.now).each c.args.b c.has_square.ensures.within in
    (λ h. each.0 (c.has_square.ensures.value.0 h), λ h. c.has_square.ensures.value.1 (each.1 h))
