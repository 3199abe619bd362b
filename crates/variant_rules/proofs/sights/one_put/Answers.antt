use Rattle.variant_rules.proofs.sights.one_put.Goals as goal

pub returns : goal.returns
returns c size =
    let one = c.with.ensures _ (c.sights_of.ensures size) in
    rw (← c.unpromoted_man.ensures) one
