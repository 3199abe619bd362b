use Rattle.variant_rules.proofs.sights.one_moved.Goals as goal

pub returns : goal.returns
returns c size =
    let one = c.with.ensures _ (c.sights_of.ensures size) in
    let two = c.with-2.ensures _ one in
    let three = c.with-3.ensures _ two in
    rw (← c.takes_on.ensures, ← c.man.ensures, ← c.landed_man.ensures) three
