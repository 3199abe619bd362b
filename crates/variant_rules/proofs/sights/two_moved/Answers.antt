use Rattle.variant_rules.proofs.sights.two_moved.Goals as goal

pub returns : goal.returns
returns c size =
    let one = c.with.ensures _ (c.sights_of.ensures size) in
    let two = c.with-2.ensures _ one in
    let three = c.with-3.ensures _ two in
    let four = c.with-4.ensures _ three in
    rw (← c.man.ensures, ← c.man-2.ensures) four
