use Rattle.variant_rules.proofs.changes.with_gain.Goals as goal

pub with_capture-requires : goal.with_capture-requires
with_capture-requires c = c.requires c.in-Crazyhouse.is
