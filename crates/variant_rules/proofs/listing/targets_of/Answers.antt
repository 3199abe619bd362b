use Rattle.variant_rules.proofs.listing.targets_of.Goals as goal

pub returns-in-Knight : goal.returns-in-Knight
returns-in-Knight c = rw c.in-Knight.is (record { each = c.reach_of.ensures.each })

pub returns-in-Bishop : goal.returns-in-Bishop
returns-in-Bishop c = rw c.in-Bishop.is (record { each = c.reach_of-in-Bishop.ensures.each })

pub returns-in-Rook : goal.returns-in-Rook
returns-in-Rook c = rw c.in-Rook.is (record { each = c.reach_of-in-Rook.ensures.each })

pub returns-in-Queen : goal.returns-in-Queen
returns-in-Queen c = rw c.in-Queen.is (record { each = c.reach_of-in-Queen.ensures.each })

pub returns-in-King : goal.returns-in-King
returns-in-King c = rw c.in-King.is (record { each = c.reach_of-in-King.ensures.each })
