use Rattle.tables.proofs.table.Table.+sift.Given as goal

abbrev pub decreases-sift : goal.decreases-sift
decreases-sift g l = l.few
