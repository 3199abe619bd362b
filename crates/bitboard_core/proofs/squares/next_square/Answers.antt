use Rattle.bitboard_core.proofs.NextSquares.{next-from, next-found, next-first}
use Rattle.bitboard_core.proofs.squares.next_square.Goals as goal

pub returns-clause-from : goal.returns-clause-from
returns-clause-from c = next-from c.args.set c.args.n c.ranges.set.fits c.if-n-ge64.false

pub returns-clause-found : goal.returns-clause-found
returns-clause-found c = next-found c.args.set c.args.n c.ranges.set.fits c.if-n-ge64.false

pub returns-clause-first : goal.returns-clause-first
returns-clause-first c = next-first c.args.set c.args.n c.ranges.set.fits c.if-n-ge64.false
