use Rattle.std.proofs.Common.{subst}
use Rattle.lobby_shelf.specs.Facts.{IsShelf}
use Rattle.lobby_shelf.proofs.Meaning.{saved-first}
use Rattle.lobby_shelf.proofs.laws.saved_orders_are_the_first.Goals as goal

pub returns : goal.returns
returns c = saved-first c.args.shelf.now (subst IsShelf c.shelf.view_is c.shelf.invariant)
