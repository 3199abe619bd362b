use Rattle.std.proofs.Common.{subst}
use Rattle.lobby_shelf.specs.Facts.{IsShelf}
use Rattle.lobby_shelf.proofs.Meaning.{least-found}
use Rattle.lobby_shelf.proofs.laws.the_least_is_found.Goals as goal

pub returns : goal.returns
returns c = least-found c.args.shelf.now c.args.one c.args.other (subst IsShelf c.shelf.view_is c.shelf.invariant)
