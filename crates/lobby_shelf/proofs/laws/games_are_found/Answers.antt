use Rattle.std.proofs.Common.{subst}
use Rattle.lobby_shelf.specs.Facts.{IsShelf}
use Rattle.lobby_shelf.proofs.Meaning.{games-found}
use Rattle.lobby_shelf.proofs.laws.games_are_found.Goals as goal

pub returns : goal.returns
returns c = games-found c.args.shelf.now (subst IsShelf c.shelf.view_is c.shelf.invariant)
