use Rattle.std.proofs.Common.{subst}
use Rattle.lobby_shelf.specs.Facts.{IsShelf}
use Rattle.lobby_shelf.proofs.laws.shelves_are_sound.Goals as goal

pub returns : goal.returns
returns c = subst IsShelf c.shelf.view_is c.shelf.invariant
