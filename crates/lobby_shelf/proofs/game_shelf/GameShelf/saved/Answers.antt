use Rattle.std.proofs.Common.{List, sym, subst}
use Rattle.lobby_shelf.specs.declared.order.Order.{Order}
use Rattle.lobby_shelf.specs.Facts.{IsShelf}
use Rattle.lobby_shelf.specs.Shelf.{ShelfState}
use Rattle.lobby_shelf.proofs.Keeping.{IsShelf-saved}
use Rattle.lobby_shelf.proofs.game_shelf.GameShelf.saved.Goals as goal

pub invariant_of-self : goal.invariant_of-self
invariant_of-self c =
    let shelf : ShelfState = record {
      games = c.self.inside.games;
      orders = c.self.inside.orders;
      made = c.self.inside.made;
      requests = c.self.inside.requests;
    } in
    subst (λ (orders : List Order). IsShelf (record shelf { orders = orders })) (sym c.retain.ensures)
    (IsShelf-saved shelf c.args.upto c.self.invariant)
