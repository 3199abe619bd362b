use Rattle.std.proofs.Common.{◌≡◌, ◌+◌, ◌∷◌, ◌++◌, [], List, sym, subst}
use Rattle.lobby_shelf.specs.declared.order.Order.{Order}
use Rattle.lobby_shelf.specs.Facts.{IsShelf}
use Rattle.lobby_shelf.specs.Shelf.{ShelfState}
use Rattle.lobby_shelf.proofs.Held.{order_behind}
use Rattle.lobby_shelf.proofs.Keeping.{IsShelf-ordered}
use Rattle.lobby_shelf.proofs.game_shelf.GameShelf.order.Goals as goal

pub invariant_of-self : goal.invariant_of-self
invariant_of-self c =
    let shelf : ShelfState = record {
      games = c.self.inside.games;
      orders = c.self.inside.orders;
      made = c.self.inside.made;
      requests = c.self.inside.requests;
    } in
    let next : c.args.saving.number ≡ shelf.made + 1 =
    subst (λ (s : ShelfState). c.args.saving.number ≡ s.made + 1) (sym c.self.view_is) c.requires.next in
    let same : c.append.new.self ≡ shelf.orders ++ c.args.saving ∷ [] =
    order_behind shelf.orders c.saving.inside.cell c.append.new.self c.args.saving c.saving.invariant c.saving.view_is
    c.append.ensures in
    subst (λ (orders : List Order). IsShelf (record shelf { orders = orders; made = shelf.made + 1 })) (sym same)
    (IsShelf-ordered shelf c.args.saving next c.self.invariant)
