use Rattle.std.proofs.Common.{◌≡◌, ◌+◌, ◌∷◌, ◌++◌, [], List, sym, ap, subst, ◌∙◌}
use Rattle.lobby_shelf.specs.declared.order.Order.{Order}
use Rattle.lobby_shelf.specs.declared.request.Request.{Request}
use Rattle.lobby_shelf.specs.declared.shelved.Shelved.{Shelved}
use Rattle.lobby_shelf.specs.Facts.{IsShelf}
use Rattle.lobby_shelf.specs.Numbers.{without_game}
use Rattle.lobby_shelf.specs.Shelf.{ShelfState, removal_order}
use Rattle.lobby_shelf.proofs.Held.{order_behind}
use Rattle.lobby_shelf.proofs.Keeping.{IsShelf-taken_off}
use Rattle.lobby_shelf.proofs.game_shelf.GameShelf.take_off.Goals as goal

pub invariant_of-self : goal.invariant_of-self
invariant_of-self c =
    let shelf : ShelfState = record {
      games = c.self.inside.games;
      orders = c.self.inside.orders;
      made = c.self.inside.made;
      requests = c.self.inside.requests;
    } in
    let number = c.args.number in
    let order : c.args.saving ≡ removal_order shelf number =
    c.requires.order ∙ ap (λ (s : ShelfState). removal_order s number) (sym c.self.view_is) in
    let orders : c.append.new.self ≡ shelf.orders ++ removal_order shelf number ∷ [] =
    order_behind shelf.orders c.saving.inside.cell c.append.new.self (removal_order shelf number) c.saving.invariant
    (c.saving.view_is ∙ order) c.append.ensures in
    subst (λ (rows : List Shelved). IsShelf (record shelf {
      games = rows;
      orders = c.append.new.self;
      made = shelf.made + 1;
      requests = c.retain.new.self;
    })) (sym c.remove.ensures)
    (subst (λ (rows : List Order). IsShelf (record shelf {
      games = without_game number shelf.games;
      orders = rows;
      made = shelf.made + 1;
      requests = c.retain.new.self;
    })) (sym orders)
    (subst (λ (rows : List Request). IsShelf (record shelf {
      games = without_game number shelf.games;
      orders = shelf.orders ++ removal_order shelf number ∷ [];
      made = shelf.made + 1;
      requests = rows;
    })) (sym c.retain.ensures)
    (IsShelf-taken_off shelf number c.self.invariant)))
