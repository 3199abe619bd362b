use Rattle.std.proofs.Common.{◌≡◌, ℕ, ◌+◌, ◌<◌, ◌∷◌, ◌++◌, [], List, length, sym, ap, subst, ◌∙◌}
use Rattle.lobby_shelf.specs.declared.order.Order.{Order}
use Rattle.lobby_shelf.specs.declared.shelved.Shelved.{Shelved}
use Rattle.lobby_shelf.specs.Facts.{IsShelf}
use Rattle.lobby_shelf.specs.Numbers.{is_used, next_number, with_game}
use Rattle.lobby_shelf.specs.Shelf.{ShelfState, most_stored, game_order}
use Rattle.lobby_shelf.proofs.Held.{order_behind}
use Rattle.lobby_shelf.proofs.Keeping.{IsShelf-shelved}
use Rattle.lobby_shelf.proofs.Rising.{next_number-least}
use Rattle.lobby_shelf.proofs.game_shelf.GameShelf.shelve.Goals as goal

pub insert-requires-clause-unused : goal.insert-requires-clause-unused
insert-requires-clause-unused c =
    let least = next_number-least c.self.inside.games c.self.invariant.numbers in
    ap (λ (n : ℕ). is_used c.self.inside.games n) c.next_number-number.ensures.number ∙ least.unused

pub invariant_of-self : goal.invariant_of-self
invariant_of-self c =
    let shelf : ShelfState = record {
      games = c.self.inside.games;
      orders = c.self.inside.orders;
      made = c.self.inside.made;
      requests = c.self.inside.requests;
    } in
    let game = c.args.saving.game in
    let order : c.args.saving.order ≡ game_order shelf game =
    c.requires.order ∙ ap (λ (s : ShelfState). game_order s game) (sym c.self.view_is) in
    let orders : c.append.new.self ≡ shelf.orders ++ game_order shelf game ∷ [] =
    order_behind shelf.orders c.order.inside.cell c.append.new.self (game_order shelf game) c.order.invariant
    (c.order.view_is ∙ order) c.append.ensures in
    let games : c.insert.new.self ≡ with_game (record { number = next_number shelf.games; game = game }) shelf.games =
    c.insert.ensures
    ∙ ap (λ (n : ℕ). with_game (record { number = n; game = game }) shelf.games) c.next_number-number.ensures.number in
    let place = subst (λ (s : ShelfState). length s.games < most_stored) (sym c.self.view_is) c.requires.place in
    subst (λ (rows : List Shelved).
    IsShelf (record shelf { games = rows; orders = c.append.new.self; made = shelf.made + 1 }))
    (sym games)
    (subst (λ (rows : List Order). IsShelf (record shelf {
      games = with_game (record { number = next_number shelf.games; game = game }) shelf.games;
      orders = rows;
      made = shelf.made + 1;
    })) (sym orders)
    (IsShelf-shelved shelf game place c.requires.replays c.self.invariant))
