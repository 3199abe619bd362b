use Rattle.std.proofs.Common.{◌≡◌, ◌<◌, false, List, length, sym, subst}
use Rattle.lobby_shelf.specs.declared.shelved.Shelved.{Shelved}
use Rattle.lobby_shelf.specs.Facts.{IsShelf}
use Rattle.lobby_shelf.specs.Numbers.{is_used}
use Rattle.lobby_shelf.specs.Shelf.{ShelfState, most_stored}
use Rattle.lobby_shelf.proofs.Keeping.{IsShelf-with_stored}
use Rattle.lobby_shelf.proofs.game_shelf.GameShelf.add.Goals as goal

pub invariant_of-self : goal.invariant_of-self
invariant_of-self c =
    let shelf : ShelfState = record {
      games = c.self.inside.games;
      orders = c.self.inside.orders;
      made = c.self.inside.made;
      requests = c.self.inside.requests;
    } in
    let unused =
    subst (λ (s : ShelfState). is_used s.games c.args.number ≡ false) (sym c.self.view_is) c.requires.unused in
    let room = subst (λ (s : ShelfState). length s.games < most_stored) (sym c.self.view_is) c.requires.room in
    subst (λ (games : List Shelved). IsShelf (record shelf { games = games })) (sym c.insert.ensures)
    (IsShelf-with_stored shelf c.args.number c.args.game c.requires.positive c.ranges.number.fits unused room
    c.requires.replays
    c.self.invariant)
