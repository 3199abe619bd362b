use Rattle.std.proofs.Common.{List, not, sym, subst}
use Rattle.lobby_shelf.specs.declared.request.Request.{Request}
use Rattle.lobby_shelf.specs.Facts.{IsShelf}
use Rattle.lobby_shelf.specs.Shelf.{ShelfState, is_by_seated}
use Rattle.lobby_shelf.proofs.Keeping.{IsShelf-fewer}
use Rattle.lobby_shelf.proofs.game_shelf.GameShelf.forget_seated.Goals as goal

pub invariant_of-self : goal.invariant_of-self
invariant_of-self c =
    let shelf : ShelfState = record {
      games = c.self.inside.games;
      orders = c.self.inside.orders;
      made = c.self.inside.made;
      requests = c.self.inside.requests;
    } in
    subst (λ (requests : List Request). IsShelf (record shelf { requests = requests })) (sym c.retain.ensures)
    (IsShelf-fewer shelf (λ request. not (is_by_seated c.args.seats.now request)) c.self.invariant)
