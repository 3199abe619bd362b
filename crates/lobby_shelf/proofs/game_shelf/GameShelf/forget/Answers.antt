use Rattle.std.proofs.Common.{List, not, sym, subst}
use Rattle.std.specs.Prelude.{◌==◌}
use Rattle.lobby_shelf.specs.declared.request.Request.{Request}
use Rattle.lobby_shelf.specs.Facts.{IsShelf}
use Rattle.lobby_shelf.specs.Shelf.{ShelfState}
use Rattle.lobby_shelf.proofs.Keeping.{IsShelf-fewer}
use Rattle.lobby_shelf.proofs.game_shelf.GameShelf.forget.Goals as goal

pub invariant_of-self : goal.invariant_of-self
invariant_of-self c =
    let shelf : ShelfState = record {
      games = c.self.inside.games;
      orders = c.self.inside.orders;
      made = c.self.inside.made;
      requests = c.self.inside.requests;
    } in
    subst (λ (requests : List Request). IsShelf (record shelf { requests = requests })) (sym c.retain.ensures)
    (IsShelf-fewer shelf (λ request. not (request.by == c.args.session)) c.self.invariant)
