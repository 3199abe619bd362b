use Rattle.std.proofs.Common.{◌≡◌, ◌∷◌, ◌++◌, [], false, true, List, sym, ap, subst, ◌∙◌}
use Rattle.lobby_shelf.specs.declared.request.Request.{Request}
use Rattle.lobby_shelf.specs.Facts.{IsShelf}
use Rattle.lobby_shelf.specs.Numbers.{is_used}
use Rattle.lobby_shelf.specs.Shelf.{ShelfState, asks, with_request}
use Rattle.lobby_shelf.proofs.Held.{request_behind}
use Rattle.lobby_shelf.proofs.Keeping.{IsShelf-asked}
use Rattle.lobby_shelf.proofs.game_shelf.GameShelf.ask.Goals as goal

pub invariant_of-self : goal.invariant_of-self
invariant_of-self c =
    let shelf : ShelfState = record {
      games = c.self.inside.games;
      orders = c.self.inside.orders;
      made = c.self.inside.made;
      requests = c.self.inside.requests;
    } in
    let new : Request = record { by = c.args.by; game = c.args.game } in
    let same : c.append.new.self ≡ shelf.requests ++ new ∷ [] =
    request_behind shelf.requests c.asking.inside.cell c.append.new.self new c.asking.invariant
    (c.asking.view_is ∙ c.requires.request) c.append.ensures in
    let there = subst (λ (s : ShelfState). is_used s.games c.args.game ≡ true) (sym c.self.view_is) c.requires.stored in
    let none : asks shelf c.args.by c.args.game ≡ false =
    ap (λ (s : ShelfState). asks s c.args.by c.args.game) c.self.view_is ∙ sym c.if-asks.ensures in
    subst (λ (requests : List Request). IsShelf (record shelf { requests = requests }))
    (ap (λ t. with_request t shelf.requests new) none ∙ sym same)
    (IsShelf-asked shelf c.args.by c.args.game there c.self.invariant)
