use Rattle.std.proofs.Common.{List, map, ap, sym, subst, ◌∙◌}
use Rattle.chess_model.specs.declared.moves.Move.{Move}
use Rattle.chess_model.specs.Allowed.{Allowed}
use Rattle.chess_model.specs.Position.{Position, Stands}
use Rattle.pgn_book.specs.Games.{on_board}
use Rattle.pgn_book.specs.Reading.{Book}
use Rattle.pgn_book.proofs.Resolving.{at_moves}
use Rattle.chess_model.proofs.StandsAfter.{stands_on}
use Rattle.pgn_book.proofs.book.Book.make.Goals as goal

pub make-requires : goal.make-requires
make-requires c =
    subst (λ (p : Position). Allowed p c.args.m.now)
    (sym (at_moves c.self.inside.position c.self.inside.moves c.args.self.now.moves c.self.invariant.0
    c.self.invariant.1 (ap (λ (b : Book). b.moves) c.self.view_is)))
    c.requires

pub invariant_of-self-2 : goal.invariant_of-self-2
invariant_of-self-2 c = (
  c.make.ensures.variant ∙ c.self.invariant.0,
  subst (λ (l : List Move). Stands c.make.new.self (map on_board l) 1) (sym c.in_ok-push.ensures.ok)
      (stands_on c.self.inside.position c.make.new.self c.self.inside.moves c.args.m.now c.make.ensures.stands
      c.self.invariant.1),
)
