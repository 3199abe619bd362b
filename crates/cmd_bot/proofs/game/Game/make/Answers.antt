use Rattle.std.proofs.Common.{List, map, sym, subst, ◌∙◌}
use Rattle.chess_model.specs.declared.moves.Move.{Move}
use Rattle.chess_model.specs.Allowed.{Allowed}
use Rattle.chess_model.specs.Position.{Position, Stands}
use Rattle.cmd_bot.specs.Game.{on_board}
use Rattle.cmd_bot.proofs.Games.{stands_at}
use Rattle.chess_model.proofs.StandsAfter.{stands_on}
use Rattle.cmd_bot.proofs.game.Game.make.Goals as goal

pub make-requires : goal.make-requires
make-requires c =
    let inside = c.self.inside in
    subst (λ (p : Position). Allowed p c.args.m.now)
    (sym (stands_at inside.position inside.moves c.args.self.now c.self.invariant.1 c.self.view_is)) c.requires

pub invariant_of-self-2 : goal.invariant_of-self-2
invariant_of-self-2 c = (
  λ e. c.self.invariant.0 (sym c.make.ensures.variant ∙ e),
  subst (λ (l : List Move). Stands c.make.new.self (map on_board l) 1) (sym c.in_ok-push.ensures.ok)
      (stands_on c.self.inside.position c.make.new.self c.self.inside.moves c.args.m.now c.make.ensures.stands
      c.self.invariant.1),
)
