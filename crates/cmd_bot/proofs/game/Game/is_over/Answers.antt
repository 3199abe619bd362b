use Rattle.std.proofs.Common.{sym, ap, ◌∙◌, length}
use Rattle.chess_model.specs.Result.{is_end}
use Rattle.cmd_bot.specs.Game.{BotGame}
use Rattle.cmd_bot.proofs.Games.{over_at_end, over_by_count, stands_at}
use Rattle.cmd_bot.proofs.game.Game.is_over.Goals as goal

pub returns-then-is_end : goal.returns-then-is_end
returns-then-is_end c =
    let inside = c.self.inside in
    over_at_end inside.position c.args.self.now
    (stands_at inside.position inside.moves c.args.self.now c.self.invariant.1 c.self.view_is)
    (sym (ap is_end c.state.ensures) ∙ sym c.is_end.ensures ∙ c.if-is_end.true)

pub returns : goal.returns
returns c =
    let inside = c.self.inside in
    over_by_count inside.position c.args.self.now c.len.result
    (stands_at inside.position inside.moves c.args.self.now c.self.invariant.1 c.self.view_is)
    (c.len.ensures ∙ ap (λ (g : BotGame). length g.moves) c.self.view_is)
    (sym (ap is_end c.state.ensures) ∙ sym c.is_end.ensures ∙ c.if-is_end.false)
