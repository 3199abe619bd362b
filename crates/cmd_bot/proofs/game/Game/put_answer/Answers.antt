use Rattle.std.proofs.Common.{◌++◌, ap, ◌∙◌}
use Rattle.chess_model.specs.Position.{Position}
use Rattle.house_bot.specs.AnswerText.{best_line}
use Rattle.cmd_bot.proofs.Games.{stands_at}
use Rattle.cmd_bot.proofs.game.Game.put_answer.Goals as goal

pub returns : goal.returns
returns c =
    let inside = c.self.inside in
    let old = c.args.out.now.items in
    c.in_ok-extend_from_slice.ensures.items ∙ ap (λ l. old ++ l) (c.as_slice.ensures.value ∙ c.in_ok-text.ensures.text)
    ∙ ap (λ (p : Position). old ++ best_line c.args.depth p)
    (stands_at inside.position inside.moves c.args.self.now c.self.invariant.1 c.self.view_is)
