use Rattle.std.proofs.Common.{sym, ◌∙◌}
use Rattle.cmd_demo.proofs.Saying.{one_said}
use Rattle.cmd_demo.proofs.said.chosen.Goals as goal

pub returns : goal.returns
returns c =
    one_said c.plain.result c.args.moves.now c.args.draws.now c.draw-place.result c.draw-place.new.self
    c.index-moves-place.result c.bytes.result.now
    (sym c.is_empty.ensures ∙ c.if-is_empty.false) c.draw-place.ensures.value c.draw-place.ensures.within
    c.index-moves-place.is (c.bytes.ensures.value ∙ c.spelling-text.ensures.text) c.draw-place.ensures.on
    c.plain.ensures
