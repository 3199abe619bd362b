use Rattle.std.proofs.Common.{◌<◌, length, sym, ◌∙◌, rules}
use Rattle.lobby_shelf.specs.Players.{is_of_both}
use Rattle.lobby_shelf.proofs.Marked.{next-fails, next-passes}
use Rattle.lobby_shelf.proofs.rack.Rack.next_of.Goals as goal

pub returns-then-is_of_both : goal.returns-then-is_of_both
returns-then-is_of_both c =
    let below : c.loop-place.place < length c.args.self.now = search rules in (
      below,
      λ row at. c.loop-place.invariant
          ∙ next-passes (is_of_both c.args.one.now c.args.other.now) c.args.self.now c.loop-place.place row at
          (sym (c.if-is_of_both.ensures row at)),
    )

pub loop-place-preserved : goal.loop-place-preserved
loop-place-preserved c =
    let below : c.loop-place.place < length c.args.self.now = search rules in
    c.loop-place.invariant
    ∙ next-fails (is_of_both c.args.one.now c.args.other.now) c.args.self.now c.loop-place.place below
    c.if-is_of_both.ensures
