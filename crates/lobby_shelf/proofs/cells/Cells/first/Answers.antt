use Rattle.std.proofs.Common.{◌≡◌, ◌∷◌, ◌++◌, [], take, drop, sym, ap, ◌∙◌, rules}
use Rattle.lobby_shelf.proofs.Lists.{take_step, drop_step}
use Rattle.lobby_shelf.proofs.cells.Cells.first.Goals as goal

pub loop-place-preserved : goal.loop-place-preserved
loop-place-preserved g c =
    let next = c.next.ensures.steps in
    let place = c.loop-place._place in
    let left : drop place c.args.self.now ≡ c.in-Some.item.now ∷ c.next.new.self =
    sym c.loop-place.invariant.left ∙ search rules in
    record {
      copied = c.in_ok-push.ensures.ok
          ∙ ap (λ zs. zs ++ c.in_ok-duplicate.field-0 ∷ []) c.loop-place.invariant.copied
          ∙ ap (λ x. take place c.args.self.now ++ x ∷ []) c.in_ok-duplicate.ensures
          ∙ sym (take_step place c.args.self.now c.in-Some.item.now c.next.new.self left);
      left = sym (drop_step place c.args.self.now c.in-Some.item.now c.next.new.self left);
    }
