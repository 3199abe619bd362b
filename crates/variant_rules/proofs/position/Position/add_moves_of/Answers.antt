use Rattle.std.proofs.Common.{◌++◌, ℕ, sym, ap, ◌∙◌}
use Rattle.std.proofs.lemmas.List.{append-nil}
use Rattle.variant_rules.specs.Listing.{moves_between, moves_from_below}
use Rattle.variant_rules.proofs.MoveLemmas.{goals-start, goals-step, next-more, appended}
use Rattle.variant_rules.proofs.position.Position.add_moves_of.Goals as goal

pub loop-b-init : goal.loop-b-init
loop-b-init c =
    let out = c.args.out.now.items in
    record {
      done =
          sym
          (ap (λ x. out ++ x) (goals-start c.args.self.now c.args.k c.args.a c.goals-goals.result c.next_square-b.result
          c.goals-goals.ensures c.next_square-b.ensures.within c.next_square-b.ensures.first) ∙ append-nil out);
      here = c.next_square-b.ensures.found;
      within = c.next_square-b.ensures.within;
    }

pub loop-b-preserved : goal.loop-b-preserved
loop-b-preserved c =
    let p = c.args.self.now in
    let a = c.args.a in
    let b = c.loop-b.b in
    let n = c.next_square-b-in-loop-b.result in
    let next = c.next_square-b-in-loop-b.ensures in
    let more = goals-step p c.args.k a c.goals-goals.result b n c.goals-goals.ensures
    (next-more b n c.loop-b-test.true next.from next.within) next.within next.first
    ∙ ap (λ (t : ℕ). moves_from_below p a b ++ moves_between p a t) (sym c.square_of.ensures) in
    record {
      done = c.in_ok-add_moves.ensures
          ∙ appended c.args.out.now.items (moves_from_below p a b) (moves_between p a c.square_of.result)
          (moves_from_below p a n)
          c.loop-b.out.items c.loop-b.invariant.done more;
      here = next.found;
      within = next.within;
    }
