use Rattle.std.proofs.Common.{◌≡◌, ◌<◌, ℕ, List, ap, sym, subst, ◌∙◌}
use Rattle.linked_desk.specs.Desk.{GameState}
use Rattle.linked_desk.specs.Offering.{with_offers}
use Rattle.linked_desk.specs.Tally.{count_of}
use Rattle.linked_desk.proofs.Counting.{agreed_tally, below_the_most}
use Rattle.linked_desk.proofs.game.Game.offer.Goals as goal

-- what takes effect leaves the counts as they were, so that there is room for one more
pub count-requires : goal.count-requires
count-requires c =
    let before : GameState = with_offers c.offer.new.self c.args.moment c.args.self.now in
    let kept : c.self-then-branch.inside.tally ≡ c.self.inside.tally =
    ap (λ (g : GameState). g.tally) c.self-then-branch.view_is
    ∙ ap (λ (g : GameState). g.tally) c.in_ok-agree.ensures.ok
    ∙ agreed_tally c.args.desk before c.args.moment c.args.seat c.args.offer
    ∙ sym (ap (λ (g : GameState). g.tally) c.self.view_is) in
    subst (λ (tally : List ℕ). count_of tally c.args.seat < 256) (sym kept)
    (below_the_most c.self.inside.tally c.args.seat (sym c.is_told_out.ensures ∙ c.if-is_told_out.false))
