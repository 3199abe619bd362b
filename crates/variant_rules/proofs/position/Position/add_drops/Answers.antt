use Rattle.std.proofs.Common.{◌++◌, sym, ap, subst, ◌∙◌}
use Rattle.std.proofs.lemmas.Bool.{true≢false}
use Rattle.std.proofs.lemmas.List.{append-nil}
use Rattle.chess_model.specs.Position.{Position}
use Rattle.chess_model.specs.Allowed.{HasDrops}
use Rattle.variant_rules.proofs.WholeList.{no-drops, five-times}
use Rattle.variant_rules.proofs.position.Position.add_drops.Goals as goal

pub returns-then-not-has_drops : goal.returns-then-not-has_drops
returns-then-not-has_drops c =
    let out = c.args.out.now.items in
    let none : ¬ HasDrops c.args.self.now.variant =
    λ h.
    true≢false (sym (c.has_drops.ensures.1 (subst (λ (x : Position). HasDrops x.variant) (sym c.self.view_is) h))
    ∙ c.if-not-has_drops.true) in
    sym (ap (λ x. out ++ x) (no-drops c.args.self.now none) ∙ append-nil out)

pub returns : goal.returns
returns c =
    five-times c.args.self.now c.args.out.now.items c.add_drops_of.new.out.items c.add_drops_of-2.new.out.items
    c.add_drops_of-3.new.out.items
    c.add_drops_of-4.new.out.items c.add_drops_of-5.new.out.items
    c.in_ok-add_drops_of.ensures c.in_ok-add_drops_of-2.ensures c.in_ok-add_drops_of-3.ensures
    c.in_ok-add_drops_of-4.ensures c.in_ok-add_drops_of-5.ensures
