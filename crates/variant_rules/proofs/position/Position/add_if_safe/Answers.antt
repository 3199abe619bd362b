use Rattle.std.proofs.Common.{◌++◌, sym, ap, ◌∙◌}
use Rattle.std.proofs.lemmas.Bool.{true≢false}
use Rattle.std.proofs.lemmas.List.{append-nil}
use Rattle.variant_rules.proofs.PartLemmas.{if_allowed-yes, if_allowed-unsafe}
use Rattle.variant_rules.proofs.position.Position.add_if_safe.Goals as goal

pub returns-then-not-is_safe_after : goal.returns-then-not-is_safe_after
returns-then-not-is_safe_after c =
    let out = c.args.out.now.items in
    sym (ap (λ x. out ++ x) (if_allowed-unsafe c.args.self.now c.args.m.now
    (λ s. absurd (true≢false (sym (c.is_safe_after.ensures.1 s) ∙ c.if-not-is_safe_after.true)))) ∙ append-nil out)

pub returns : goal.returns
returns c =
    let out = c.args.out.now.items in
    c.in_ok-push.ensures.items
    ∙ ap (λ x. out ++ x)
    (sym (if_allowed-yes c.args.self.now c.args.m.now c.requires.is_move
    (c.is_safe_after.ensures.0 c.if-not-is_safe_after.false)))
