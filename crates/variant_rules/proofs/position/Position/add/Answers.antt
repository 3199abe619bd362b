use Rattle.std.proofs.Common.{◌++◌, sym, ap, ◌∙◌}
use Rattle.variant_rules.proofs.PartLemmas.{if_allowed-yes}
use Rattle.variant_rules.proofs.position.Position.add.Goals as goal

pub returns : goal.returns
returns c =
    let out = c.args.out.now.items in
    c.in_ok-push.ensures.items
    ∙ ap (λ x. out ++ x)
    (sym (if_allowed-yes c.args.self.now c.args.m.now c.requires.is_move (c.requires.safe c.if-tried.false)))
