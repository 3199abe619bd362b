use Rattle.std.proofs.Common.{◌++◌, sym, ap, ◌∙◌}
use Rattle.std.proofs.lemmas.Bool.{true≢false}
use Rattle.std.proofs.lemmas.List.{append-nil}
use Rattle.chess_model.specs.declared.moves.Move.TheVariants.{Drop}
use Rattle.variant_rules.proofs.PartLemmas.{if_allowed-none}
use Rattle.variant_rules.proofs.position.Position.add_drop.Goals as goal

pub returns : goal.returns
returns c =
    let out = c.args.out.now.items in
    sym (ap (λ x. out ++ x) (if_allowed-none c.args.self.now (Drop c.args.k c.args.to)
    (λ move. absurd (true≢false (sym (c.can_drop.ensures.1 move) ∙ c.if-can_drop.false)))) ∙ append-nil out)
