use Rattle.std.proofs.Common.{◌++◌, sym, ap, ◌∙◌}
use Rattle.std.proofs.lemmas.Bool.{true≢false}
use Rattle.std.proofs.lemmas.List.{append-nil}
use Rattle.chess_model.specs.declared.moves.Move.TheVariants.{Castle}
use Rattle.variant_rules.proofs.PartLemmas.{if_allowed-none}
use Rattle.variant_rules.proofs.position.Position.add_castling.Goals as goal

pub returns : goal.returns
returns c =
    let out = c.args.out.now.items in
    sym (ap (λ x. out ++ x) (if_allowed-none c.args.self.now (Castle c.args.long)
    (λ move. absurd (true≢false (sym (c.can_castle.ensures.1 move) ∙ c.if-can_castle.false)))) ∙ append-nil out)
