use Rattle.std.proofs.Common.{sym, ap, ◌∙◌}
use Rattle.std.proofs.lemmas.Bool.{true≢false}
use Rattle.chess_model.specs.MoveList.{is_en_passant}
use Rattle.chess_model.specs.Position.{Position}
use Rattle.variant_rules.proofs.position.Position.pawn_is_tried.Goals as goal

pub returns-then-tried : goal.returns-then-tried
returns-then-tried c free e = absurd (true≢false (sym c.if-tried.true ∙ e))

pub returns-else-tried : goal.returns-else-tried
returns-else-tried c free e =
    let usual =
    ap (λ (x : Position). is_en_passant x.men c.args.a c.args.b) (sym c.self.view_is) ∙ sym c.takes_en_passant.ensures
    ∙ e in
    record { safe = λ promo move. (free c.if-tried.false).safe c.args.b promo move usual }
