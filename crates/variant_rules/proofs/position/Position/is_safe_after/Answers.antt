use Rattle.std.proofs.Common.{◌↔◌, IsTrue, subst}
use Rattle.chess_model.specs.Position.{Position}
use Rattle.chess_model.specs.Allowed.{IsSafeAfter}
use Rattle.variant_rules.proofs.position.Position.is_safe_after.Goals as goal

pub returns : goal.returns
returns c =
    let b = c.self.inside in
    let p : Position = record {
      variant = b.variant;
      men = b.men;
      to_move = b.to_move;
      en_passant = b.en_passant;
      rights = b.rights;
      quiet = b.quiet;
      white = b.white;
      black = b.black;
    } in
    let safe : IsTrue c.are_safe.result ↔ IsSafeAfter p c.args.m.now =
    c.are_safe.ensures _ (c.sights_after.ensures c.self.invariant.squares) in
    subst (λ (x : Position). IsTrue c.are_safe.result ↔ IsSafeAfter x c.args.m.now) c.self.view_is safe
