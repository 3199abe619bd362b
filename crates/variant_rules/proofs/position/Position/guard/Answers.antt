use Rattle.std.proofs.Common.{subst}
use Rattle.chess_model.specs.Position.{Position}
use Rattle.variant_rules.specs.Listing.{IsGuard}
use Rattle.variant_rules.proofs.GuardLemmas.{guard-is}
use Rattle.variant_rules.proofs.position.Position.guard.Goals as goal

pub returns : goal.returns
returns c =
    let b = c.self.inside in
    let p : Position = record {
      variant = b.variant;
      men = b.men;
      to_move = b.to_move;
      en_passant = b.en_passant;
      rights = b.rights;
      quiet = b.quiet;
      white = b.white;
      black = b.black;
    } in
    let here : IsGuard p c.watches.result = guard-is p c.watches.result c.self.invariant.squares c.watches.ensures in
    subst (λ (x : Position). IsGuard x c.watches.result) c.self.view_is here
