use Rattle.std.proofs.Common.{arith, ◌≤◌, length, ap, sym, subst, ◌∙◌}
use Rattle.chess_model.specs.Position.{Position}
use Rattle.chess_model.specs.Census.{men_on, men_in, all_men}
use Rattle.chess_model.specs.Allowed.{Allowed}
use Rattle.chess_model.specs.Next.{next}
use Rattle.chess_model.proofs.NoMoreMen.{all_men-next, length-place_after}
use Rattle.variant_rules.proofs.position.Position.advance.Goals as goal

pub invariant_of-self : goal.invariant_of-self
invariant_of-self c =
    let b = c.self.inside in
    let p : Position = record {
      variant = b.variant;
      men = b.men;
      to_move = b.to_move;
      en_passant = b.en_passant;
      rights = b.rights;
      quiet = b.quiet;
      white = b.white;
      black = b.black;
    } in
    let allowed : Allowed p c.args.m.now =
    subst (λ (x : Position). Allowed x c.args.m.now) (sym c.self.view_is) c.requires in
    let fewer : all_men (next p c.args.m.now) ≤ all_men p =
    all_men-next p c.args.m.now c.self.invariant.squares allowed in
    record {
      squares =
          ap length c.change_men.ensures ∙ length-place_after p.variant p.men p.to_move c.args.m.now
          ∙ c.self.invariant.squares;
      men = λ other.
          omega (
            arith,
            fewer,
            c.self.invariant.men other,
            ap men_on c.change_men.ensures,
            ap men_in c.hand_next-white.ensures,
            ap men_in c.hand_next-black.ensures,
          );
    }
