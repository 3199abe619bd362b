use Rattle.std.proofs.Common.{arith, ◌≤◌, length, ap, sym, subst, ◌∙◌}
use Rattle.chess_model.specs.Position.{Position}
use Rattle.chess_model.specs.Census.{men_on, men_in, all_men}
use Rattle.chess_model.specs.Allowed.{Allowed}
use Rattle.chess_model.specs.Next.{next}
use Rattle.chess_model.proofs.NoMoreMen.{all_men-next, length-place_after}
use Rattle.rules_plain.proofs.plain_board.PlainBoard.next.Goals as goal

pub invariant_of-result : goal.invariant_of-result
invariant_of-result c =
    let p : Position = record {
      variant = c.self.inside.variant;
      men = c.self.inside.men;
      to_move = c.self.inside.to_move;
      en_passant = c.self.inside.en_passant;
      rights = c.self.inside.rights;
      quiet = c.self.inside.quiet;
      white = c.self.inside.white;
      black = c.self.inside.black;
    } in
    let allowed : Allowed p c.args.m.now =
    (let P : Position → Type 0 = λ x. Allowed x c.args.m.now in subst P (sym c.self.view_is) c.requires) in
    let fewer : all_men (next p c.args.m.now) ≤ all_men p =
    all_men-next p c.args.m.now c.self.invariant.squares allowed in
    record {
      squares =
          ap length c.with_move.ensures ∙ length-place_after p.variant p.men p.to_move c.args.m.now
          ∙ c.self.invariant.squares;
      men =
          omega (
            arith,
            fewer,
            c.self.invariant.men,
            ap men_on c.with_move.ensures,
            ap men_in c.hand_next.ensures,
            ap men_in c.hand_next-2.ensures,
          );
    }
