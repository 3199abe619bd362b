use Rattle.std.proofs.Common.{◌++◌, ◌<◌, rules, sym, ap, subst, ◌∙◌, None}
use Rattle.chess_model.specs.declared.moves.Move.{Move}
use Rattle.chess_model.specs.Allowed.{IsMove, IsSafeAfter}
use Rattle.variant_rules.specs.Listing.{if_allowed}
use Rattle.variant_rules.proofs.MoveLemmas.{move_of, plain_has, not_passing, other_between}
use Rattle.variant_rules.proofs.position.Position.add_other_move.Goals as goal

pub add-requires : goal.add-requires
add-requires c =
    let p = c.args.self.now in
    let k = c.args.k in
    let a = c.args.a in
    let b = c.args.b in
    let la : c.args.a < 64 = search rules in
    let lb : c.args.b < 64 = search rules in
    let move =
    move_of p k a b None la lb c.requires.held c.requires.reached (plain_has p.to_move k b c.requires.other) in
    record {
      is_move = subst (λ (m : Move). IsMove p m) (sym c.going.ensures) move;
      safe = λ e. subst (λ (m : Move). IsSafeAfter p m) (sym c.going.ensures)
          ((c.requires.safe e).safe b None move (not_passing p.men p.to_move k a b c.requires.held c.requires.other));
    }

pub returns : goal.returns
returns c =
    let p = c.args.self.now in
    c.in_ok-add.ensures ∙ ap (λ (m : Move). c.args.out.now.items ++ if_allowed p m) c.going.ensures
    ∙ ap (λ x. c.args.out.now.items ++ x)
    (sym (other_between p c.args.k c.args.a c.args.b c.requires.held c.requires.other))
