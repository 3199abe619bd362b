use Rattle.std.proofs.Common.{◌++◌, ◌<◌, rules, inl, sym, ap, subst, ◌∙◌, Some}
use Rattle.chess_model.specs.declared.man.Kind.TheVariants.{Pawn, Knight, Bishop, Rook, Queen}
use Rattle.chess_model.specs.declared.moves.Move.{Move}
use Rattle.chess_model.specs.declared.moves.Move.TheVariants.{Plain}
use Rattle.chess_model.specs.Allowed.{IsSafeAfter}
use Rattle.variant_rules.specs.Listing.{if_allowed}
use Rattle.variant_rules.proofs.MoveLemmas.{move_of, last_between}
use Rattle.variant_rules.proofs.WholeList.{four-times}
use Rattle.variant_rules.proofs.position.Position.add_promotions.Goals as goal

pub add-requires-clause-safe : goal.add-requires-clause-safe
add-requires-clause-safe c e =
    let p = c.args.self.now in
    let la : c.args.a < 64 = search rules in
    let lb : c.args.b < 64 = search rules in
    let move =
    move_of p Pawn c.args.a c.args.b (Some Queen) la lb c.requires.held c.requires.reached
    (inl (c.requires.last, tt)) in
    subst (λ (m : Move). IsSafeAfter p m) (sym c.promoting.ensures) ((c.requires.safe e).safe (Some Queen) move)

pub add-requires-2-clause-safe : goal.add-requires-2-clause-safe
add-requires-2-clause-safe c e =
    let p = c.args.self.now in
    let la : c.args.a < 64 = search rules in
    let lb : c.args.b < 64 = search rules in
    let move =
    move_of p Pawn c.args.a c.args.b (Some Rook) la lb c.requires.held c.requires.reached (inl (c.requires.last, tt)) in
    subst (λ (m : Move). IsSafeAfter p m) (sym c.promoting-2.ensures) ((c.requires.safe e).safe (Some Rook) move)

pub add-requires-3-clause-safe : goal.add-requires-3-clause-safe
add-requires-3-clause-safe c e =
    let p = c.args.self.now in
    let la : c.args.a < 64 = search rules in
    let lb : c.args.b < 64 = search rules in
    let move =
    move_of p Pawn c.args.a c.args.b (Some Bishop) la lb c.requires.held c.requires.reached
    (inl (c.requires.last, tt)) in
    subst (λ (m : Move). IsSafeAfter p m) (sym c.promoting-3.ensures) ((c.requires.safe e).safe (Some Bishop) move)

pub add-requires-4-clause-safe : goal.add-requires-4-clause-safe
add-requires-4-clause-safe c e =
    let p = c.args.self.now in
    let la : c.args.a < 64 = search rules in
    let lb : c.args.b < 64 = search rules in
    let move =
    move_of p Pawn c.args.a c.args.b (Some Knight) la lb c.requires.held c.requires.reached
    (inl (c.requires.last, tt)) in
    subst (λ (m : Move). IsSafeAfter p m) (sym c.promoting-4.ensures) ((c.requires.safe e).safe (Some Knight) move)

pub returns : goal.returns
returns c =
    let p = c.args.self.now in
    let a = c.args.a in
    let b = c.args.b in
    let o = c.args.out.now.items in
    four-times o c.add.new.out.items c.add-2.new.out.items c.add-3.new.out.items c.add-4.new.out.items
    (if_allowed p (Plain a b (Some Queen))) (if_allowed p (Plain a b (Some Rook)))
    (if_allowed p (Plain a b (Some Bishop))) (if_allowed p (Plain a b (Some Knight)))
    _
    (c.in_ok-add.ensures ∙ ap (λ (m : Move). o ++ if_allowed p m) c.promoting.ensures)
    (c.in_ok-add-2.ensures ∙ ap (λ (m : Move). c.add.new.out.items ++ if_allowed p m) c.promoting-2.ensures)
    (c.in_ok-add-3.ensures ∙ ap (λ (m : Move). c.add-2.new.out.items ++ if_allowed p m) c.promoting-3.ensures)
    (c.in_ok-add-4.ensures ∙ ap (λ (m : Move). c.add-3.new.out.items ++ if_allowed p m) c.promoting-4.ensures)
    (last_between p a b c.requires.held c.requires.last)
