use Rattle.std.proofs.Common.{◌≢◌, ◌++◌, ◌<◌, rules, inr, refl, sym, ap, subst, ◌∙◌, None}
use Rattle.std.proofs.lemmas.Bool.{true≢false}
use Rattle.chess_model.specs.declared.man.Kind.TheVariants.{Pawn}
use Rattle.chess_model.specs.declared.moves.Move.{Move}
use Rattle.chess_model.specs.Squares.{rank_of}
use Rattle.chess_model.specs.Placement.{last_rank}
use Rattle.chess_model.specs.Allowed.{IsSafeAfter}
use Rattle.variant_rules.specs.Listing.{if_allowed}
use Rattle.variant_rules.proofs.MoveLemmas.{move_of, pawn_between}
use Rattle.variant_rules.proofs.position.Position.add_pawn_moves.Goals as goal

pub add-requires-clause-safe : goal.add-requires-clause-safe
add-requires-clause-safe c e =
    let p = c.args.self.now in
    let la : c.args.a < 64 = search rules in
    let lb : c.args.b < 64 = search rules in
    let before : rank_of c.args.b ≢ last_rank p.to_move =
    λ h. true≢false (sym (c.is_on_last_rank.ensures.1 h) ∙ c.if-is_on_last_rank.false) in
    let move = move_of p Pawn c.args.a c.args.b None la lb c.requires.held c.requires.reached (inr (before, refl)) in
    subst (λ (m : Move). IsSafeAfter p m) (sym c.going.ensures)
    ((c.pawn_is_tried-tries.ensures c.requires.safe e).safe None move)

pub returns : goal.returns
returns c =
    let p = c.args.self.now in
    let before : rank_of c.args.b ≢ last_rank p.to_move =
    λ h. true≢false (sym (c.is_on_last_rank.ensures.1 h) ∙ c.if-is_on_last_rank.false) in
    c.in_ok-add.ensures ∙ ap (λ (m : Move). c.args.out.now.items ++ if_allowed p m) c.going.ensures
    ∙ ap (λ x. c.args.out.now.items ++ x) (sym (pawn_between p c.args.a c.args.b c.requires.held before))
