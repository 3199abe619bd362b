use Rattle.std.proofs.Common.{◌≢◌, ◌<◌, rules, sym, ap, ◌∙◌, None}
use Rattle.std.proofs.lemmas.Bool.{true≢false, ltb-true}
use Rattle.chess_model.specs.declared.man.Kind.TheVariants.{Pawn}
use Rattle.chess_model.specs.MoveList.{is_pawn_kind}
use Rattle.variant_rules.proofs.MoveLemmas.{move_of, plain_has, not_passing}
use Rattle.variant_rules.proofs.StateLemmas.{can-move}
use Rattle.variant_rules.proofs.position.Position.goes_untried.Goals as goal

pub returns : goal.returns
returns c e =
    let p = c.args.self.now in
    let k = c.args.k in
    let a = c.args.a in
    let b = c.next_square.result in
    let la : c.args.a < 64 = search rules in
    let lb : c.next_square.result < 64 = ltb-true b 64 e in
    let other : c.args.k ≢ Pawn = λ f.
    true≢false (ap is_pawn_kind (sym f) ∙ sym c.is_pawn_of_kind.ensures ∙ c.if-is_pawn_of_kind.false) in
    let reached = c.requires.all.reached b lb (c.next_square.ensures.found lb) in
    let move = move_of p k a b None la lb c.requires.held reached (plain_has p.to_move k b other) in
    let safe =
    (c.requires.guarded.from a la (λ h. true≢false (sym (c.has_square.ensures.value.1 h) ∙ c.if-has_square.false))).safe
    b None move
    (not_passing p.men p.to_move k a b c.requires.held other) in
    can-move p a b None (record { move = move; safe = safe })
