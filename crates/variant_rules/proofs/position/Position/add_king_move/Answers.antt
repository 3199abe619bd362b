use Rattle.std.proofs.Common.{◌++◌, ◌∷◌, [], ◌<◌, rules, sym, ap, ◌∙◌, None}
use Rattle.std.proofs.lemmas.Bool.{true≢false}
use Rattle.std.proofs.lemmas.List.{append-nil}
use Rattle.chess_model.specs.declared.man.Kind.TheVariants.{King}
use Rattle.chess_model.specs.declared.moves.Move.TheVariants.{Plain}
use Rattle.variant_rules.proofs.PartLemmas.{if_allowed-yes, if_allowed-unsafe}
use Rattle.variant_rules.proofs.MoveLemmas.{move_of, plain_has, other_between, king-apart}
use Rattle.variant_rules.proofs.position.Position.add_king_move.Goals as goal

pub returns-then-not-king_may_go : goal.returns-then-not-king_may_go
returns-then-not-king_may_go c =
    let p = c.args.self.now in
    let a = c.args.a in
    let b = c.args.b in
    let out = c.args.out.now.items in
    sym (ap (λ x. out ++ x) (other_between p King a b c.requires.held king-apart
    ∙ if_allowed-unsafe p (Plain a b None)
    (λ s. absurd (true≢false (sym (c.king_may_go.ensures.1 s) ∙ c.if-not-king_may_go.true))))
    ∙ append-nil out)

pub returns : goal.returns
returns c =
    let p = c.args.self.now in
    let a = c.args.a in
    let b = c.args.b in
    let out = c.args.out.now.items in
    let la : c.args.a < 64 = search rules in
    let lb : c.args.b < 64 = search rules in
    let move =
    move_of p King a b None la lb c.requires.held c.requires.reached (plain_has p.to_move King b king-apart) in
    c.in_ok-push.ensures.items ∙ ap (λ m. out ++ m ∷ []) c.going.ensures
    ∙ ap (λ x. out ++ x) (sym (other_between p King a b c.requires.held king-apart
    ∙ if_allowed-yes p (Plain a b None) move (c.king_may_go.ensures.0 c.if-not-king_may_go.false)))
