use Rattle.std.proofs.Common.{◌++◌, ◌∷◌, [], append-nil, sym, ap, ◌∙◌}
use Rattle.tourney_desk.proofs.Rows.{pairs_of-none, pairs_of-one}
use Rattle.tourney_desk.proofs.pairing.push_pair.Goals as goal

pub returns-in_default : goal.returns-in_default
returns-in_default c =
    let none = rw c.in_default.is at c.opponent_above.ensures.none in
    sym (ap (λ l. c.args.pairs.now.items ++ l) (pairs_of-none c.args.players c.args.round c.args.player none)
    ∙ append-nil c.args.pairs.now.items)

pub returns : goal.returns
returns c =
    let o = c.in-Some.opponent in
    let one =
    pairs_of-one c.args.players c.args.round c.args.player o c.in-Some.ensures.above c.in-Some.ensures.below
    c.in-Some.ensures.met c.in-Some.ensures.alone in
    c.in_ok-push.ensures.items ∙ ap (λ p. c.args.pairs.now.items ++ p ∷ []) c.as_pair.ensures
    ∙ ap (λ l. c.args.pairs.now.items ++ l) (sym one)
