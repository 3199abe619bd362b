use Rattle.std.proofs.Common.{◌≡◌, ◌++◌, All, sym, ap, subst, ◌∙◌, arith}
use Rattle.std.specs.List.{flat_map, range_with_len}
use Rattle.tourney_desk.specs.Pairing.{IsOfPlayers, pairs_of}
use Rattle.tourney_desk.proofs.Fair.{round_fair}
use Rattle.tourney_desk.proofs.Joined.{pairs_joined}
use Rattle.tourney_desk.proofs.Rows.{pairs_below-more, pairs_in-is}
use Rattle.tourney_desk.proofs.pairing.pairs_in.Goals as goal

pub loop-player-preserved : goal.loop-player-preserved
loop-player-preserved c =
    c.in_ok-push_pair.ensures
    ∙ ap (λ l. l ++ pairs_of c.args.players c.args.round c.loop-player.player) c.loop-player.invariant
    ∙ sym (pairs_below-more c.args.players c.args.round c.loop-player.player)

pub returns-clause-pairs : goal.returns-clause-pairs
returns-clause-pairs c =
    let e : c.loop-player.player ≡ c.args.players = omega arith in
    c.loop-player.invariant ∙ ap (λ k. flat_map (pairs_of c.args.players c.args.round) (range_with_len 0 k)) e
    ∙ pairs_in-is c.args.players c.args.round

pub returns-clause-fair : goal.returns-clause-fair
returns-clause-fair c = round_fair c.args.players c.args.round

pub returns-clause-joined : goal.returns-clause-joined
returns-clause-joined c =
    let e : c.loop-player.player ≡ c.args.players = omega arith in
    let is =
    c.loop-player.invariant ∙ ap (λ k. flat_map (pairs_of c.args.players c.args.round) (range_with_len 0 k)) e
    ∙ pairs_in-is c.args.players c.args.round in
    subst (All (IsOfPlayers c.args.players)) (sym is) (pairs_joined c.args.players c.args.round)
