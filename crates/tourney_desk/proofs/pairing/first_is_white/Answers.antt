use Rattle.std.proofs.Common.{◌-◌, cond, sym, ap, ◌∙◌}
use Rattle.std.specs.Prelude.{not}
use Rattle.std.proofs.lemmas.Bool.{eq-eqb, ne_eqb}
use Rattle.tourney_desk.specs.Pairing.{is_odd, rounds_of}
use Rattle.tourney_desk.proofs.pairing.first_is_white.Goals as goal

pub returns-then-greater-rounds_of : goal.returns-then-greater-rounds_of
returns-then-greater-rounds_of c =
    let last =
    eq-eqb c.args.greater (rounds_of c.args.players) (c.if-greater-rounds_of.true ∙ c.rounds_of.ensures.value) in
    sym (ap (λ t. cond t (not (is_odd c.args.lesser)) (is_odd (c.args.greater - c.args.lesser))) last)

pub returns : goal.returns
returns c =
    let circle =
    ne_eqb c.args.greater (rounds_of c.args.players)
    (λ e. c.if-greater-rounds_of.false (e ∙ sym c.rounds_of.ensures.value)) in
    sym (ap (λ t. cond t (not (is_odd c.args.lesser)) (is_odd (c.args.greater - c.args.lesser))) circle)
