use Rattle.std.proofs.Common.{ap, ◌∙◌, ◌++◌}
use Rattle.std.proofs.lemmas.List.{append-nil}
use Rattle.chess_model.specs.declared.man.Colour.{Colour}
use Rattle.chess_model.specs.declared.man.Colour.TheVariants.{White}
use Rattle.game_board.specs.Charges.{charge_to, charges_of}
use Rattle.game_board.proofs.Charged.{charges_from-append}
use Rattle.game_board.proofs.Sides.{charge_to-own, charge_to-other}
use Rattle.game_board.proofs.laws.charges_follow_the_list.Goals as goal

pub returns-clause-own : goal.returns-clause-own
returns-clause-own c = λ side is_mover.
    let charge = c.args.next.now.charge in
    charges_from-append side White c.args.list.now c.args.next.now
    ∙ ap (λ (d : Colour). charges_of side c.args.list.now ++ charge_to side d charge) is_mover
    ∙ ap (λ cs. charges_of side c.args.list.now ++ cs) (charge_to-own side charge)

pub returns-clause-other : goal.returns-clause-other
returns-clause-other c = λ side is_mover.
    let charge = c.args.next.now.charge in
    charges_from-append side White c.args.list.now c.args.next.now
    ∙ ap (λ (d : Colour). charges_of side c.args.list.now ++ charge_to side d charge) is_mover
    ∙ ap (λ cs. charges_of side c.args.list.now ++ cs) (charge_to-other side charge)
    ∙ append-nil (charges_of side c.args.list.now)
