use Rattle.std.proofs.Common.{arith, rules, ◌≡◌, Some, None, inr, sym, ap, ◌∙◌}
use Rattle.std.proofs.lemmas.Int.{to_z-of_z}
use Rattle.chess_model.specs.Result.{result}
use Rattle.house_bot.specs.Value.{end_value, value}
use Rattle.house_bot.proofs.Values.{value-ended, value-zero, goes_on, ended}
use Rattle.house_bot.proofs.worth.settled.Goals as goal
use mir.Syntax.{w32}
use mir.Val.{SFits}

pub returns-in-Some-clause-settled : goal.returns-in-Some-clause-settled
returns-in-Some-clause-settled c =
    let p = c.args.p.now in
    let e : Some c.in-Some.worth ≡ end_value (result p) c.args.depth =
    sym c.in-Some.is ∙ c.end_value.ensures ∙ ap (λ s. end_value s c.args.depth) c.state.ensures in
    let fits : SFits w32 c.in-Some.worth = search rules in
    to_z-of_z w32 c.in-Some.worth fits ∙ value-ended c.args.depth p c.in-Some.worth e

pub returns-in-Some-clause-over : goal.returns-in-Some-clause-over
returns-in-Some-clause-over c =
    let p = c.args.p.now in
    let e : Some c.in-Some.worth ≡ end_value (result p) c.args.depth =
    sym c.in-Some.is ∙ c.end_value.ensures ∙ ap (λ s. end_value s c.args.depth) c.state.ensures in
    inr (ended (result p) c.args.depth c.in-Some.worth e)

pub returns-then-depth-gt0-clause-open : goal.returns-then-depth-gt0-clause-open
returns-then-depth-gt0-clause-open c =
    let p = c.args.p.now in
    goes_on c.args.depth p c.if-depth-gt0.true
    (sym c.in_default.is ∙ c.end_value.ensures ∙ ap (λ s. end_value s c.args.depth) c.state.ensures)

pub returns-clause-settled : goal.returns-clause-settled
returns-clause-settled c =
    let p = c.args.p.now in
    let zero : c.args.depth ≡ 0 = omega (arith, c.if-depth-gt0.false) in
    let none : None ≡ end_value (result p) 0 =
    sym c.in_default.is ∙ c.end_value.ensures ∙ ap (λ s. end_value s c.args.depth) c.state.ensures
    ∙ ap (λ n. end_value (result p) n) zero in
    let fits : SFits w32 c.balance.result = search rules in
    to_z-of_z w32 c.balance.result fits ∙ c.balance.ensures ∙ value-zero p none ∙ ap (λ n. value n p) (sym zero)
