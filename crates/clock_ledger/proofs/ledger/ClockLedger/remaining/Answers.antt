use Rattle.std.proofs.Common.{◌≡◌, ◌∙◌, ◌+◌, ◌*◌, ap, arith, rules, true}
use Rattle.std.proofs.lemmas.Int.{ints}
use Rattle.clock_ledger.specs.Clock.{given, time_spent, start_of, timed}
use Rattle.clock_ledger.proofs.Sums.{SumsUp-le}
use Rattle.clock_ledger.proofs.Remaining.{remaining_is}
use Rattle.clock_ledger.proofs.ledger.ClockLedger.remaining.Goals as goal

pub difference-requires-clause-spent_small : goal.difference-requires-clause-spent_small
difference-requires-clause-spent_small c = omega (arith, SumsUp-le _ _ c.self.invariant)

pub returns : goal.returns
returns c =
    let l = c.args.self.now in
    let inside = c.self.inside in
    let on : timed l ≡ true = search rules in
    let to_give : c.given_millis-given.result ≡ given l =
    c.given_millis-given.ensures.value
    ∙ ap (λ n. start_of inside.minutes inside.increment + inside.increment * 1000 * n) c.len.ensures.value
    ∙ ap given c.self.view_is
    in
    let to_take : inside.spent ≡ time_spent l = c.self.invariant.counted ∙ ap time_spent c.self.view_is in
    let left = remaining_is l c.given_millis-given.result inside.spent on to_give to_take in
    omega (arith, ints, SumsUp-le _ _ c.self.invariant, left)
