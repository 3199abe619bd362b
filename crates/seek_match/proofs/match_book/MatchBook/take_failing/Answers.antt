use Rattle.std.proofs.Common.{◌<◌, List, length, sym, ap, subst, ◌∙◌}
use Rattle.std.specs.List.{filter}
use Rattle.seek_match.specs.declared.challenge.Challenge.{Challenge}
use Rattle.seek_match.specs.Matches.{stays, whose}
use Rattle.seek_match.proofs.Standing.{fewer-without, filter-without, key_between}
use Rattle.seek_match.proofs.match_book.MatchBook.take_failing.Goals as goal

pub returns-clause-passing : goal.returns-clause-passing
returns-clause-passing g c =
    let gone = c.in-Some.gone in
    let stay = λ (challenge : Challenge). stays (g.P.Predicate.passes c.args.test.now) c.args.who (whose challenge) in
    ap (filter stay) c.remove.ensures.after
    ∙ filter-without stay gone.from gone.to
    (λ challenge is.
    ap (stays (g.P.Predicate.passes c.args.test.now) c.args.who) (key_between gone.from gone.to challenge is)
    ∙ c.in-Some.ensures.fails) c.args.self.now

pub returns-clause-fewer : goal.returns-clause-fewer
returns-clause-fewer g c = λ _.
    subst (λ (rows : List Challenge). length rows < length c.args.self.now) (sym c.remove.ensures.after)
    (fewer-without c.in-Some.gone.from c.in-Some.gone.to c.args.self.now c.in-Some.ensures.there)
