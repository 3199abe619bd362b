use Rattle.std.proofs.Common.{◌≡◌, List, not, sym, ap, subst, ◌∙◌}
use Rattle.std.specs.List.{filter, find}
use Rattle.seek_match.specs.declared.challenge.Challenge.{Challenge}
use Rattle.seek_match.specs.Matches.{stays, whose}
use Rattle.seek_match.proofs.Standing.{all_stay, found_from, found_to}
use Rattle.seek_match.proofs.match_book.MatchBook.first_failing.Goals as goal

pub returns-in-Some-clause-there : goal.returns-in-Some-clause-there
returns-in-Some-clause-there g c =
    (found_to (g.P.Predicate.passes c.args.test.now) c.args.who c.self.inside.rows c.args.self.now
    c.self.inside.challenged c.self.inside.challengers c.opponents_of.result.now c.in-Some.to.now
    c.self.invariant.opponents c.self.view_is c.opponents_of.ensures c.in-Some.ensures).0

pub returns-in-Some-clause-fails : goal.returns-in-Some-clause-fails
returns-in-Some-clause-fails g c =
    (found_to (g.P.Predicate.passes c.args.test.now) c.args.who c.self.inside.rows c.args.self.now
    c.self.inside.challenged c.self.inside.challengers c.opponents_of.result.now c.in-Some.to.now
    c.self.invariant.opponents c.self.view_is c.opponents_of.ensures c.in-Some.ensures).1

pub returns-in-Some-find-clause-there : goal.returns-in-Some-find-clause-there
returns-in-Some-find-clause-there g c =
    (found_from (g.P.Predicate.passes c.args.test.now) c.args.who c.self.inside.rows c.args.self.now
    c.self.inside.challenged c.self.inside.challengers c.opponents_of-2.result.now c.in-Some-find.from.now
    c.self.invariant.opponents c.self.view_is c.opponents_of-2.ensures c.in-Some-find.ensures).0

pub returns-in-Some-find-clause-fails : goal.returns-in-Some-find-clause-fails
returns-in-Some-find-clause-fails g c =
    (found_from (g.P.Predicate.passes c.args.test.now) c.args.who c.self.inside.rows c.args.self.now
    c.self.inside.challenged c.self.inside.challengers c.opponents_of-2.result.now c.in-Some-find.from.now
    c.self.invariant.opponents c.self.view_is c.opponents_of-2.ensures c.in-Some-find.ensures).1

pub returns-clause-none : goal.returns-clause-none
returns-clause-none g c =
    let who = c.args.who in
    let test = g.P.Predicate.passes c.args.test.now in
    let book = c.self.inside in
    subst (λ (rows : List Challenge). filter (λ challenge. stays test who (whose challenge)) rows ≡ rows) c.self.view_is
    (all_stay test who book.rows book.challenged book.challengers c.self.invariant.opponents
    (ap (find (λ to. not (test (record { from = who; to = to })))) (sym c.opponents_of.ensures)
    ∙ sym c.in_default.ensures)
    (ap (find (λ from. not (test (record { from = from; to = who })))) (sym c.opponents_of-2.ensures)
    ∙ sym c.in_default-find.ensures))
