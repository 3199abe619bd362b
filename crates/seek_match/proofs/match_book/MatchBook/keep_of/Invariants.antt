use Rattle.std.proofs.Common.{◌≡◌, length}
use Rattle.std.specs.List.{filter}
use Rattle.seek_match.specs.Matches.{stays, whose}
use Rattle.seek_match.proofs.match_book.MatchBook.keep_of.Given as goal

-- what went would not have stayed
abbrev pub invariant-loop : goal.invariant-loop
invariant-loop g l =
    filter (λ challenge. stays (g.P.Predicate.passes l.test) l.who (whose challenge)) l.self
    ≡ filter (λ challenge. stays (g.P.Predicate.passes l.test) l.who (whose challenge)) l.fn.self

abbrev pub decreases-loop : goal.decreases-loop
decreases-loop g l = length l.self
