use Rattle.std.proofs.Common.{Bool, List, is_some, not, sym, ap, subst, ◌∙◌}
use Rattle.std.specs.Prelude.{◌==◌, ◌&&◌}
use Rattle.std.specs.List.{filter, list_any}
use Rattle.tables.proofs.Firsts.{is_some-find}
use Rattle.seek_match.specs.declared.challenge.Challenge.{Challenge}
use Rattle.seek_match.specs.Matches.{AreChallenges, is_between}
use Rattle.seek_match.specs.Opponents.{AreOpponents}
use Rattle.seek_match.proofs.Standing.{AreOpponents-without}
use Rattle.seek_match.proofs.Pairs.{AreChallenges-filter, keyed_between}
use Rattle.seek_match.proofs.match_book.MatchBook.remove.Goals as goal

pub invariant_of-self : goal.invariant_of-self
invariant_of-self c =
    let from = c.args.from in
    let to = c.args.to in
    let rows = c.self.inside.rows in
    let gone = c.shrink.ensures ∙ c.remove-removed.ensures.rest
    ∙ ap (λ (test : Challenge → Bool). filter (λ challenge. not (test challenge)) rows) (keyed_between from to) in
    record {
      pairs =
          subst AreChallenges (sym gone)
          (AreChallenges-filter (λ challenge. not (is_between from to challenge)) rows c.self.invariant.pairs);
      opponents =
          subst
          (λ (left : List Challenge). AreOpponents c.unlist_both.new.challenged c.unlist_both.new.challengers left)
          (sym gone)
          (AreOpponents-without from to rows _ _ _ _ c.unlist_both.ensures.challenged c.unlist_both.ensures.challengers
          c.self.invariant.opponents);
    }

pub returns-clause-found : goal.returns-clause-found
returns-clause-found c =
    c.is_some.ensures ∙ ap is_some c.remove-removed.ensures.removed
    ∙ is_some-find (λ challenge. (c.args.from == challenge.from) && (c.args.to == challenge.to)) c.self.inside.rows
    ∙ ap (λ (test : Challenge → Bool). list_any test c.self.inside.rows) (keyed_between c.args.from c.args.to)
    ∙ ap (list_any (is_between c.args.from c.args.to)) c.self.view_is
