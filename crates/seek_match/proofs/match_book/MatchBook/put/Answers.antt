use Rattle.std.proofs.Common.{Bool, List, not, [], ◌∷◌, ◌++◌, sym, ap, subst, ◌∙◌}
use Rattle.std.specs.List.{filter, list_any}
use Rattle.seek_match.specs.declared.challenge.Challenge.{Challenge}
use Rattle.seek_match.specs.Matches.{AreChallenges}
use Rattle.seek_match.specs.Opponents.{AreOpponents}
use Rattle.seek_match.proofs.Pairs.{AreChallenges-with, keyed_between}
use Rattle.seek_match.proofs.Standing.{AreOpponents-again, AreOpponents-same, AreOpponents-with, SaysTheSame-back}
use Rattle.seek_match.proofs.match_book.MatchBook.put.Goals as goal

pub invariant_of-self-then-has : goal.invariant_of-self-then-has
invariant_of-self-then-has c =
    let new = c.args.challenge in
    let rows = c.self.inside.rows in
    let ones = c.self.inside.challenged in
    let others = c.self.inside.challengers in
    let between = keyed_between new.from new.to in
    let there =
    ap (λ (test : Challenge → Bool). list_any test rows) (sym between) ∙ sym c.has.ensures ∙ c.if-has.true in
    let put = c.in_ok-put_last.ensures.ok
    ∙ ap (λ (test : Challenge → Bool). filter (λ other. not (test other)) rows ++ new ∷ []) between in
    record {
      pairs = subst AreChallenges (sym put) (AreChallenges-with new rows c.self.invariant.pairs);
      opponents =
          subst (λ (rows : List Challenge). AreOpponents ones others rows) (sym put)
          (AreOpponents-again new rows ones others there c.self.invariant.opponents);
    }

pub invariant_of-self-in-Err : goal.invariant_of-self-in-Err
invariant_of-self-in-Err c =
    let from = c.args.challenge.from in
    let to = c.args.challenge.to in
    let rows = c.self.inside.rows in
    let ones = c.self.inside.challenged in
    let others = c.self.inside.challengers in
    let absent =
    ap (λ (test : Challenge → Bool). list_any test rows) (sym (keyed_between from to)) ∙ sym c.has.ensures
    ∙ c.if-has.false in
    let same = c.in-Err.ensures.err in
    record {
      pairs = subst AreChallenges (sym same) c.self.invariant.pairs;
      opponents =
          subst
          (λ (rows : List Challenge). AreOpponents c.unlist_both.new.challenged c.unlist_both.new.challengers rows)
          (sym same)
          (AreOpponents-same rows ones _ others _
          (SaysTheSame-back from to ones _ _ (c.self.invariant.opponents.by_first from to ∙ absent)
          c.in_ok-list_both.ensures.challenged c.unlist_both.ensures.challenged)
          (SaysTheSame-back to from others _ _ (c.self.invariant.opponents.by_second from to ∙ absent)
          c.in_ok-list_both.ensures.challengers c.unlist_both.ensures.challengers) c.self.invariant.opponents);
    }

pub invariant_of-self-in_default : goal.invariant_of-self-in_default
invariant_of-self-in_default c =
    let new = c.args.challenge in
    let rows = c.self.inside.rows in
    let put = c.in_default.ensures.ok
    ∙ ap (λ (test : Challenge → Bool). filter (λ other. not (test other)) rows ++ new ∷ [])
    (keyed_between new.from new.to) in
    record {
      pairs = subst AreChallenges (sym put) (AreChallenges-with new rows c.self.invariant.pairs);
      opponents =
          subst (λ (rows : List Challenge). AreOpponents c.list_both.new.challenged c.list_both.new.challengers rows)
          (sym put)
          (AreOpponents-with new rows _ _ _ _ c.in_ok-list_both.ensures.challenged
          c.in_ok-list_both.ensures.challengers c.self.invariant.opponents);
    }
