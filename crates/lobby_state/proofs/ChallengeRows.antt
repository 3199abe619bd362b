-- The challenges of members: some go, and one comes.
use Rattle.std.proofs.Common.{ℕ, Bool, not, eqb, List, filter, ap}
use Rattle.std.specs.Prelude.{Contains}
use Rattle.std.proofs.lemmas.Bool.{not-true, or_parts}
use Rattle.std.proofs.lemmas.List.Elements.{All-filter, All-push, All-weaker}
use Rattle.seek_match.specs.declared.challenge.Challenge.{Challenge}
use Rattle.seek_match.specs.Matches.{concerns, is_between, with_challenge, without_between, without_challenges_of}
use Rattle.seek_match.proofs.Pairs.{AreChallenges-filter, AreChallenges-with}
use Rattle.lobby_state.specs.WellFormed.{AreChallengesOf, IsBetweenMembers}
use Rattle.lobby_state.proofs.Lists.{All-filter_passing, Contains-filter}

-- some challenges go
pub AreChallengesOf-filter : (sessions : List ℕ) (p : Challenge → Bool) (challenges : List Challenge)
    → AreChallengesOf sessions challenges
    → AreChallengesOf sessions (filter p challenges)
AreChallengesOf-filter sessions p challenges h = record {
  pairs = AreChallenges-filter p challenges h.pairs;
  members = All-filter p (IsBetweenMembers sessions) challenges h.members;
}

-- there are more members
pub AreChallengesOf-more : (sessions more : List ℕ) (challenges : List Challenge)
    → ((s : ℕ) → Contains sessions s → Contains more s)
    → AreChallengesOf sessions challenges → AreChallengesOf more challenges
AreChallengesOf-more sessions more challenges step h = record {
  pairs = h.pairs;
  members = All-weaker (IsBetweenMembers sessions) (IsBetweenMembers more)
      (λ c b. record { from = step c.from b.from; to = step c.to b.to; differ = b.differ; terms = b.terms }) challenges
      h.members;
}

-- a member goes with its challenges
pub AreChallengesOf-without : (sessions : List ℕ) (session : ℕ) (challenges : List Challenge)
    → AreChallengesOf sessions challenges
    → AreChallengesOf (filter (λ s. not (eqb s session)) sessions) (without_challenges_of session challenges)
AreChallengesOf-without sessions session challenges h =
    let stays : ℕ → Bool = λ s. not (eqb s session) in
    let others : Challenge → Bool = λ c. not (concerns session c) in
    record {
      pairs = AreChallenges-filter others challenges h.pairs;
      members = All-filter_passing (IsBetweenMembers sessions) (IsBetweenMembers (filter stays sessions)) others
          (λ c passes b.
          let parts = or_parts (eqb c.from session) (eqb c.to session) (not-true (concerns session c) passes) in
          record {
            from = Contains-filter stays sessions c.from (ap not parts.0) b.from;
            to = Contains-filter stays sessions c.to (ap not parts.1) b.to;
            differ = b.differ;
            terms = b.terms;
          }) challenges h.members;
    }

-- a member challenges another
pub AreChallengesOf-with : (sessions : List ℕ) (new : Challenge) (challenges : List Challenge)
    → IsBetweenMembers sessions new
    → AreChallengesOf sessions challenges → AreChallengesOf sessions (with_challenge new challenges)
AreChallengesOf-with sessions new challenges between h = record {
  pairs = AreChallenges-with new challenges h.pairs;
  members = All-push (IsBetweenMembers sessions) (without_between new.from new.to challenges) new
      (All-filter (λ c. not (is_between new.from new.to c)) (IsBetweenMembers sessions) challenges h.members) between;
}
