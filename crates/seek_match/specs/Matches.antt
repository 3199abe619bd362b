-- Challenges: games that a player offers to one other. This server's own.
use Rattle.std.specs.Prelude.{◌≡◌, ℕ, ◌==◌, Bool, false, not, ◌&&◌, ◌||◌, List, [], ◌∷◌, ◌++◌, Option, None, Some}
use Rattle.std.specs.List.{filter, find, list_any}
use Rattle.seek_match.specs.declared.challenge.Challenge.{Challenge}
use Rattle.seek_match.specs.declared.challenge.ChallengeKey.{ChallengeKey}

-- the challenge is by the first player to the second
abbrev pub is_between : ℕ → ℕ → Challenge → Bool
is_between from to challenge = (challenge.from == from) && (challenge.to == to)

-- the challenge is to this player, and by that one, if one is given
abbrev pub is_to : Option ℕ → ℕ → Challenge → Bool
is_to None to challenge = challenge.to == to
is_to (Some from) to challenge = is_between from to challenge

-- the oldest such challenge, if there is one
abbrev pub challenge_to : List Challenge → Option ℕ → ℕ → Option Challenge
challenge_to challenges from to = find (is_to from to) challenges

-- the oldest challenge by this player, if there is one
abbrev pub challenge_by : List Challenge → ℕ → Option Challenge
challenge_by challenges from = find (λ challenge. challenge.from == from) challenges

-- the challenges without that by the first player to the second
abbrev pub without_between : ℕ → ℕ → List Challenge → List Challenge
without_between from to challenges = filter (λ challenge. not (is_between from to challenge)) challenges

-- the challenge is by this player or to it
abbrev pub concerns : ℕ → Challenge → Bool
concerns who challenge = (challenge.from == who) || (challenge.to == who)

-- whose challenge it is
abbrev pub whose : Challenge → ChallengeKey
whose challenge = record { from = challenge.from; to = challenge.to }

-- a challenge stays that is neither by this player nor to it, or whose key passes the test
abbrev pub stays : (ChallengeKey → Bool) → ℕ → ChallengeKey → Bool
stays test who key = not ((key.from == who) || (key.to == who)) || test key

-- there is a challenge by the first player to the second
abbrev pub has_challenge : List Challenge → ℕ → ℕ → Bool
has_challenge challenges from to = list_any (is_between from to) challenges

-- the challenges without those by this player and to it
abbrev pub without_challenges_of : ℕ → List Challenge → List Challenge
without_challenges_of who challenges = filter (λ challenge. not (concerns who challenge)) challenges

-- the two challenges are by the same player to the same player
abbrev pub is_same_pair : Challenge → Challenge → Bool
is_same_pair new old = is_between new.from new.to old

-- nobody has two challenges to one player
abbrev pub AreChallenges : List Challenge → Type 0
AreChallenges [] = Unit {0}
AreChallenges (challenge ∷ challenges) =
    (list_any (is_same_pair challenge) challenges ≡ false) × AreChallenges challenges

-- the challenges with a new one last; an older one by the same player to the same player goes
abbrev pub with_challenge : Challenge → List Challenge → List Challenge
with_challenge new challenges = without_between new.from new.to challenges ++ new ∷ []
