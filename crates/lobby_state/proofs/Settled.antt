-- As a game starts its players' challenges are gone through, one player after another: those that are settled go.
use Rattle.std.proofs.Common.{◌≡◌, ℕ, Bool, true, false, not, cond, List, [], ◌∷◌, true≢false, refl, sym, ap, ◌∙◌}
use Rattle.std.specs.Prelude.{◌==◌, ◌&&◌, ◌||◌, is_some}
use Rattle.std.specs.List.{filter, list_any, position}
use Rattle.std.proofs.lemmas.Bool.{or_right}
use Rattle.fics_words.specs.Seats.{plays_as, seat_list}
use Rattle.fics_words.specs.declared.player.Player.{Player}
use Rattle.fics_words.specs.declared.seats.Seats.{Seats}
use Rattle.lobby_shelf.proofs.Requests.{turned}
use Rattle.seek_match.specs.declared.challenge.Challenge.{Challenge}
use Rattle.seek_match.specs.declared.challenge.ChallengeKey.{ChallengeKey}
use Rattle.seek_match.specs.Matches.{concerns, stays, whose}
use Rattle.lobby_state.specs.declared.member.Member.{Member}
use Rattle.lobby_state.specs.Start.{is_bound, is_giver, is_seated, is_settled}
use Rattle.lobby_state.proofs.NamedApart.{no_place}
use Rattle.tables.proofs.Firsts.{find-absent}

-- the challenge is by one of these players or to one
abbrev concerns_any : List Player → Challenge → Bool
concerns_any [] challenge = false
concerns_any (player ∷ players) challenge = concerns player.session challenge || concerns_any players challenge

module _ (test : ChallengeKey → Bool) where
  -- the challenges after each of these players
  abbrev pub after_each : List Player → List Challenge → List Challenge
  after_each [] rows = rows
  after_each (player ∷ players) rows =
      after_each players (filter (λ challenge. stays test player.session (whose challenge)) rows)

  abbrev stays_by : (Challenge → Bool) → Challenge → Bool
  stays_by test_of challenge = not (test_of challenge) || test (whose challenge)

  all : (rows : List Challenge) → rows ≡ filter (stays_by (λ _. false)) rows
  all [] = refl
  all (x ∷ rows) = ap (λ l. x ∷ l) (all rows)

  -- what one leaves of what another left is what both leave
  twice : (a b t u : Bool) → a ≡ (not t || u) → (not (t || b) || u) ≡ cond a (not b || u) false
  twice a true true true e = sym (ap (λ a. cond a true false) e)
  twice a false true true e = sym (ap (λ a. cond a true false) e)
  twice a b true false e = sym (ap (λ a. cond a (not b || false) false) e)
  twice a b false u e = sym (ap (λ a. cond a (not b || u) false) e)

  left_by_both : (one others : Challenge → Bool) (rows : List Challenge)
      → filter (stays_by others) (filter (stays_by one) rows) ≡ filter (stays_by (λ c. one c || others c)) rows
  left_by_both one others [] = refl
  left_by_both one others (x ∷ rows) =
      let rest = left_by_both one others rows in
      let both = filter (stays_by (λ c. one c || others c)) rows in
      elim (stays_by one x)
      as (λ a.
      stays_by one x ≡ a
      → filter (stays_by others) (cond a (x ∷ filter (stays_by one) rows) (filter (stays_by one) rows))
      ≡ cond (stays_by (λ c. one c || others c) x) (x ∷ both) both) [
        | true ↦ λ is.
            (λ j. cond (stays_by others x) (x ∷ rest j) (rest j))
            ∙ sym (ap (λ t. cond t (x ∷ both) both) (twice true (others x) (one x) (test (whose x)) (sym is)))
        | false ↦ λ is.
            rest ∙ sym (ap (λ t. cond t (x ∷ both) both) (twice false (others x) (one x) (test (whose x)) (sym is)))
      ] refl

  by_all : (players : List Player) (rows : List Challenge)
      → after_each players rows ≡ filter (stays_by (concerns_any players)) rows
  by_all [] rows = all rows
  by_all (player ∷ players) rows =
      by_all players (filter (λ challenge. stays test player.session (whose challenge)) rows)
      ∙ left_by_both (concerns player.session) (concerns_any players) rows

-- who plays is one of the players
is_player : (players : List Player) (session : ℕ) → is_some (position (plays_as session) players) ≡ true
    → list_any (plays_as session) players ≡ true
is_player players session there =
    elim (list_any (plays_as session) players)
    as (λ t. list_any (plays_as session) players ≡ t → t ≡ true) [
      | true ↦ λ _. refl
      | false ↦ λ none.
          absurd
          (true≢false
          (sym there
          ∙ ap is_some (no_place (plays_as session) players (find-absent (plays_as session) players none))))
    ] refl

by_player : (players : List Player) (challenge : Challenge) → list_any (plays_as challenge.from) players ≡ true
    → concerns_any players challenge ≡ true
by_player [] challenge there = absurd (true≢false (sym there))
by_player (p ∷ players) challenge there =
    let rest = concerns_any players challenge in
    elim (p.session == challenge.from)
    as (λ t.
    (p.session == challenge.from) ≡ t → t || list_any (plays_as challenge.from) players ≡ true
    → ((challenge.from == p.session) || (challenge.to == p.session)) || rest ≡ true) [
      | true ↦ λ is _.
          ap (λ t. (t || (challenge.to == p.session)) || rest) (turned challenge.from p.session ∙ is)
      | false ↦ λ _ more.
          or_right (concerns p.session challenge) rest (by_player players challenge more)
    ] refl there

to_player : (players : List Player) (challenge : Challenge) → list_any (plays_as challenge.to) players ≡ true
    → concerns_any players challenge ≡ true
to_player [] challenge there = absurd (true≢false (sym there))
to_player (p ∷ players) challenge there =
    let rest = concerns_any players challenge in
    elim (p.session == challenge.to)
    as (λ t.
    (p.session == challenge.to) ≡ t → t || list_any (plays_as challenge.to) players ≡ true
    → ((challenge.from == p.session) || (challenge.to == p.session)) || rest ≡ true) [
      | true ↦ λ is _.
          ap (λ t. t || rest)
          (or_right (challenge.from == p.session) (challenge.to == p.session) (turned challenge.to p.session ∙ is))
      | false ↦ λ _ more.
          or_right (concerns p.session challenge) rest (to_player players challenge more)
    ] refl there

one_seated : (from to giving taking : Bool) → ((from && to) || ((from && not giving) || (to && not taking))) ≡ true
    → (from || to) ≡ true
one_seated true to giving taking e = refl
one_seated false true giving taking e = refl
one_seated false false giving taking e = e

-- a challenge that is settled is by one of the players or to one
settled_concerns : (members : List Member) (seats : Seats) (challenge : Challenge)
    → is_settled members seats challenge ≡ true
    → concerns_any (seat_list seats) challenge ≡ true
settled_concerns members seats challenge settled =
    let players = seat_list seats in
    let one = one_seated (is_seated seats challenge.from) (is_seated seats challenge.to)
    (is_giver members challenge.from) (is_giver members challenge.to) settled in
    elim (is_seated seats challenge.from)
    as (λ t.
    is_seated seats challenge.from ≡ t → t || is_seated seats challenge.to ≡ true
    → concerns_any players challenge ≡ true) [
      | true ↦ λ there _. by_player players challenge (is_player players challenge.from there)
      | false ↦ λ _ there. to_player players challenge (is_player players challenge.to there)
    ] refl one

idle : (o s : Bool) → (s ≡ true → o ≡ true) → (not o || not s) ≡ not s
idle true s is = refl
idle false true is = absurd (true≢false (sym (is refl)))
idle false false is = refl

-- the challenge of this key stays as the game of these seats starts
abbrev pub stays_then : List Member → Seats → ChallengeKey → Bool
stays_then members seats key =
    not ((is_seated seats key.from && is_seated seats key.to)
    || (is_bound members seats key.from || is_bound members seats key.to))

-- so after all of its players are left those that aren't settled
pub settled_gone : (members : List Member) (seats : Seats) (rows : List Challenge)
    → after_each (stays_then members seats) (seat_list seats) rows
    ≡ filter (λ challenge. not (is_settled members seats challenge)) rows
settled_gone members seats rows =
    by_all (stays_then members seats) (seat_list seats) rows
    ∙ (λ j. filter (λ challenge.
    idle (concerns_any (seat_list seats) challenge) (is_settled members seats challenge)
    (settled_concerns members seats challenge) j) rows)
