-- What a Match keeps.
use Rattle.std.proofs.Common.{◌≡◌, ℕ, false, List, Option, Some, sym, subst, ◌∙◌}
use Rattle.std.proofs.lemmas.Bool.{eqb-true, eqb-false, or_parts}
use Rattle.chess_model.specs.declared.variant.Terms.{Terms}
use Rattle.fics_words.specs.Effect.{NoneHolds}
use Rattle.lobby_state.specs.declared.member.Member.{Member}
use Rattle.lobby_state.specs.Holds.{holds}
use Rattle.lobby_state.specs.Lobby.{LobbyState, is_named, is_session, member_of, named}
use Rattle.lobby_state.specs.Match.{challenged, match_effect}
use Rattle.lobby_state.specs.Terms.{AreTerms}
use Rattle.lobby_state.specs.WellFormed.{IsBetweenMembers, sessions_in}
use Rattle.lobby_state.proofs.ChallengeRows.{AreChallengesOf-with}
use Rattle.lobby_state.proofs.Follows.{Follows, and_then, if_there, one_told, other_challenges, stays}
use Rattle.lobby_state.proofs.Lists.{find-contained, find-passes}
use Rattle.seek_match.specs.declared.challenge.Challenge.{Challenge}
use Rattle.seek_match.specs.Matches.{with_challenge}

new_between : (lobby : LobbyState) (session : ℕ) (to : List ℕ) (terms : Terms) (caller other : Member) → AreTerms terms
    → member_of lobby session ≡ Some caller → named lobby to ≡ Some other
    → holds (is_session session) (named lobby to) ≡ false
    → IsBetweenMembers (sessions_in lobby.members) (record { from = caller.session; to = other.session; terms = terms })
new_between lobby session to terms caller other bounds first second apart =
    let own : caller.session ≡ session =
    eqb-true caller.session session (find-passes (is_session session) lobby.members caller first) in
    let differ = subst (λ (o : Option Member). holds (is_session session) o ≡ false) second apart in
    record {
      from = find-contained (λ m. m.session) (is_session session) lobby.members caller first;
      to = find-contained (λ m. m.session) (is_named to) lobby.members other second;
      differ = λ e. eqb-false other.session session differ (sym e ∙ own);
      terms = bounds;
    }

pub challenged_follows : (lobby : LobbyState) (session : ℕ) (to : List ℕ) (terms : Terms)
    → Follows (AreTerms terms × NoneHolds (match_effect lobby session to terms).causes) (Unit {0}) lobby
    (challenged lobby (member_of lobby session) (named lobby to) to terms)
challenged_follows lobby session to terms =
    if_there (λ caller. challenged lobby caller (named lobby to) to terms) (member_of lobby session) stays
    (λ caller first.
    if_there (λ other. challenged lobby (Some caller) other to terms) (named lobby to) stays (λ other second.
    let challenge : Challenge = record { from = caller.session; to = other.session; terms = terms } in
    and_then
    (other_challenges lobby (with_challenge challenge lobby.challenges) (λ fits h.
    AreChallengesOf-with (sessions_in lobby.members) challenge lobby.challenges
    (new_between lobby session to terms caller other fits.0 first second (or_parts _ _ fits.1.1.1.0).0) h.challenges))
    (one_told (is_named to) _)))
