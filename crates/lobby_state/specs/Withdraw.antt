-- Withdraw: a member takes a challenge back. This server's own.
use Rattle.std.specs.Prelude.{ℕ, false, List, [], ◌∷◌, Option, None, Some, is_none}
use Rattle.fics_words.specs.Effect.{Effect}
use Rattle.fics_words.specs.declared.refusal.Refusal.TheVariants.{NotIn, NoChallenge}
use Rattle.lobby_state.specs.declared.acts.LobbyReply.{LobbyReply}
use Rattle.lobby_state.specs.declared.acts.LobbyReply.TheVariants.{Done}
use Rattle.lobby_state.specs.declared.member.Member.{Member}
use Rattle.lobby_state.specs.Lobby.{LobbyState, member_of, named}
use Rattle.seek_match.specs.declared.challenge.Challenge.{Challenge}
use Rattle.seek_match.specs.Matches.{challenge_by, challenge_to, without_between}

-- the challenge by the session to this player, if there are both
abbrev pub own_to : LobbyState → ℕ → Option Member → Option Challenge
own_to lobby session None = None
own_to lobby session (Some other) = challenge_to lobby.challenges (Some session) other.session

-- the challenge that the session means: its own to the named player, and without a name its oldest
abbrev pub own_of : LobbyState → ℕ → Option (List ℕ) → Option Challenge
own_of lobby session None = challenge_by lobby.challenges session
own_of lobby session (Some key) = own_to lobby session (named lobby key)

-- the lobby where the challenge is taken back
abbrev pub withdrawn : LobbyState → Option Challenge → LobbyState
withdrawn lobby None = lobby
withdrawn lobby (Some own) = record lobby { challenges = without_between own.from own.to lobby.challenges }

-- a Withdraw is refused where the session isn't a member, and where there is no such challenge
abbrev pub withdraw_effect : LobbyState → ℕ → Option (List ℕ) → Effect LobbyState LobbyReply
withdraw_effect lobby session name = record {
  causes =
      (is_none (member_of lobby session), NotIn) ∷
      (is_none (own_of lobby session name), NoChallenge) ∷ [];
  memory = false;
  reply = Done;
  after = withdrawn lobby (own_of lobby session name);
}
