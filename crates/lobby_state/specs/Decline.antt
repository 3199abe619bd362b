-- Decline: a member turns a challenge down. This server's own.
use Rattle.std.specs.Prelude.{ℕ, true, List, [], ◌∷◌, Option, None, Some, is_none, codes}
use Rattle.fics_words.specs.Effect.{Effect}
use Rattle.fics_words.specs.declared.refusal.Refusal.TheVariants.{NotIn, NoChallenge}
use Rattle.lobby_state.specs.declared.acts.LobbyReply.{LobbyReply}
use Rattle.lobby_state.specs.declared.acts.LobbyReply.TheVariants.{Done}
use Rattle.lobby_state.specs.declared.member.Member.{Member}
use Rattle.lobby_state.specs.Accept.{offer_of}
use Rattle.lobby_state.specs.Broadcast.{broadcast}
use Rattle.lobby_state.specs.Lobby.{LobbyState, is_session, member_of}
use Rattle.lobby_state.specs.Said.{spoken_line}
use Rattle.seek_match.specs.declared.challenge.Challenge.{Challenge}
use Rattle.seek_match.specs.Matches.{without_between}

-- the lobby where the member has turned the challenge down: it is gone, and the challenger is told, if there is room
-- for a line
abbrev pub declined : LobbyState → Option Member → Option Challenge → LobbyState
declined lobby None offer = lobby
declined lobby (Some caller) None = lobby
declined lobby (Some caller) (Some offer) = record lobby {
  members =
      broadcast (is_session offer.from) (spoken_line caller.name (codes " declines your challenge.") []) lobby.members;
  challenges = without_between offer.from offer.to lobby.challenges;
}

-- a Decline is refused where the session isn't a member, and where there is no such challenge: the named player's, and
-- without a name the oldest to the session
abbrev pub decline_effect : LobbyState → ℕ → Option (List ℕ) → Effect LobbyState LobbyReply
decline_effect lobby session name = record {
  causes =
      (is_none (member_of lobby session), NotIn) ∷
      (is_none (offer_of lobby session name), NoChallenge) ∷ [];
  memory = true;
  reply = Done;
  after = declined lobby (member_of lobby session) (offer_of lobby session name);
}
