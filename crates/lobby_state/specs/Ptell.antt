-- Ptell: a member says something to its partner. This server's own, and the words are FICS's.
use Rattle.std.specs.Prelude.{ℕ, Bool, true, false, List, [], ◌∷◌, Option, None, Some, is_none, codes}
use Rattle.fics_words.specs.Effect.{Effect}
use Rattle.fics_words.specs.declared.refusal.Refusal.TheVariants.{NotIn, NoPartner, QueueFull}
use Rattle.lobby_state.specs.declared.acts.LobbyReply.{LobbyReply}
use Rattle.lobby_state.specs.declared.acts.LobbyReply.TheVariants.{Told}
use Rattle.lobby_state.specs.declared.member.Member.{Member}
use Rattle.lobby_state.specs.Broadcast.{broadcast}
use Rattle.lobby_state.specs.Holds.{holds}
use Rattle.lobby_state.specs.Lobby.{LobbyState, is_session, member_of, partner_in}
use Rattle.lobby_state.specs.Match.{is_queue_full}
use Rattle.lobby_state.specs.Said.{spoken_line}

-- no more lines can wait for this partner
abbrev pub is_partner_full : LobbyState → Option ℕ → Bool
is_partner_full lobby None = false
is_partner_full lobby (Some partner) = holds is_queue_full (member_of lobby partner)

-- the lobby where the member has told its partner something
abbrev pub confided : LobbyState → Option Member → Option ℕ → List ℕ → LobbyState
confided lobby None partner text = lobby
confided lobby (Some caller) None text = lobby
confided lobby (Some caller) (Some partner) text = record lobby {
  members =
      broadcast (is_session partner) (spoken_line caller.name (codes " (your partner) tells you: ") text) lobby.members;
}

-- a Ptell is refused where the session isn't a member; where it has no partner; and where 512 lines wait for the
-- partner
abbrev pub ptell_effect : LobbyState → ℕ → List ℕ → Effect LobbyState LobbyReply
ptell_effect lobby session text = record {
  causes =
      (is_none (member_of lobby session), NotIn) ∷
      (is_none (partner_in lobby session), NoPartner) ∷
      (is_partner_full lobby (partner_in lobby session), QueueFull) ∷ [];
  memory = true;
  reply = Told 1;
  after = confided lobby (member_of lobby session) (partner_in lobby session) text;
}
