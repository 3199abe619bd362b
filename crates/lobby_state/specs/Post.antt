-- Post: a member offers a game to whoever takes it. This server's own.
use Rattle.std.specs.Prelude.{ℕ, Bool, true, not, ◌&&◌, ◌||◌, List, ◌∷◌, ◌++◌, Option, None, Some, is_none, codes, decimal}
use Rattle.chess_model.specs.declared.variant.Terms.{Terms}
use Rattle.fics_words.specs.Effect.{Effect}
use Rattle.fics_words.specs.declared.refusal.Refusal.TheVariants.{NotIn, NotInVariant, Playing}
use Rattle.lobby_state.specs.declared.acts.LobbyReply.{LobbyReply}
use Rattle.lobby_state.specs.declared.acts.LobbyReply.TheVariants.{Number}
use Rattle.lobby_state.specs.declared.member.Member.{Member}
use Rattle.lobby_state.specs.Broadcast.{broadcast}
use Rattle.lobby_state.specs.Holds.{holds}
use Rattle.lobby_state.specs.Lobby.{LobbyState, gives, has_place, is_session, member_of}
use Rattle.lobby_state.specs.Pairing.{needs_partners}
use Rattle.lobby_state.specs.TermsText.{terms_words}
use Rattle.seek_match.specs.Seeks.{next_number, posting}

-- the line that a seek sends: whose it is, on which terms, and how it is taken
abbrev pub seek_words : List ℕ → ℕ → Terms → List ℕ
seek_words name number terms =
    name ++ codes " seeking " ++ terms_words terms ++ codes " (\"play " ++ decimal number ++ codes "\" to respond)"

-- the member is another one than the session's, and wants to hear of seeks
abbrev pub hears_seeks : ℕ → Member → Bool
hears_seeks session member = not (is_session session member) && member.wants.seeks

-- the lobby where the member of this name has posted a seek
abbrev pub posted_by : LobbyState → ℕ → List ℕ → Terms → LobbyState
posted_by lobby session name terms = record lobby {
  members = broadcast (hears_seeks session) (seek_words name (next_number lobby.seeks) terms) lobby.members;
  seeks = (posting lobby.seeks session terms).after;
}

-- the same of the member, where it is there
abbrev pub posted : LobbyState → ℕ → Option Member → Terms → LobbyState
posted lobby session None terms = lobby
posted lobby session (Some caller) terms = posted_by lobby session caller.name terms

-- the seek of a member of this name is refused where it has three
abbrev pub seeking_effect : LobbyState → ℕ → List ℕ → Terms → Effect LobbyState LobbyReply
seeking_effect lobby session name terms = record {
  causes = (posting lobby.seeks session terms).causes;
  memory = true;
  reply = Number (next_number lobby.seeks);
  after = posted_by lobby session name terms;
}

-- the member is taken: it has a place, or gives a simul
abbrev pub is_engaged : Member → Bool
is_engaged member = has_place member || gives member

-- a Post is refused where the session isn't a member; where the game isn't one of two players; where the member has a
-- place or gives a simul; and where it has three seeks. The seek gets the least number that no seek has
abbrev pub post_effect : LobbyState → ℕ → Terms → Effect LobbyState LobbyReply
post_effect lobby session terms = record {
  causes =
      (is_none (member_of lobby session), NotIn) ∷
      (needs_partners terms.variant, NotInVariant) ∷
      (holds is_engaged (member_of lobby session), Playing) ∷
      (posting lobby.seeks session terms).causes;
  memory = true;
  reply = Number (next_number lobby.seeks);
  after = posted lobby session (member_of lobby session) terms;
}
