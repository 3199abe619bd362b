-- What the lists of names mean: who is on another's list doesn't reach it. The lists are FICS's.
use Rattle.std.specs.Prelude.{◌≡◌, ◌≢◌, ℕ, true, List, Some, Ok, Err}
use Rattle.chess_model.specs.declared.variant.Terms.{Terms}
use Rattle.fics_words.specs.Effect.{answer_of, state_of}
use Rattle.fics_words.specs.declared.refusal.Refusal.TheVariants.{Refuses}
use Rattle.lobby_state.specs.declared.acts.LobbyReply.{LobbyReply}
use Rattle.lobby_state.specs.declared.acts.Plan.{Plan}
use Rattle.lobby_state.specs.declared.member.Member.{Member}
use Rattle.lobby_state.specs.Holds.{holds}
use Rattle.lobby_state.specs.Lobby.{LobbyState, member_of, named}
use Rattle.lobby_state.specs.Match.{match_effect}
use Rattle.lobby_state.specs.NameList.{avoids, censors}
use Rattle.lobby_state.specs.Play.{play_effect, seeking_in}
use Rattle.lobby_state.specs.Tell.{tell_effect}
use Rattle.seek_match.specs.Seeks.{seek_of}

-- a member that another censors tells it nothing: it is refused for that, and nothing changes
pub record IsUnheard (lobby : LobbyState) (session : ℕ) (to : List ℕ) : Type 0 where
  pub refused : (text : List ℕ) → answer_of (tell_effect lobby session to text) ≡ Err Refuses
  pub nothing : (text : List ℕ) → state_of lobby (tell_effect lobby session to text) ≡ lobby

-- the lists keep away: a member that another censors tells it nothing, one that another avoids doesn't challenge it,
-- and takes no seek of it
pub record KeepAway (lobby : LobbyState) (session : ℕ) (to : List ℕ) (number : ℕ) : Type 0 where
  pub tells : (member other : Member) → member_of lobby session ≡ Some member → named lobby to ≡ Some other
      → censors (Some member) other ≡ true → IsUnheard lobby session to
  pub matches : (terms : Terms) (reply : LobbyReply)
      → holds (avoids (member_of lobby session)) (named lobby to) ≡ true
      → answer_of (match_effect lobby session to terms) ≢ Ok reply
  pub plays : (plan : Plan)
      → holds (avoids (member_of lobby session)) (seeking_in lobby (seek_of lobby.seeks number)) ≡ true
      → answer_of (play_effect lobby session number) ≢ Ok plan
