-- Tell: a member says something to another. This server's own.
use Rattle.std.specs.Prelude.{ℕ, true, List, [], ◌∷◌, Option, None, Some, is_none, codes}
use Rattle.fics_words.specs.Effect.{Effect}
use Rattle.fics_words.specs.declared.refusal.Refusal.TheVariants.{NotIn, NoSuchPlayer, Refuses, QueueFull}
use Rattle.tables.specs.Rows.{change_first}
use Rattle.lobby_state.specs.declared.acts.LobbyReply.{LobbyReply}
use Rattle.lobby_state.specs.declared.acts.LobbyReply.TheVariants.{Told}
use Rattle.lobby_state.specs.declared.member.Member.{Member}
use Rattle.lobby_state.specs.Holds.{holds}
use Rattle.lobby_state.specs.Lobby.{LobbyState, is_named, member_of, named}
use Rattle.lobby_state.specs.Match.{is_queue_full, member_with_line}
use Rattle.lobby_state.specs.NameList.{censors}
use Rattle.lobby_state.specs.Said.{spoken_line}

-- the lobby where the member has told the named player something
abbrev pub has_told : LobbyState → Option Member → List ℕ → List ℕ → LobbyState
has_told lobby None to text = lobby
has_told lobby (Some caller) to text = record lobby {
  members =
      change_first (is_named to) (member_with_line (spoken_line caller.name (codes " tells you: ") text)) lobby.members;
}

-- a Tell is refused where the session isn't a member; where nobody has the handle, or that member is going; where the
-- other has the member on its censor list; and where 512 lines wait for the other
abbrev pub tell_effect : LobbyState → ℕ → List ℕ → List ℕ → Effect LobbyState LobbyReply
tell_effect lobby session to text = record {
  causes =
      (is_none (member_of lobby session), NotIn) ∷
      (is_none (named lobby to), NoSuchPlayer) ∷
      (holds (censors (member_of lobby session)) (named lobby to), Refuses) ∷
      (holds is_queue_full (named lobby to), QueueFull) ∷ [];
  memory = true;
  reply = Told 1;
  after = has_told lobby (member_of lobby session) to text;
}
