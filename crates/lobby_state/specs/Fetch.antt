-- Fetch: a session takes the lines that wait for it, and asks for its places. This server's own.
use Rattle.std.specs.Prelude.{ℕ, false, []}
use Rattle.fics_words.specs.Effect.{Effect}
use Rattle.tables.specs.Rows.{change_first}
use Rattle.lobby_state.specs.declared.acts.LobbyReply.{LobbyReply}
use Rattle.lobby_state.specs.declared.acts.LobbyReply.TheVariants.{Waiting}
use Rattle.lobby_state.specs.declared.member.Member.{Member}
use Rattle.lobby_state.specs.Lobby.{LobbyState, is_session, places_of, waiting_of}

-- the member for whom no line waits any more
abbrev pub member_emptied : Member → Member
member_emptied member = record member { waiting = [] }

-- a Fetch is never refused: a session that isn't a member has no lines and no places
abbrev pub fetch_effect : LobbyState → ℕ → Effect LobbyState LobbyReply
fetch_effect lobby session = record {
  causes = [];
  memory = false;
  reply = Waiting (waiting_of lobby session) (places_of lobby session);
  after = record lobby { members = change_first (is_session session) member_emptied lobby.members };
}
