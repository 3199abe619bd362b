-- Going: a session begins to leave, and asks for its places. This server's own.
use Rattle.std.specs.Prelude.{ℕ, true, false, []}
use Rattle.fics_words.specs.Effect.{Effect}
use Rattle.tables.specs.Rows.{change_first}
use Rattle.lobby_state.specs.declared.acts.LobbyReply.{LobbyReply}
use Rattle.lobby_state.specs.declared.acts.LobbyReply.TheVariants.{Places}
use Rattle.lobby_state.specs.declared.member.Member.{Member}
use Rattle.lobby_state.specs.Lobby.{LobbyState, is_session, places_of, without_challenges, without_partner, without_resumes, without_seeks}

-- the member that leaves, and can't be named from then on
abbrev pub leaving_member : Member → Member
leaving_member member = record member { going = true }

-- a Going is never refused: the member leaves, and its challenges, its seeks, its requests and its link are gone
abbrev pub going_effect : LobbyState → ℕ → Effect LobbyState LobbyReply
going_effect lobby session = record {
  causes = [];
  memory = false;
  reply = Places (places_of lobby session);
  after = without_resumes session (without_partner session (without_seeks session (without_challenges session
      (record lobby { members = change_first (is_session session) leaving_member lobby.members }))));
}
