-- Var: a member says what it wants others to send. The variables are FICS's.
use Rattle.std.specs.Prelude.{ℕ, Bool, false, [], ◌∷◌, is_none}
use Rattle.fics_words.specs.Effect.{Effect}
use Rattle.fics_words.specs.declared.refusal.Refusal.TheVariants.{NotIn}
use Rattle.fics_words.specs.declared.variable.Variable.{Variable}
use Rattle.fics_words.specs.declared.variable.Variable.TheVariants.{Open, Shout, Seek}
use Rattle.tables.specs.Rows.{change_first}
use Rattle.lobby_state.specs.declared.acts.LobbyReply.{LobbyReply}
use Rattle.lobby_state.specs.declared.acts.LobbyReply.TheVariants.{Done}
use Rattle.lobby_state.specs.declared.member.Member.{Member}
use Rattle.lobby_state.specs.declared.wants.Wants.{Wants}
use Rattle.lobby_state.specs.Lobby.{LobbyState, is_session, member_of}

-- what a member wants, with one variable on or off
abbrev pub set : Variable → Bool → Wants → Wants
set Open on wants = record wants { matches = on }
set Shout on wants = record wants { shouts = on }
set Seek on wants = record wants { seeks = on }

-- the member with one variable on or off
abbrev pub with_var : Variable → Bool → Member → Member
with_var which on member = record member { wants = set which on member.wants }

-- a Var is refused where the session isn't a member
abbrev pub var_effect : LobbyState → ℕ → Variable → Bool → Effect LobbyState LobbyReply
var_effect lobby session which on = record {
  causes = (is_none (member_of lobby session), NotIn) ∷ [];
  memory = false;
  reply = Done;
  after = record lobby { members = change_first (is_session session) (with_var which on) lobby.members };
}
