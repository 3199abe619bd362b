-- Where a session stands that asked to enter, once it is answered. This server's own.
use Rattle.std.specs.Prelude.{ℕ, Bool, true, false, List, Option, None, Some}
use Rattle.lobby_state.specs.declared.acts.LobbyReply.TheVariants.{Entered, NeedPassword}
use Rattle.one_server.specs.declared.reply.Reply.{Reply}
use Rattle.one_server.specs.declared.reply.Reply.TheVariants as reply
use Rattle.session_asks.specs.declared.standing.Standing.{Standing}
use Rattle.session_asks.specs.declared.standing.Standing.TheVariants.{Login, Password, In}

abbrev pub standing_in : Standing → Bool
standing_in (In name) = true
standing_in _ = false

-- the reply says that the session has come in
abbrev pub is_entered : Reply → Bool
is_entered (reply.Lobby (Entered name)) = true
is_entered _ = false

-- the password of a handle is asked for; a guest has none
abbrev pub password_of : Option (List ℕ) → Standing
password_of (Some name) = Password name
password_of None = Login

-- where a session stands that asked to enter under this name, or as a guest, once it is answered: it is in, or it is
-- asked for the password, or it begins anew
abbrev pub admitted : Option (List ℕ) → Reply → Standing
admitted asked (reply.Lobby (Entered name)) = In name
admitted asked (reply.Lobby NeedPassword) = password_of asked
admitted asked _ = Login
