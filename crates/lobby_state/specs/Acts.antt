-- All lobby acts in one table: what each does, by the lobby before, the session and the act. This server's own.
use Rattle.std.specs.Prelude.{ℕ, ◌≤◌, length, Result}
use Rattle.fics_words.specs.declared.refusal.Refusal.{Refusal}
use Rattle.fics_words.specs.Effect.{Effect, answer_of, state_of}
use Rattle.fics_words.specs.Line.{most_text_bytes}
use Rattle.lobby_state.specs.declared.acts.LobbyAct.{LobbyAct}
use Rattle.lobby_state.specs.declared.acts.LobbyAct.TheVariants.{Enter, Register, Match, Unpost, Sought, Who, Where, Fetch, Going, Bye, InUse, Var, Tell, Shout, Decline, Withdraw, Post, Channel, TellChannel, InChannel, Partner, Ptell, List, Pending, Games, Find, FindGame, SimOpen, SimNext, SimPrev, GoBoard, Stored, Orders, Saved}
use Rattle.lobby_state.specs.declared.acts.LobbyReply.{LobbyReply}
use Rattle.lobby_state.specs.Bye.{bye_effect}
use Rattle.lobby_state.specs.Channel.{channel_effect}
use Rattle.lobby_state.specs.InChannel.{in_channel_effect}
use Rattle.lobby_state.specs.TellChannel.{tell_channel_effect}
use Rattle.lobby_state.specs.Decline.{decline_effect}
use Rattle.lobby_state.specs.Enter.{enter_effect}
use Rattle.lobby_state.specs.Fetch.{fetch_effect}
use Rattle.lobby_state.specs.Games.{games_effect}
use Rattle.lobby_state.specs.Find.{find_effect}
use Rattle.lobby_state.specs.FindGame.{find_game_effect}
use Rattle.lobby_state.specs.GoBoard.{go_board_effect}
use Rattle.lobby_state.specs.Going.{going_effect}
use Rattle.lobby_state.specs.InUse.{in_use_effect}
use Rattle.lobby_state.specs.Lobby.{LobbyState}
use Rattle.lobby_state.specs.Match.{match_effect}
use Rattle.lobby_state.specs.NameList.{list_effect}
use Rattle.lobby_state.specs.Orders.{orders_effect}
use Rattle.lobby_state.specs.Pending.{pending_effect}
use Rattle.lobby_state.specs.Saved.{saved_effect}
use Rattle.lobby_state.specs.Stored.{stored_effect}
use Rattle.lobby_state.specs.Post.{post_effect}
use Rattle.lobby_state.specs.Registration.{registration_effect}
use Rattle.lobby_state.specs.SimNext.{sim_next_effect}
use Rattle.lobby_state.specs.SimOpen.{sim_open_effect}
use Rattle.lobby_state.specs.SimPrev.{sim_prev_effect}
use Rattle.lobby_state.specs.Sought.{sought_effect}
use Rattle.lobby_state.specs.Unpost.{unpost_effect}
use Rattle.lobby_state.specs.Where.{where_effect}
use Rattle.lobby_state.specs.Who.{who_effect}
use Rattle.lobby_state.specs.Shout.{shout_effect}
use Rattle.lobby_state.specs.Tell.{tell_effect}
use Rattle.lobby_state.specs.Terms.{AreTerms}
use Rattle.lobby_state.specs.Var.{var_effect}
use Rattle.lobby_state.specs.Withdraw.{withdraw_effect}
use Rattle.lobby_state.specs.Partner.{partner_effect}
use Rattle.lobby_state.specs.Ptell.{ptell_effect}

-- what a lobby act does
abbrev pub lobby_effect : LobbyState → ℕ → LobbyAct → Effect LobbyState LobbyReply
lobby_effect lobby session (Enter name digest) = enter_effect lobby session name digest
lobby_effect lobby session (Register digest) = registration_effect lobby session digest
lobby_effect lobby session (Match to terms) = match_effect lobby session to terms
lobby_effect lobby session (Post terms) = post_effect lobby session terms
lobby_effect lobby session (Unpost number) = unpost_effect lobby session number
lobby_effect lobby session Sought = sought_effect lobby session
lobby_effect lobby session Who = who_effect lobby session
lobby_effect lobby session Pending = pending_effect lobby session
lobby_effect lobby session Games = games_effect lobby session
lobby_effect lobby session (Var which on) = var_effect lobby session which on
lobby_effect lobby session (List which name on) = list_effect lobby session which name on
lobby_effect lobby session (Tell to text) = tell_effect lobby session to text
lobby_effect lobby session (Shout text) = shout_effect lobby session text
lobby_effect lobby session (Channel channel on) = channel_effect lobby session channel on
lobby_effect lobby session (TellChannel channel text) = tell_channel_effect lobby session channel text
lobby_effect lobby session (InChannel channel) = in_channel_effect lobby session channel
lobby_effect lobby session (Decline name) = decline_effect lobby session name
lobby_effect lobby session (Withdraw name) = withdraw_effect lobby session name
lobby_effect lobby session (Partner name) = partner_effect lobby session name
lobby_effect lobby session (Ptell text) = ptell_effect lobby session text
lobby_effect lobby session SimOpen = sim_open_effect lobby session
lobby_effect lobby session SimNext = sim_next_effect lobby session
lobby_effect lobby session SimPrev = sim_prev_effect lobby session
lobby_effect lobby session (GoBoard name) = go_board_effect lobby session name
lobby_effect lobby session (Find name) = find_effect lobby session name
lobby_effect lobby session (FindGame number) = find_game_effect lobby session number
lobby_effect lobby session Where = where_effect lobby session
lobby_effect lobby session Fetch = fetch_effect lobby session
lobby_effect lobby session Going = going_effect lobby session
lobby_effect lobby session Bye = bye_effect lobby session
lobby_effect lobby session InUse = in_use_effect lobby
lobby_effect lobby session Stored = stored_effect lobby session
lobby_effect lobby session Orders = orders_effect lobby
lobby_effect lobby session (Saved upto) = saved_effect lobby upto

-- the answer to a lobby act
abbrev pub lobby_answer : LobbyState → ℕ → LobbyAct → Result LobbyReply Refusal
lobby_answer lobby session act = answer_of (lobby_effect lobby session act)

-- the lobby after a lobby act
abbrev pub lobby_after : LobbyState → ℕ → LobbyAct → LobbyState
lobby_after lobby session act = state_of lobby (lobby_effect lobby session act)

-- the conditions on the numbers of an act, and a text that a member says to others has at most 800 bytes
abbrev pub FitsLobby : LobbyAct → Type 0
FitsLobby (Match to terms) = AreTerms terms
FitsLobby (Tell to text) = length text ≤ most_text_bytes
FitsLobby (TellChannel channel text) = length text ≤ most_text_bytes
FitsLobby (Shout text) = length text ≤ most_text_bytes
FitsLobby (Ptell text) = length text ≤ most_text_bytes
FitsLobby (Post terms) = AreTerms terms
FitsLobby _ = Unit {0}

-- Where, Going and Bye need no memory, also not for a copy of what they answer
abbrev pub LobbyNeedsNoMemory : LobbyAct → Type 0
LobbyNeedsNoMemory Where = Unit {0}
LobbyNeedsNoMemory Going = Unit {0}
LobbyNeedsNoMemory Bye = Unit {0}
LobbyNeedsNoMemory _ = ⊥
