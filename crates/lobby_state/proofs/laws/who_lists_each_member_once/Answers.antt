use Rattle.std.proofs.Common.{ℕ, filter, subst}
use Rattle.lobby_state.specs.InChannel.{in_channel_lines, is_there}
use Rattle.lobby_state.specs.Lobby.{LobbyState}
use Rattle.lobby_state.specs.Who.{ListsEach, who_lines}
use Rattle.lobby_state.proofs.EachOnce.{lists_each, lists_each_of}
use Rattle.lobby_state.proofs.laws.who_lists_each_member_once.Goals as goal

pub returns-clause-hall : goal.returns-clause-hall
returns-clause-hall c =
    subst (λ (l : LobbyState). ListsEach l.members (who_lines l)) c.lobby.view_is
    (lists_each c.lobby.inside.roster.members c.lobby.invariant.handles)

pub returns-clause-channel : goal.returns-clause-channel
returns-clause-channel c =
    subst (λ (l : LobbyState).
    (channel : ℕ) → ListsEach (filter (is_there l.channels channel) l.members) (in_channel_lines l channel))
    c.lobby.view_is
    (λ channel.
    lists_each_of (is_there c.lobby.inside.roster.channels channel) c.lobby.inside.roster.members
    c.lobby.invariant.handles)
