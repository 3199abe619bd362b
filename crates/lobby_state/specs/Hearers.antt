-- Who hears what is said to a channel, found by the rows of the channels. This server's own.
use Rattle.std.specs.Prelude.{ℕ, ◌==◌, Bool, not, ◌&&◌, cond, List, [], ◌∷◌}
use Rattle.std.specs.List.{find}
use Rattle.channel_feed.specs.declared.channels.Membership.{Membership}
use Rattle.channel_feed.specs.Waiting.{without_last}
use Rattle.lobby_state.specs.declared.member.Member.{Member}
use Rattle.lobby_state.specs.Holds.{holds}
use Rattle.lobby_state.specs.Lobby.{is_session}
use Rattle.lobby_state.specs.Match.{is_queue_full}

-- the row puts another than the session's player into the channel
abbrev pub is_other : ℕ → ℕ → Membership → Bool
is_other session channel row = not (row.who == session) && (row.channel == channel)

-- the rows from the first such row on
abbrev pub from_next : ℕ → ℕ → List Membership → List Membership
from_next session channel [] = []
from_next session channel (row ∷ rows) =
    cond (is_other session channel row) (row ∷ rows) (from_next session channel rows)

-- the session is a member's for whom fewer than 512 lines wait
abbrev pub has_room : ℕ → List Member → Bool
has_room session members = holds (λ member. not (is_queue_full member)) (find (is_session session) members)

-- the member without the line that was put last for it
abbrev pub less_one_line : Member → Member
less_one_line member = record member { waiting = without_last member.waiting }
