-- In how many channels each player is, as a list with a row for each that is in one. This server's own.
use Rattle.std.specs.Prelude.{◌≡◌, ℕ, ◌==◌, List}
use Rattle.std.specs.List.{find}
use Rattle.std.specs.Option.{option_map_or}
use Rattle.channel_feed.specs.declared.channels.Membership.{Membership}
use Rattle.channel_feed.specs.declared.counts.ChannelCount.{ChannelCount}
use Rattle.channel_feed.specs.Channels.{channels_of}

-- in how many channels the rows say that the player is; one without a row is in none
abbrev pub count_of : List ChannelCount → ℕ → ℕ
count_of counts who = option_map_or (λ row. row.channels) (find (λ row. who == row.who) counts) 0

-- they say so of each player as the memberships do
abbrev pub AreCounted : List ChannelCount → List Membership → Type 0
AreCounted counts rows = (who : ℕ) → count_of counts who ≡ channels_of rows who
