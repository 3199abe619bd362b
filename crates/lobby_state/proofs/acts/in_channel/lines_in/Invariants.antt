use Rattle.std.proofs.Common.{◌≡◌, filter, map, take}
use Rattle.channel_feed.specs.Channels.{is_in}
use Rattle.lobby_state.proofs.RowsOfNames.{name_of}
use Rattle.lobby_state.proofs.acts.in_channel.lines_in.Given as goal

abbrev pub invariant-loop-row : goal.invariant-loop-row
invariant-loop-row l =
    l.lines ≡ map name_of (filter (λ row. is_in l.channels row.session l.channel) (take l.row-index l.names))
