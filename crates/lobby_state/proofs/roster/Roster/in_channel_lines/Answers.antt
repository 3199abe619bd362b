use Rattle.std.proofs.Common.{◌≡◌, ℕ, List, filter, map, ap, subst, ◌∙◌}
use Rattle.std.specs.Prelude.{IfOk}
use Rattle.channel_feed.specs.Channels.{is_in}
use Rattle.lobby_state.specs.declared.name_row.NameRow.{NameRow}
use Rattle.lobby_state.specs.InChannel.{in_channel_lines}
use Rattle.lobby_state.proofs.RowsOfNames.{name_of, names_that}
use Rattle.lobby_state.proofs.roster.Roster.in_channel_lines.Goals as goal

pub returns : goal.returns
returns c =
    let p = λ (row : NameRow). is_in c.self.inside.channels row.session c.args.channel in
    subst (λ (names : List (List ℕ)). IfOk c.lines_in.result (λ lines. lines ≡ names))
    (ap (λ rows. map name_of (filter p rows)) c.names.ensures ∙ names_that p c.self.inside.members
    ∙ ap (λ l. in_channel_lines l c.args.channel) c.self.view_is)
    c.lines_in.ensures
