use Rattle.std.proofs.Common.{◌≡◌, ℕ, List, map, ap, subst, ◌∙◌}
use Rattle.std.specs.Prelude.{IfOk}
use Rattle.lobby_state.specs.Who.{who_lines}
use Rattle.lobby_state.proofs.RowsOfNames.{name_of, names_in_order}
use Rattle.lobby_state.proofs.roster.Roster.who_lines.Goals as goal

pub returns : goal.returns
returns c =
    subst (λ (names : List (List ℕ)). IfOk c.lines_of.result (λ lines. lines ≡ names))
    (ap (map name_of) c.names.ensures ∙ names_in_order c.self.inside.members ∙ ap who_lines c.self.view_is)
    c.lines_of.ensures
