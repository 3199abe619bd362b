use Rattle.std.proofs.Common.{◌≡◌, ◌≤◌, List, count_by, sym, ap, subst, ◌∙◌}
use Rattle.tourney_desk.specs.declared.score.Report.{Report}
use Rattle.tourney_desk.specs.Scores.{is_by_player}
use Rattle.tourney_desk.specs.Table.{IsTable, table_of}
use Rattle.tourney_desk.specs.Tourney.{TourneyState}
use Rattle.tourney_desk.proofs.Joined.{rows_joined}
use Rattle.tourney_desk.proofs.Keeping.{games_few}
use Rattle.tourney_desk.proofs.TableOrder.{is_table}
use Rattle.tourney_desk.proofs.tourney.Tourney.table.Goals as goal

pub table_of-requires-clause-games : goal.table_of-requires-clause-games
table_of-requires-clause-games c =
    λ player.
    subst (λ (r : List Report). count_by (is_by_player player) r ≤ 64) (sym c.as_slice.ensures)
    (games_few _ _ c.self.invariant c.if-not-self.false player)

pub returns-clause-sums : goal.returns-clause-sums
returns-clause-sums c =
    let names = c.args.self.now.players in
    let results = c.args.self.now.results in
    let e : c.in_ok-table_of.field-0.items ≡ table_of names results =
    c.in_ok-table_of.ensures
    ∙ ap (λ n. table_of n c.as_slice.result.now)
    (c.as_slice-names.ensures ∙ ap (λ (v : TourneyState). v.players) c.self.view_is)
    ∙ ap (λ r. table_of names r) (c.as_slice.ensures ∙ ap (λ (v : TourneyState). v.results) c.self.view_is) in
    subst (IsTable names results) (sym e) (is_table names results)

pub returns-clause-joined : goal.returns-clause-joined
returns-clause-joined c =
    let names = c.args.self.now.players in
    let results = c.args.self.now.results in
    let e : c.in_ok-table_of.field-0.items ≡ table_of names results =
    c.in_ok-table_of.ensures
    ∙ ap (λ n. table_of n c.as_slice.result.now)
    (c.as_slice-names.ensures ∙ ap (λ (v : TourneyState). v.players) c.self.view_is)
    ∙ ap (λ r. table_of names r) (c.as_slice.ensures ∙ ap (λ (v : TourneyState). v.results) c.self.view_is) in
    rows_joined names results c.in_ok-table_of.field-0.items
    (subst (IsTable names results) (sym e) (is_table names results))
