use Rattle.std.proofs.Common.{ℕ, Bool, List, ap, take, ◌∙◌}
use Rattle.std.specs.Prelude.{◌==◌}
use Rattle.std.specs.List.{list_any}
use Rattle.simul_control.specs.PlaceFields.{column_of, rows_in}
use Rattle.simul_control.specs.Places.{PlaceList, is_at}
use Rattle.simul_control.proofs.Field.{take-column}
use Rattle.simul_control.proofs.Leaving.{any-desks}
use Rattle.simul_control.proofs.places.Places.is_at.Goals as goal

pub returns : goal.returns
returns c =
    let rows = rows_in c.self.inside in
    let there : List ℕ → Bool = list_any (λ other. other == c.args.desk) in
    c.has_desk.ensures
    ∙ ap (λ column. there (take c.self.inside.count column)) c.self.invariant.desks
    ∙ ap (λ n. there (take n (column_of (λ row. row.desk) rows))) c.self.invariant.counted
    ∙ ap there (take-column (λ row. row.desk) rows)
    ∙ any-desks c.args.desk rows
    ∙ ap (λ (l : PlaceList). list_any (is_at c.args.desk) l.rows) c.self.view_is
