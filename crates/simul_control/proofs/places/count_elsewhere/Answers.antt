use Rattle.std.proofs.Common.{◌∙◌, ◌≤◌, ap, length, subst, sym, take}
use Rattle.std.specs.List.{count_by}
use Rattle.simul_control.specs.PlaceFields.{rows_in}
use Rattle.simul_control.specs.Places.{PlaceList, is_elsewhere}
use Rattle.simul_control.proofs.Field.{count-column}
use Rattle.simul_control.proofs.places.count_elsewhere.Goals as goal

pub returns : goal.returns
returns c =
    c.count_others.ensures
    ∙ count-column c.args.desk c.args.first (rows_in c.places.inside) c.places.inside.desks c.places.invariant.desks
    (subst (λ (l : PlaceList). c.args.first ≤ length l.rows) (sym c.places.view_is) c.requires)
    ∙ ap (λ (l : PlaceList). count_by (is_elsewhere c.args.desk) (take c.args.first l.rows)) c.places.view_is
