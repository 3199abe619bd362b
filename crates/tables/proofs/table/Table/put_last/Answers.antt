use Rattle.std.proofs.Common.{◌∷◌, ◌++◌, [], not, sym, ap, ◌∙◌}
use Rattle.std.specs.List.{filter, find}
use Rattle.std.specs.Map.{lookup}
use Rattle.tables.specs.Rows.{has_key}
use Rattle.tables.proofs.Firsts.{on_err}
use Rattle.tables.proofs.KeyedRows.{are_keyed, are_rows, lookup-keyed}
use Rattle.tables.proofs.PutLast.{put_last-keyed}
use Rattle.tables.proofs.table.Table.put_last.Goals as goal

pub returns-in_err-insert_before-clause-new : goal.returns-in_err-insert_before-clause-new
returns-in_err-insert_before-clause-new g c =
    let key_of = g.T.Keyed.key_of in
    let eq = g.K.PartialEq.eq in
    on_err c.from_residual.result
    (ap (find (has_key key_of eq (key_of c.args.row))) (sym c.self.view_is)
    ∙ sym (lookup-keyed key_of (eq (key_of c.args.row)) _)
    ∙ (λ j. lookup (eq (sym c.key.ensures j)) (c.self.invariant j))
    ∙ c.in_err-insert_before.ensures.absent)

pub invariant_of-self-2 : goal.invariant_of-self-2
invariant_of-self-2 g c =
    are_keyed g.T.Keyed.key_of _ _
    (c.in_ok-insert_before.ensures.entries
    ∙ put_last-keyed g.T.Keyed.key_of g.K.PartialEq.eq c.self.inside.rows _ c.args.row c.key.result c.len-end.result _
    c.requires c.len-end.ensures.unique
    c.key.ensures c.self.invariant c.len-end.ensures.len c.in_ok-insert_before.ensures.index)

pub returns-clause-ok : goal.returns-clause-ok
returns-clause-ok g c =
    let key_of = g.T.Keyed.key_of in
    let eq = g.K.PartialEq.eq in
    are_rows key_of _ _
    (c.in_ok-insert_before.ensures.entries
    ∙ put_last-keyed key_of eq c.self.inside.rows _ c.args.row c.key.result c.len-end.result _ c.requires
    c.len-end.ensures.unique
    c.key.ensures c.self.invariant c.len-end.ensures.len c.in_ok-insert_before.ensures.index)
    ∙ ap (λ rows. filter (λ other. not (has_key key_of eq (key_of c.args.row) other)) rows ++ c.args.row ∷ [])
    c.self.view_is
