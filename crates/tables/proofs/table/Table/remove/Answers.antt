use Rattle.std.proofs.Common.{not, sym, ap, ◌∙◌}
use Rattle.std.specs.List.{filter, find}
use Rattle.std.specs.Map.{lookup}
use Rattle.tables.specs.Rows.{has_key}
use Rattle.tables.proofs.KeyedRows.{are_keyed, are_rows, lookup-keyed, removed-keyed}
use Rattle.tables.proofs.table.Table.remove.Goals as goal

pub invariant_of-self : goal.invariant_of-self
invariant_of-self g c =
    let key_of = g.T.Keyed.key_of in
    let e = c.shift_remove.ensures in
    are_keyed key_of _ _
    (e.entries
    ∙ removed-keyed key_of (g.K.PartialEq.eq c.args.key) _ _ c.self.invariant
    (ap (lookup (g.K.PartialEq.eq c.args.key)) (sym e.entries) ∙ e.updates.1))

pub returns-clause-removed : goal.returns-clause-removed
returns-clause-removed g c =
    let key_of = g.T.Keyed.key_of in
    let eq = g.K.PartialEq.eq in
    c.shift_remove.ensures.value ∙ ap (lookup (eq c.args.key)) (sym c.self.invariant)
    ∙ lookup-keyed key_of (eq c.args.key) _ ∙ ap (find (has_key key_of eq c.args.key)) c.self.view_is

pub returns-clause-rest : goal.returns-clause-rest
returns-clause-rest g c =
    let key_of = g.T.Keyed.key_of in
    let eq = g.K.PartialEq.eq in
    let e = c.shift_remove.ensures in
    are_rows key_of _ _
    (e.entries
    ∙ removed-keyed key_of (eq c.args.key) _ _ c.self.invariant
    (ap (lookup (eq c.args.key)) (sym e.entries) ∙ e.updates.1))
    ∙ ap (filter (λ row. not (has_key key_of eq c.args.key row))) c.self.view_is
