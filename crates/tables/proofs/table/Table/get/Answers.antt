use Rattle.std.proofs.Common.{sym, ap, ◌∙◌}
use Rattle.std.specs.List.{find}
use Rattle.std.specs.Map.{lookup}
use Rattle.tables.specs.Rows.{has_key}
use Rattle.tables.proofs.KeyedRows.{lookup-keyed}
use Rattle.tables.proofs.table.Table.get.Goals as goal

pub returns : goal.returns
returns g c =
    let key_of = g.T.Keyed.key_of in
    let eq = g.K.PartialEq.eq in
    c.get.ensures.value ∙ ap (lookup (eq c.args.key)) (sym c.self.invariant)
    ∙ lookup-keyed key_of (eq c.args.key) _ ∙ ap (find (has_key key_of eq c.args.key)) c.self.view_is
