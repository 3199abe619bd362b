use Rattle.std.proofs.Common.{is_some, sym, ap, ◌∙◌}
use Rattle.std.specs.List.{find}
use Rattle.std.specs.Map.{lookup}
use Rattle.tables.specs.Rows.{has_key}
use Rattle.tables.proofs.Firsts.{is_some-find}
use Rattle.tables.proofs.KeyedRows.{lookup-keyed}
use Rattle.tables.proofs.table.Table.has.Goals as goal

pub returns : goal.returns
returns g c =
    let key_of = g.T.Keyed.key_of in
    let eq = g.K.PartialEq.eq in
    c.contains_key.ensures ∙ ap (λ es. is_some (lookup (eq c.args.key) es)) (sym c.self.invariant)
    ∙ ap is_some (lookup-keyed key_of (eq c.args.key) _)
    ∙ ap (λ rows. is_some (find (has_key key_of eq c.args.key) rows)) c.self.view_is
    ∙ is_some-find (has_key key_of eq c.args.key) c.args.self.now
