use Rattle.std.proofs.Common.{position, sym, ap, ◌∙◌}
use Rattle.std.specs.Map.{keys_of}
use Rattle.tables.specs.Rows.{has_key}
use Rattle.tables.proofs.KeyedRows.{position-keyed}
use Rattle.tables.proofs.table.Table.place.Goals as goal

pub returns : goal.returns
returns g c =
    let key_of = g.T.Keyed.key_of in
    let eq = g.K.PartialEq.eq in
    c.get_index_of.ensures.index ∙ ap (λ es. position (eq c.args.key) (keys_of es)) (sym c.self.invariant)
    ∙ position-keyed key_of (eq c.args.key) _ ∙ ap (position (has_key key_of eq c.args.key)) c.self.view_is
