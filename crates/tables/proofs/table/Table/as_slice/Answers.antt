use Rattle.std.proofs.Common.{map, sym, ap, subst, ◌∙◌}
use Rattle.std.specs.List.{IsDistinct}
use Rattle.std.specs.Map.{keys_of, values_of}
use Rattle.tables.proofs.KeyedRows.{keys_of-keyed}
use Rattle.tables.proofs.table.Table.as_slice.Goals as goal

pub returns-clause-apart : goal.returns-clause-apart
returns-clause-apart g c =
    let key_of = g.T.Keyed.key_of in
    subst (IsDistinct g.K.PartialEq.eq)
    (ap keys_of (sym c.self.invariant) ∙ keys_of-keyed key_of (values_of c.self.inside.rows.entries)
    ∙ ap (map key_of) c.self.view_is)
    c.len-len.ensures.unique
