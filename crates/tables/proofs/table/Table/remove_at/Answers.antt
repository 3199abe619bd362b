use Rattle.std.proofs.Common.{ap, ◌∙◌}
use Rattle.std.specs.List.{remove}
use Rattle.tables.proofs.KeyedRows.{are_keyed, are_rows}
use Rattle.tables.proofs.Sifting.{remove-keyed}
use Rattle.tables.proofs.table.Table.remove_at.Goals as goal

pub invariant_of-self : goal.invariant_of-self
invariant_of-self g c =
    let key_of = g.T.Keyed.key_of in
    are_keyed key_of _ _ (c.shift_remove_index.ensures.entries ∙ remove-keyed key_of _ _ c.args.place c.self.invariant)

pub returns : goal.returns
returns g c =
    let key_of = g.T.Keyed.key_of in
    are_rows key_of _ _ (c.shift_remove_index.ensures.entries ∙ remove-keyed key_of _ _ c.args.place c.self.invariant)
    ∙ ap (λ rows. remove rows c.args.place) c.self.view_is
