use Rattle.std.proofs.Common.{slice_get, unwrap_or, refl, sym, ap, ◌∙◌}
use Rattle.tables.specs.Rows.{change_at}
use Rattle.tables.proofs.KeyedRows.{are_keyed, are_rows, written-in}
use Rattle.tables.proofs.table.Table.part_mut.Goals as goal

pub invariant_of-self-lent : goal.invariant_of-self-lent
invariant_of-self-lent g c w =
    are_keyed g.T.Keyed.key_of _ _
    (written-in g.T.Keyed.key_of (λ row. g.T.Parted.with_part row w) (λ row. c.requires.keeps row w)
    c.self.inside.rows.entries c.args.place c.index_mut-row.result.now c.self.invariant c.index_mut-row.ensures.value)

pub returns : goal.returns
returns g c = (
  (
    refl {a = c.part_mut.result.ghost_name},
    λ w.
        are_rows g.T.Keyed.key_of _ _
        (written-in g.T.Keyed.key_of (λ row. g.T.Parted.with_part row w) (λ row. c.requires.keeps row w)
        c.self.inside.rows.entries c.args.place c.index_mut-row.result.now c.self.invariant
        c.index_mut-row.ensures.value)
        ∙ ap (change_at c.args.place (λ row. g.T.Parted.with_part row w)) c.self.view_is,
  ),
  record {
    writes_back = tt;
    value = λ row at.
        c.part_mut.ensures.value
        ∙ ap (λ o. g.T.Parted.part (unwrap_or o row))
        (sym c.index_mut-row.ensures.value ∙ ap (λ rows. slice_get rows c.args.place) c.self.view_is ∙ at);
  },
)
