use Rattle.std.proofs.Common.{inl, option_map, sym, refl, ap, ◌∙◌}
use Rattle.tables.specs.Rows.{has_key}
use Rattle.tables.proofs.Placed.{changed_at, find-missing, part_found}
use Rattle.tables.proofs.table.Table.part_of_mut.Goals as goal

pub returns-in-Some : goal.returns-in-Some
returns-in-Some g c =
    let test = has_key g.T.Keyed.key_of g.K.PartialEq.eq c.args.key in
    let at = sym c.place.ensures ∙ c.in-Some.is in (
      (λ j.
          inl (
            c.part_mut.result.ghost_name,
            λ w. changed_at test (λ row. g.T.Parted.with_part row w) c.args.self.now c.in-Some.place at j,
          )),
      record {
        writes_back = tt;
        value =
            part_found test g.T.Parted.part c.args.self.now c.in-Some.place c.part_mut.result.now at
            c.part_mut.ensures.value;
      },
    )

pub returns-in-None : goal.returns-in-None
returns-in-None g c =
    let test = has_key g.T.Keyed.key_of g.K.PartialEq.eq c.args.key in (
      refl,
      record {
        writes_back = tt;
        value =
            sym
            (ap (option_map g.T.Parted.part) (find-missing test c.args.self.now (sym c.place.ensures ∙ c.in-None.is)));
      },
    )
