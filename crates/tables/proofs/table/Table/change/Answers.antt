use Rattle.std.proofs.Common.{◌≡◌, sym, ap, ◌∙◌}
use Rattle.std.specs.List.{find}
use Rattle.std.specs.Map.{lookup, set_value, values_of}
use Rattle.std.specs.Option.{option_copied_mut}
use Rattle.tables.specs.Rows.{change_first, has_key, keyed}
use Rattle.tables.proofs.Firsts.{change_first-none}
use Rattle.tables.proofs.KeyedRows.{are_keyed, are_rows, changed-keyed, lookup-keyed}
use Rattle.tables.proofs.table.Table.change.Goals.{in-Some, in_default}
use Rattle.tables.proofs.table.Table.change.Given as given
use Rattle.tables.proofs.table.Table.change.Goals as goal

-- the entries are the rows behind their keys, with the one changed
changed : (g : given.Over) (c : goal.Joined-get_mut g)
    → c.match-get_mut.self-inside.rows.entries
    ≡ keyed g.T.Keyed.key_of
    (change_first (has_key g.T.Keyed.key_of g.K.PartialEq.eq c.args.key) (g.C.Change.changed c.args.change.now)
    (values_of c.self.inside.rows.entries))
changed g c =
    let key_of = g.T.Keyed.key_of in
    let test = g.K.PartialEq.eq c.args.key in
    let f = g.C.Change.changed c.args.change.now in
    let es = c.self.inside.rows.entries in
    let rows = values_of es in
    let looked : find (has_key key_of g.K.PartialEq.eq c.args.key) rows ≡ option_copied_mut c.get_mut.result =
    sym (lookup-keyed key_of test rows) ∙ ap (lookup test) c.self.invariant ∙ sym c.get_mut.ensures.value in
    elim c.match-get_mut.branch [
      | in-Some w ↦
          (λ j. (w.self-inside-is j).rows.entries) ∙ (c.get_mut.follows.holds w.change.new.item).0
          ∙ ap (set_value test es) w.change.ensures
          ∙ ap (λ es. set_value test es (f w.in-Some.row.now)) (sym c.self.invariant)
          ∙ changed-keyed key_of f c.requires test rows w.in-Some.row.now (looked ∙ ap option_copied_mut w.in-Some.is)
      | in_default w ↦
          (λ j. (w.self-inside-is j).rows.entries) ∙ (λ j. (c.get_mut.follows.holds-at-none j).entries)
          ∙ sym c.self.invariant
          ∙ ap (keyed key_of)
          (sym (change_first-none (has_key key_of g.K.PartialEq.eq c.args.key) f rows
          (looked ∙ ap option_copied_mut w.in_default.is)))
    ]

pub invariant_of-self : goal.invariant_of-self
invariant_of-self g c = are_keyed g.T.Keyed.key_of _ _ (changed g c)

pub returns : goal.returns
returns g c =
    are_rows g.T.Keyed.key_of _ _ (changed g c)
    ∙ ap (change_first (has_key g.T.Keyed.key_of g.K.PartialEq.eq c.args.key) (g.C.Change.changed c.args.change.now))
    c.self.view_is
