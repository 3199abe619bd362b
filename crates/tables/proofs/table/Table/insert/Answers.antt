use Rattle.std.proofs.Common.{◌≡◌, None, sym, ap, ◌∙◌, true≢false, is_some}
use Rattle.std.specs.List.{insert}
use Rattle.indexmap.specs.IndexMap.{get}
use Rattle.tables.proofs.KeyedRows.{are_keyed, are_rows, inserted-keyed, is_new}
use Rattle.tables.proofs.table.Table.insert.Goals as goal

pub shift_insert-requires-clause-below_len : goal.shift_insert-requires-clause-below_len
shift_insert-requires-clause-below_len g c there =
    let key_of = g.T.Keyed.key_of in
    let eq = g.K.PartialEq.eq in
    let none : get eq c.self.inside.rows (key_of c.args.row) ≡ None =
    is_new key_of (eq (key_of c.args.row)) c.self.inside.rows.entries _ c.args.self.now c.self.invariant c.self.view_is
    c.requires.new in
    absurd (true≢false (sym there ∙ ap (λ k. is_some (get eq c.self.inside.rows k)) c.key.ensures ∙ ap is_some none))

pub invariant_of-self-2 : goal.invariant_of-self-2
invariant_of-self-2 g c =
    let key_of = g.T.Keyed.key_of in
    let eq = g.K.PartialEq.eq in
    let none : get eq c.self.inside.rows (key_of c.args.row) ≡ None =
    is_new key_of (eq (key_of c.args.row)) c.self.inside.rows.entries _ c.args.self.now c.self.invariant c.self.view_is
    c.requires.new in
    are_keyed key_of _ _
    (c.in_ok-shift_insert.ensures.entries
    ∙ inserted-keyed key_of eq c.self.inside.rows _ c.args.row c.key.result c.args.place c.key.ensures c.self.invariant
    none)

pub returns-clause-ok : goal.returns-clause-ok
returns-clause-ok g c =
    let key_of = g.T.Keyed.key_of in
    let eq = g.K.PartialEq.eq in
    let none : get eq c.self.inside.rows (key_of c.args.row) ≡ None =
    is_new key_of (eq (key_of c.args.row)) c.self.inside.rows.entries _ c.args.self.now c.self.invariant c.self.view_is
    c.requires.new in
    are_rows key_of _ _
    (c.in_ok-shift_insert.ensures.entries
    ∙ inserted-keyed key_of eq c.self.inside.rows _ c.args.row c.key.result c.args.place c.key.ensures c.self.invariant
    none)
    ∙ ap (λ rows. insert rows c.args.place c.args.row) c.self.view_is
