use Rattle.std.proofs.Common.{◌≡◌, None, ap, ◌∙◌, [], ◌∷◌, ◌++◌}
use Rattle.indexmap.specs.IndexMap.{get}
use Rattle.tables.proofs.KeyedRows.{are_keyed, are_rows, pushed-keyed, is_new}
use Rattle.tables.proofs.table.Table.push.Goals as goal

pub invariant_of-self-2 : goal.invariant_of-self-2
invariant_of-self-2 g c =
    let key_of = g.T.Keyed.key_of in
    let eq = g.K.PartialEq.eq in
    let none : get eq c.self.inside.rows (key_of c.args.row) ≡ None =
    is_new key_of (eq (key_of c.args.row)) c.self.inside.rows.entries _ c.args.self.now c.self.invariant c.self.view_is
    c.requires in
    are_keyed key_of _ _
    (c.in_ok-insert.ensures.entries
    ∙ pushed-keyed key_of eq c.self.inside.rows _ c.args.row c.key.result c.key.ensures c.self.invariant none)

pub returns-clause-ok : goal.returns-clause-ok
returns-clause-ok g c =
    let key_of = g.T.Keyed.key_of in
    let eq = g.K.PartialEq.eq in
    let none : get eq c.self.inside.rows (key_of c.args.row) ≡ None =
    is_new key_of (eq (key_of c.args.row)) c.self.inside.rows.entries _ c.args.self.now c.self.invariant c.self.view_is
    c.requires in
    are_rows key_of _ _
    (c.in_ok-insert.ensures.entries
    ∙ pushed-keyed key_of eq c.self.inside.rows _ c.args.row c.key.result c.key.ensures c.self.invariant none)
    ∙ ap (λ rows. rows ++ c.args.row ∷ []) c.self.view_is
