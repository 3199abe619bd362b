use Rattle.std.proofs.Common.{sym, ap, ◌∙◌, rules}
use Rattle.std.specs.List.{filter}
use Rattle.indexmap.proofs.CallerLemmas.{filter-RetainsPairs}
use Rattle.tables.proofs.KeyedRows.{are_keyed, are_rows, filter-keyed}
use Rattle.tables.proofs.table.Table.retain_all.Goals as goal

pub invariant_of-self : goal.invariant_of-self
invariant_of-self g c =
    let key_of = g.T.Keyed.key_of in
    let p = g.P.Predicate.passes c.args.test.now in
    are_keyed key_of _ _
    (filter-RetainsPairs _ (λ e. p e.1) _ (λ k v b w f call. search rules) _ _ c.retain.ensures.filtered
    ∙ ap (filter (λ e. p e.1)) (sym c.self.invariant) ∙ filter-keyed key_of p _)

pub returns : goal.returns
returns g c =
    let key_of = g.T.Keyed.key_of in
    let p = g.P.Predicate.passes c.args.test.now in
    are_rows key_of _ _
    (filter-RetainsPairs _ (λ e. p e.1) _ (λ k v b w f call. search rules) _ _ c.retain.ensures.filtered
    ∙ ap (filter (λ e. p e.1)) (sym c.self.invariant) ∙ filter-keyed key_of p _)
    ∙ ap (filter p) c.self.view_is
