use Rattle.std.proofs.Common.{◌+◌, ◌≤◌, List, length, refl, rules, sym, ap, subst, ◌∙◌}
use Rattle.std.specs.List.{filter}
use Rattle.tables.specs.Sifting.{BeginPassing}
use Rattle.tables.proofs.Sifting.{all_stay, asked, begin-within, pass_before, same_stay}
use Rattle.tables.proofs.table.Table.+sift.Goals as goal

pub failing_ahead-requires : goal.failing_ahead-requires
failing_ahead-requires g t c =
    subst (λ (rows : List g.row.T.Denot). c.args.place ≤ length rows) (sym c.as_slice.ensures.rows)
    (begin-within (g.P.Predicate.passes c.args.test.now) c.args.place c.args.self.now c.requires)

pub returns-in_default : goal.returns-in_default
returns-in_default g t c =
    let p = g.P.Predicate.passes c.args.test.now in
    let none =
    asked p c.args.place c.as_slice.result.now c.args.self.now _ _ c.as_slice.ensures.rows c.failing_ahead.ensures
    c.in_default.is in
    sym (all_stay p c.args.place c.args.self.now c.requires none)

pub sift-requires : goal.sift-requires
sift-requires g t c κs within =
    let p = g.P.Predicate.passes c.args.test.now in
    let found =
    asked p c.args.place c.as_slice.result.now c.args.self.now _ _ c.as_slice.ensures.rows c.failing_ahead.ensures
    c.in-Some.is in
    let passing =
    subst (BeginPassing p (c.args.place + c.in-Some.ahead)) (sym c.remove_at.ensures)
    (pass_before p c.args.place c.args.self.now c.in-Some.ahead _ c.requires found refl) in
    (search rules, (search rules, (search rules, (search rules, passing))))

pub returns : goal.returns
returns g t c =
    let p = g.P.Predicate.passes c.args.test.now in
    let found =
    asked p c.args.place c.as_slice.result.now c.args.self.now _ _ c.as_slice.ensures.rows c.failing_ahead.ensures
    c.in-Some.is in
    c.sift.ensures ∙ ap (filter p) c.remove_at.ensures
    ∙ same_stay p c.args.place c.args.self.now c.in-Some.ahead _ c.requires found refl
