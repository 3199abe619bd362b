use Rattle.std.proofs.Common.{[], ◌∷◌, ◌++◌, sym, ap, ◌∙◌}
use Rattle.tables.proofs.Firsts.{on_err}
use Rattle.tables.proofs.Placed.{find-missing}
use Rattle.seek_match.proofs.OpponentRows.{Lists-by, SaysTheSame-by, written}
use Rattle.seek_match.proofs.opponents.list.Goals as goal

pub list_first-requires : goal.list_first-requires
list_first-requires c = find-missing _ c.args.rows.now (sym c.in_default.ensures)

pub returns-in_err-push-clause-err : goal.returns-in_err-push-clause-err
returns-in_err-push-clause-err c =
    let rows = c.args.rows.now in
    let is = written c.args.who c.push.new.self c.part_mut.result.now rows c.in-Some.place c.in-Some.ensures
    c.part_mut.ensures.value in
    on_err c.from_residual.result
    (SaysTheSame-by c.args.who rows _ is.elsewhere (is.here ∙ c.in_err-push.ensures.err ∙ is.was))

pub returns-clause-ok : goal.returns-clause-ok
returns-clause-ok c =
    let rows = c.args.rows.now in
    let is = written c.args.who c.push.new.self c.part_mut.result.now rows c.in-Some.place c.in-Some.ensures
    c.part_mut.ensures.value in
    Lists-by c.args.who c.args.other rows _ is.elsewhere
    (is.here ∙ c.in_ok-push.ensures.ok ∙ ap (λ others. others ++ c.args.other ∷ []) is.was)
