use Rattle.std.proofs.Common.{List, [], ◌∷◌, ◌++◌, take, refl, subst, ◌∙◌, sym, ap, ◌+◌}
use Rattle.std.proofs.lemmas.List.{take_all, take_more}
use Rattle.lobby_state.specs.declared.desk_in_use.DeskInUse.{DeskInUse}
use Rattle.steward_core.specs.declared.clearing.ClearingEnd.{ClearingEnd}
use Rattle.steward_core.specs.Clearing.{Cleared, end_of_both}
use Rattle.steward_core.proofs.DesksCleared.{cleared_next, none_cleared}
use Rattle.steward_core.proofs.clearing.clear_each.Goals as goal

pub loop-row-init : goal.loop-row-init
loop-row-init g c =
    record { home = refl; cleared = none_cleared c.args.moment (g.R.Runner.state c.args.runner.now) c.requires }

pub loop-row-preserved : goal.loop-row-preserved
loop-row-preserved g c =
    let old = g.R.Runner.state c.args.runner.now in
    let mid = g.R.Runner.state c.loop-row.runner in
    let new = g.R.Runner.state c.clear_one-one.new.runner in
    let more =
    cleared_next c.args.moment c.loop-row.end c.clear_one-one.result (take c.loop-row.row-index c.args.rows.now)
    c.row-item.result old mid new c.loop-row.invariant.cleared c.clear_one-one.ensures.cleared in
    record {
      home = c.clear_one-one.ensures.home ∙ c.loop-row.invariant.home;
      cleared =
          subst
          (λ (end : ClearingEnd). Cleared c.args.moment end (take (c.loop-row.row-index + 1) c.args.rows.now) old new)
          (sym c.and-end.ensures)
          (subst (λ (rows : List DeskInUse).
          Cleared c.args.moment (end_of_both c.loop-row.end c.clear_one-one.result) rows old new)
          (sym
          (take_more c.args.rows.now c.loop-row.row-index c.row-item.result c.loop-row-test.true
          ∙ ap (λ row. take c.loop-row.row-index c.args.rows.now ++ row ∷ []) (sym c.row-item.is))) more);
    }

pub returns-clause-cleared : goal.returns-clause-cleared
returns-clause-cleared g c =
    subst (λ (rows : List DeskInUse).
    Cleared c.args.moment c.loop-row.end rows (g.R.Runner.state c.args.runner.now) (g.R.Runner.state c.loop-row.runner))
    (take_all c.loop-row.row-index c.args.rows.now c.loop-row-test.false) c.loop-row.invariant.cleared
