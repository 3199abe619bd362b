use Rattle.std.proofs.Common.{sym, ap, ◌∙◌}
use Rattle.std.specs.Option.{option_copied}
use Rattle.steward_core.proofs.OrdersTold.{says_last, tells_done, tells_short}
use Rattle.steward_core.proofs.saving.tell_saved.Goals.{in-Ok, in-Err}
use Rattle.steward_core.proofs.saving.tell_saved.Goals as goal

pub returns-clause-told : goal.returns-clause-told
returns-clause-told g c =
    let orders = c.args.orders.now in
    let old = g.R.Runner.state c.args.runner.now in
    let new = g.R.Runner.state c.answered.new.r in
    let last = says_last orders c.in-Some.last.now (sym c.last.ensures.value ∙ ap option_copied c.in-Some.is) in
    elim c.match-answered.branch [
      | in-Ok w ↦
          tells_done c.args.moment orders c.in-Some.last.now.number c.match-answered.result _ old new last w.result-is
          w.in-Ok.ensures.ran
      | in-Err w ↦
          tells_short c.args.moment orders c.in-Some.last.now.number c.match-answered.result old new last w.result-is
          w.in-Err.ensures.ran
    ]
