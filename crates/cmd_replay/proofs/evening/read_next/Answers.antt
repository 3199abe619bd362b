use Rattle.std.proofs.Common.{◌≡◌, sym, ◌∙◌}
use Rattle.std.proofs.lemmas.Bool.{true≢false}
use Rattle.replay_core.specs.Script.{IsScriptLine, script_text}
use Rattle.cmd_replay.proofs.NextLines.{out_of_order}
use Rattle.cmd_replay.proofs.evening.read_next.Goals as goal

pub returns-then-not-may_come-clause-none : goal.returns-then-not-may_come-clause-none
returns-then-not-may_come-clause-none c =
    let written : c.args.line.now ≡ script_text c.in-Some.next = rw c.in-Some.is at c.in_ok-next.ensures.spelled in
    let spelled : IsScriptLine c.in-Some.next = rw c.in-Some.is at c.in_ok-next.ensures.in_range in
    out_of_order c.args.order.now c.args.line.now c.in-Some.next written spelled
    (λ seated lines after comes.
    true≢false (sym ((c.may_come.ensures seated lines after).1 comes) ∙ c.if-not-may_come.true))
