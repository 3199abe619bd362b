-- Where a line of a session may not come next: it is fixed by its text, so one reason is enough.
use Rattle.std.proofs.Common.{◌≡◌, ℕ, List, sym, subst, ◌∙◌}
use Rattle.replay_core.specs.declared.order.Attendance.{Attendance}
use Rattle.replay_core.specs.declared.script.ScriptLine.{ScriptLine}
use Rattle.replay_core.specs.Order.{Arrival, LineMayCome}
use Rattle.replay_core.specs.Attendance.{IsAfter}
use Rattle.replay_core.specs.Script.{IsScriptLine, script_text}
use Rattle.replay_core.proofs.Events.{one_line}
use Rattle.cmd_replay.specs.Evening.{IsNoNext}

-- it may not come here
pub out_of_order : (progress : Attendance) (bytes : List ℕ) (found : ScriptLine) → bytes ≡ script_text found
    → IsScriptLine found
    → ((seated : ℕ) (lines : List Arrival) → IsAfter progress seated lines → LineMayCome seated lines found → ⊥)
    → IsNoNext progress bytes
out_of_order progress bytes found written spelled may_not seated lines after line is text may =
    may_not seated lines after
    (subst (LineMayCome seated lines) (one_line line found is spelled (sym text ∙ written)) may)
