use Rattle.std.proofs.Common.{◌≡◌, ◌<◌, ◌≤◌, ◌++◌, ℕ, List, Bool, true, false, length, subst, arith}
use Rattle.cmd_lines.specs.Handling.{AfterAnswering, bad_line}
use Rattle.cmd_lines.specs.Progress.{OnBadLine}
use Rattle.cmd_lines.proofs.Feeding.{AfterLine-long, AfterLine-refused, IsLineAnswered-made}
use Rattle.cmd_lines.proofs.machine.Machine.end_line.Goals as goal

pub returns-then-len-gt-MOST_LINE_BYTES-clause-line : goal.returns-then-len-gt-MOST_LINE_BYTES-clause-line
returns-then-len-gt-MOST_LINE_BYTES-clause-line g c = λ start.
    let inside = c.self.inside in
    let out = c.args.out.now.items in
    let out' = c.refuse_line.new.out.items in
    let long : 1023 < length inside.kept.items = omega (arith, c.len.ensures, c.if-len-gt-MOST_LINE_BYTES.true) in
    let told =
    subst (λ (l : List ℕ). OnBadLine c.refuse_line.result (out' ≡ out ++ bad_line l inside.number)) c.ending.ensures
    c.refuse_line.ensures in
    AfterLine-long (g.T.LineHandler.reached start) g.T.LineHandler.ending c.args.self.now inside.handler inside.number
    inside.kept.items c.self.view_is (g.met.T.LineHandler.lines start) long c.args.self.now out out'
    c.refuse_line.result told

pub returns-then-not-branch-clause-line : goal.returns-then-not-branch-clause-line
returns-then-not-branch-clause-line g c = λ start.
    let inside = c.self.inside in
    let out = c.args.out.now.items in
    let turned = c.answer_line.new.out.items in
    let out' = c.refuse_line-then-not-branch.new.out.items in
    let stop = c.refuse_line-then-not-branch.result in
    let reached = g.T.LineHandler.reached start in
    let few : length inside.kept.items ≤ 1023 = omega (arith, c.len.ensures, c.if-len-gt-MOST_LINE_BYTES.false) in
    let told =
    subst (λ (l : List ℕ). OnBadLine stop (out' ≡ turned ++ bad_line l inside.number)) c.ending-then-not-branch.ensures
    c.refuse_line-then-not-branch.ensures in
    let answer_line =
    subst (λ (l : List ℕ). AfterAnswering reached inside.handler l out c.answer_line.new.self turned false)
    c.as_slice.ensures.value
    (subst (λ (good : Bool).
    AfterAnswering reached inside.handler c.as_slice.result.now out c.answer_line.new.self turned good)
    c.if-not-branch.true (c.in_ok-answer_line.ensures start)) in
    AfterLine-refused reached g.T.LineHandler.ending c.args.self.now inside.handler inside.number inside.kept.items
    c.self.view_is few c.answer_line.new.self c.args.self.now out turned out' stop answer_line told

pub returns-clause-line : goal.returns-clause-line
returns-clause-line g c = λ start.
    let inside = c.self.inside in
    let out = c.args.out.now.items in
    let turned = c.answer_line.new.out.items in
    let reached = g.T.LineHandler.reached start in
    let few : length inside.kept.items ≤ 1023 = omega (arith, c.len.ensures, c.if-len-gt-MOST_LINE_BYTES.false) in
    let answer_line =
    subst (λ (l : List ℕ). AfterAnswering reached inside.handler l out c.answer_line.new.self turned true)
    c.as_slice.ensures.value
    (subst (λ (good : Bool).
    AfterAnswering reached inside.handler c.as_slice.result.now out c.answer_line.new.self turned good)
    c.if-not-branch.false (c.in_ok-answer_line.ensures start)) in
    IsLineAnswered-made reached g.T.LineHandler.ending c.args.self.now inside.handler inside.number inside.kept.items
    c.self.view_is few c.answer_line.new.self c.clear.new.self.items out turned answer_line c.clear.ensures.items
