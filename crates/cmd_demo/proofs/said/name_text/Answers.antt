use Rattle.std.proofs.Common.{sym, subst}
use Rattle.std.proofs.lemmas.Result.{IfOk-weaker}
use Rattle.fics_words.specs.Handle.{IsHandle}
use Rattle.fics_words.specs.Line.{IsLine}
use Rattle.cmd_demo.proofs.Printed.{name_line, no_name_line}
use Rattle.cmd_demo.proofs.said.name_text.Goals as goal

pub returns-in-Some-clause-line : goal.returns-in-Some-clause-line
returns-in-Some-clause-line c =
    let line =
    name_line c.args.front.now c.letters.result.now c.args.back.now c.requires.front c.requires.back
    (subst IsHandle (sym c.letters.ensures.letters) c.letters.ensures.handle) in
    IfOk-weaker c.joined-in-Some.result _ _ (λ text is. subst IsLine (sym is) line) c.joined-in-Some.ensures

pub returns-in-None-clause-line : goal.returns-in-None-clause-line
returns-in-None-clause-line c =
    IfOk-weaker c.joined.result _ _
    (λ text is. subst IsLine (sym is) (no_name_line c.args.front.now c.args.back.now c.requires.front c.requires.back))
    c.joined.ensures
