use Rattle.std.proofs.Common.{◌≡◌, ◌<◌, ◌++◌, List, ℕ, length, sym, subst, ◌∙◌, arith}
use Rattle.std.specs.Prelude.{OnOk}
use Rattle.session_core.specs.Texts.{lines_text}
use Rattle.session_core.proofs.ListTexts.{none_put, some_put}
use Rattle.session_core.proofs.texts.put_list.Goals as goal

pub returns-then-len-eq0 : goal.returns-then-len-eq0
returns-then-len-eq0 c =
    none_put c.put_none.result c.args.out.now.items c.put_none.new.out.items c.args.lines.now
    (sym c.len.ensures ∙ c.if-len-eq0.true) c.put_none.ensures

pub returns : goal.returns
returns c =
    let some : 0 < length c.args.lines.now = omega (arith, c.len.ensures, c.if-len-eq0.false) in
    some_put c.put_each.result c.args.out.now.items c.put_each.new.out.items c.args.lines.now some
    (subst (λ (l : List ℕ). OnOk c.put_each.result (c.put_each.new.out.items ≡ l ++ lines_text c.args.lines.now))
    c.reserve.ensures.items c.put_each.ensures)
