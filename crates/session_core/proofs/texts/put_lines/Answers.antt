use Rattle.std.proofs.Common.{List, ℕ, ◌++◌, refl, ap, ◌∙◌}
use Rattle.session_core.specs.Texts.{line_end, lines_text}
use Rattle.session_core.proofs.Lists.{one_put, all_put}
use Rattle.session_core.proofs.texts.put_lines.Goals as goal

pub loop-line-preserved : goal.loop-line-preserved
loop-line-preserved c =
    let x = c.line-item.result in
    let out = c.loop-line.out.items in
    one_put lines_text (λ (line : List ℕ). line) line_end c.args.lines.now c.loop-line.line-index x c.args.out.now.items
    out c.put_line.new.out.items (λ y ys. refl) c.loop-line-test.true c.loop-line.invariant
    (c.in_ok-put_line.ensures ∙ ap (λ y. out ++ y ++ line_end) c.line-item.is)

pub returns : goal.returns
returns c =
    all_put lines_text c.args.lines.now c.loop-line.line-index c.args.out.now.items c.loop-line.out.items refl
    c.loop-line-test.false c.loop-line.invariant
