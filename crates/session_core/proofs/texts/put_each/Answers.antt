use Rattle.std.proofs.Common.{List, ℕ, [], refl, arith}
use Rattle.session_core.specs.Texts.{line_end, lines_text}
use Rattle.session_core.proofs.Lists.{one_put, all_put}
use Rattle.session_core.proofs.texts.put_each.Goals as goal

pub loop-place-preserved : goal.loop-place-preserved
loop-place-preserved c =
    one_put lines_text (λ (line : List ℕ). line) line_end c.args.lines.now c.loop-place.place [] c.args.out.now.items
    c.loop-place.out.items c.put_at.new.out.items (λ y ys. refl)
    (omega (arith, c.len-place-end.ensures, c.loop-place-test.true)) c.loop-place.invariant
    c.in_ok-put_at.ensures

pub returns : goal.returns
returns c =
    all_put lines_text c.args.lines.now c.loop-place.place c.args.out.now.items c.loop-place.out.items refl
    (omega (arith, c.len-place-end.ensures, c.loop-place-test.false)) c.loop-place.invariant
