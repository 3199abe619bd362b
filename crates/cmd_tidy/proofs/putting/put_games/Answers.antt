use Rattle.std.proofs.Common.{◌++◌}
use Rattle.std.proofs.lemmas.Result.{err_from_is_err_and}
use Rattle.cmd_tidy.proofs.Steps.{put_all, put_more, put_stopped}
use Rattle.cmd_tidy.proofs.putting.put_games.Goals as goal

pub returns-in_err-put_next : goal.returns-in_err-put_next
returns-in_err-put_next c = λ taken base games given due.
    let q = err_from_is_err_and c.from_residual.result c.from_residual.ensures.1 in
    let so_far = c.loop.invariant taken base games given due in
    rw (q.1, q.2)
    (put_stopped taken (base ++ c.put_next.new.out.items) c.put_next.new.reader c.in_err-put_next.field-0.0
    (c.in_err-put_next.ensures.put taken base so_far.games so_far.given so_far.text))

pub loop-preserved : goal.loop-preserved
loop-preserved c = λ taken base games given due.
    let so_far = c.loop.invariant taken base games given due in
    put_more taken (base ++ c.put_next.new.out.items) c.put_next.new.reader c.in_ok-put_next.field-0 c.if-branch.true
    (c.in_ok-put_next.ensures.put taken base so_far.games so_far.given so_far.text)

pub returns : goal.returns
returns c = λ taken base games given due.
    let so_far = c.loop.invariant taken base games given due in
    put_all taken (base ++ c.put_next.new.out.items) c.put_next.new.reader c.in_ok-put_next.field-0 c.if-branch.false
    (c.in_ok-put_next.ensures.put taken base so_far.games so_far.given so_far.text)
