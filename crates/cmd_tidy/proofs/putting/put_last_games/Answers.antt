use Rattle.std.proofs.Common.{◌++◌}
use Rattle.std.proofs.lemmas.Result.{err_from_is_err_and}
use Rattle.cmd_tidy.proofs.Steps.{last_all, last_more, last_stopped}
use Rattle.cmd_tidy.proofs.putting.put_last_games.Goals as goal

pub returns-in_err-put_last : goal.returns-in_err-put_last
returns-in_err-put_last c = λ taken base games ends due.
    let q = err_from_is_err_and c.from_residual.result c.from_residual.ensures.1 in
    let so_far = c.loop.invariant taken base games ends due in
    rw (q.1, q.2)
    (last_stopped taken (base ++ c.put_last.new.out.items) c.put_last.new.reader c.in_err-put_last.field-0.0
    (c.in_err-put_last.ensures.put taken base so_far.games so_far.ends so_far.text))

pub loop-preserved : goal.loop-preserved
loop-preserved c = λ taken base games ends due.
    let so_far = c.loop.invariant taken base games ends due in
    last_more taken (base ++ c.put_last.new.out.items) c.put_last.new.reader c.in_ok-put_last.field-0 c.if-branch.true
    (c.in_ok-put_last.ensures.put taken base so_far.games so_far.ends so_far.text)

pub returns : goal.returns
returns c = λ taken base games ends due.
    let so_far = c.loop.invariant taken base games ends due in
    last_all taken (base ++ c.put_last.new.out.items) c.put_last.new.reader c.in_ok-put_last.field-0 c.if-branch.false
    (c.in_ok-put_last.ensures.put taken base so_far.games so_far.ends so_far.text)
