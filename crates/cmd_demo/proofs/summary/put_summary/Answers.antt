use Rattle.std.proofs.Common.{refl}
use Rattle.std.proofs.lemmas.Result.{on_ok_weaker}
use Rattle.cmd_demo.proofs.Told.{six_lines}
use Rattle.cmd_demo.proofs.summary.put_summary.Goals as goal

pub returns : goal.returns
returns c =
    on_ok_weaker c.put_count-6.result
    (λ last.
    six_lines c.args.log.now c.args.out.now.items _ _ _ _ _ _ _ _ _ _ refl c.games.ensures c.half_moves.ensures
    c.refusals.ensures c.in_ok-put_count.ensures
    c.in_ok-put_count-2.ensures c.in_ok-put_count-3.ensures c.in_ok-put_count-4.ensures c.in_ok-put_count-5.ensures
    last)
    c.put_count-6.ensures
