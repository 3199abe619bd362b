use Rattle.std.proofs.Common.{arith}
use Rattle.std.proofs.lemmas.Result.{err_from_is_err_and}
use Rattle.cmd_pgn.proofs.Written.{sent_next, sent_part}
use Rattle.cmd_pgn.proofs.writing.write_games.Goals as goal

pub returns-in_err-write_game-clause-sent : goal.returns-in_err-write_game-clause-sent
returns-in_err-write_game-clause-sent g c =
    let q = err_from_is_err_and c.from_residual.result c.from_residual.ensures.1 in
    rw (q.1, q.2)
    (sent_part (g.K.Sink.written c.args.sink.now) (g.K.Sink.written c.loop-row.sink)
    (g.K.Sink.written c.write_game.new.sink) c.args.games.now c.loop-row.row-index
    c.row-item.result c.loop-row-test.true c.row-item.is c.loop-row.invariant.written (Unit {0}) (Unit {0})
    c.in_err-write_game.field-0.0 c.in_err-write_game.ensures.sent)

pub loop-row-preserved : goal.loop-row-preserved
loop-row-preserved g c = record {
  written =
      sent_next (g.K.Sink.written c.args.sink.now) (g.K.Sink.written c.loop-row.sink)
      (g.K.Sink.written c.write_game.new.sink) c.args.games.now c.loop-row.row-index
      c.row-item.result c.loop-row-test.true c.row-item.is c.loop-row.invariant.written c.in_ok-write_game.ensures.sent;
  counted = omega (arith, c.loop-row.invariant.counted, c.write_game.ensures.counted);
}
