use Rattle.std.proofs.Common.{ℕ, subst}
use Rattle.one_server.specs.Running.{Runs}
use Rattle.test_session.specs.Beside.{opposed}
use Rattle.test_session.proofs.Opposed.{runs_beside}
use Rattle.test_session.proofs.opponent.OpposedSeat.answered.Goals as goal

pub returns-clause-ran : goal.returns-clause-ran
returns-clause-ran c =
    subst (λ (m : ℕ).
    Runs (opposed c.args.self.now.server.now) (record {
      moment = m;
      act = c.args.act;
    }) c.run.result (opposed c.run.new.self))
    c.millis-2.ensures.value
    (runs_beside c.run.result c.args.self.now.server.now _ c.run.new.self (record {
      moment = c.millis-2.result;
      act = c.args.act;
    }) c.speak_before.ensures c.run.ensures.ok c.run.ensures.legal c.run.ensures.fits c.run.ensures.err)
