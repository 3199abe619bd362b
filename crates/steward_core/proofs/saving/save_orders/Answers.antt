use Rattle.std.proofs.Common.{◌∙◌, refl, arith}
use Rattle.edge_traits.specs.Calls.{store_of}
use Rattle.steward_core.proofs.AgreedStill.{agreed_still}
use Rattle.steward_core.proofs.OrdersSaved.{agreed_next, ended_fault, ended_last, ended_most, ended_short, none_saved, ran_to, saved_next}
use Rattle.steward_core.proofs.saving.save_orders.Goals as goal

pub loop-answer-init : goal.loop-answer-init
loop-answer-init g c = record {
  home = refl;
  known = c.session-session.ensures.known;
  count = refl;
  saved =
      none_saved c.args.moment (store_of g.P.Keeper.table g.P.Keeper.faults g.P.Keeper.calls c.args.keeper.now)
      (g.R.Runner.state c.args.runner.now) c.session-session.ensures.known;
  agreed = agreed_still (g.P.Keeper.table c.args.keeper.now) (g.R.Runner.state c.args.runner.now);
  counted = omega arith;
}

pub loop-answer-preserved : goal.loop-answer-preserved
loop-answer-preserved g c =
    let round = ran_to c.save_round.ensures.round c.in-Full.is in
    let counted = c.loop-answer.invariant.counted in
    let more = c.save_round.ensures.counted in
    let count = c.loop-answer.invariant.count in
    record {
      home = c.save_round.ensures.home ∙ c.loop-answer.invariant.home;
      known = round.grew.known;
      count = omega (arith, count);
      saved = saved_next c.loop-answer.invariant.saved round;
      agreed =
          agreed_next c.loop-answer.invariant.saved round c.loop-answer.invariant.agreed c.save_round.ensures.agrees;
      counted = omega (arith, counted, more);
    }

pub returns-in-Last-clause-saving : goal.returns-in-Last-clause-saving
returns-in-Last-clause-saving g c =
    ended_last c.loop-answer.invariant.saved c.loop-answer.invariant.count
    (ran_to c.save_round.ensures.round c.in-Last.is)

pub returns-in-KeeperFault-clause-saving : goal.returns-in-KeeperFault-clause-saving
returns-in-KeeperFault-clause-saving g c =
    ended_fault c.loop-answer.invariant.saved (ran_to c.save_round.ensures.round c.in-KeeperFault.is)

pub returns-in-Memory-clause-saving : goal.returns-in-Memory-clause-saving
returns-in-Memory-clause-saving g c =
    ended_short c.loop-answer.invariant.saved (ran_to c.save_round.ensures.round c.in-Memory.is)

pub returns-clause-saving : goal.returns-clause-saving
returns-clause-saving g c =
    let most = c.loop-answer-test.false in
    let end = c.loop-answer.auto.answer-end in
    ended_most c.loop-answer.invariant.saved c.loop-answer.invariant.count (omega (arith, most, end))

pub returns-in-Last-clause-agrees : goal.returns-in-Last-clause-agrees
returns-in-Last-clause-agrees g c =
    agreed_next c.loop-answer.invariant.saved c.save_round.ensures.round c.loop-answer.invariant.agreed
    c.save_round.ensures.agrees

pub returns-in-KeeperFault-clause-agrees : goal.returns-in-KeeperFault-clause-agrees
returns-in-KeeperFault-clause-agrees g c =
    agreed_next c.loop-answer.invariant.saved c.save_round.ensures.round c.loop-answer.invariant.agreed
    c.save_round.ensures.agrees

pub returns-in-Memory-clause-agrees : goal.returns-in-Memory-clause-agrees
returns-in-Memory-clause-agrees g c =
    agreed_next c.loop-answer.invariant.saved c.save_round.ensures.round c.loop-answer.invariant.agreed
    c.save_round.ensures.agrees
