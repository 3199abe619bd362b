use Rattle.std.proofs.Common.{rules}
use Rattle.session_core.specs.Inputs.{text_for_input, input_course}
use Rattle.test_session.specs.Beside.{Beside}
use Rattle.test_session.proofs.Opposed.{beside_taken}
use Rattle.test_session.proofs.opponent.take.Goals as goal

pub returns : goal.returns
returns c =
    let b : Beside c.args.server.now c.take.new.r.server.now =
    beside_taken c.take.result (input_course c.args.input c.args.session.now)
    (text_for_input c.args.input c.args.session.now c.take.new.self) _ _ _ c.args.server.now _ _ c.args.session.now
    c.take.new.self
    c.seat.ensures.session c.seat.ensures.value c.take.ensures.answered c.take.ensures.broke in
    search (b, rules)
