use Rattle.std.proofs.Common.{◌∙◌}
use Rattle.cmd_replay.proofs.Doings.{connected, cut, plain_taken, stamped_taken}
use Rattle.cmd_replay.proofs.answering.do_event.Goals as goal

pub returns-in_ok-open-in-Connect-clause-done : goal.returns-in_ok-open-in-Connect-clause-done
returns-in_ok-open-in-Connect-clause-done c =
    connected c.args.line.now.event c.args.line.now.session c.args.line.now.moment c.args.server.now c.args.session.now
    _ c.in-Connect.is (c.unasked.ensures.bytes ∙ c.in_ok-open-in-Connect.ensures)

pub returns-in_ok-leave_server-in-Cut-clause-done : goal.returns-in_ok-leave_server-in-Cut-clause-done
returns-in_ok-leave_server-in-Cut-clause-done c =
    cut c.args.line.now.event c.args.line.now.session c.args.line.now.moment c.args.server.now c.leave_server.new.server
    c.args.session.now c.leave_server.new.session _ c.in-Cut.is
    (c.unasked-in-Cut.ensures.bytes ∙ c.new.ensures.items) c.in_ok-leave_server-in-Cut.ensures

pub returns-in_ok-duplicate-in-Plain-clause-done : goal.returns-in_ok-duplicate-in-Plain-clause-done
returns-in_ok-duplicate-in-Plain-clause-done c =
    plain_taken c.take_input-in-Plain.result c.args.line.now.event c.args.line.now.session c.args.line.now.moment
    c.args.server.now _ c.args.session.now _ c.in-Plain.text c.in_ok-duplicate-in-Plain.field-0
    c.in-Plain.is c.in_ok-duplicate-in-Plain.ensures c.take_input-in-Plain.ensures.taken

pub returns-in_ok-duplicate-in-Stamped-clause-done : goal.returns-in_ok-duplicate-in-Stamped-clause-done
returns-in_ok-duplicate-in-Stamped-clause-done c =
    stamped_taken c.take_input-in-Stamped.result c.args.line.now.event c.args.line.now.session c.args.line.now.moment
    c.args.server.now _ c.args.session.now _ c.in-Stamped.stamp c.in-Stamped.text c.in_ok-duplicate-in-Stamped.field-0
    c.in-Stamped.is c.in_ok-duplicate-in-Stamped.ensures c.take_input-in-Stamped.ensures.taken
