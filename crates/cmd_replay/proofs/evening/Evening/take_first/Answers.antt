use Rattle.std.proofs.Common.{◌≡◌}
use Rattle.replay_core.specs.SeatLine.{seat_text}
use Rattle.cmd_replay.proofs.EveningAnswers.{seats_answered}
use Rattle.cmd_replay.proofs.evening.Evening.take_first.Goals as goal

pub returns : goal.returns
returns c =
    let text : c.args.line.now ≡ seat_text c.in-Some.seats = rw c.in-Some.is at c.in_ok-seats.ensures.spelled in
    seats_answered c.args.self.now c.take_seats.new.self c.args.line.now c.args.out.now.items c.in-Some.seats text
    c.in_ok-take_seats.ensures
