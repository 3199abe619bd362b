use Rattle.std.proofs.Common.{◌≡◌, refl}
use Rattle.cmd_lines.specs.Handling.{AfterAnswering}
use Rattle.cmd_replay.specs.Evening.{Reached}
use Rattle.cmd_replay.proofs.EveningAnswers.{no_line, same_answer, whatever_start}
use Rattle.cmd_replay.proofs.evening.EveningLineHandler.answer_line.Goals as goal

pub returns-in_default : goal.returns-in_default
returns-in_default c = λ start.
    (refl, no_line c.args.self.now c.args.line.now c.requires.some (rw c.in_default.is at c.in_ok-line.ensures))

pub returns-in-None : goal.returns-in-None
returns-in-None c =
    let line : c.in-Some.line ≡ c.args.line.now = (rw c.in-Some.is at c.in_ok-line.ensures).1 in
    whatever_start (λ good.
    AfterAnswering Reached c.args.self.now c.args.line.now c.args.out.now.items c.take_first.new.self
    c.take_first.new.out.items good)
    c.take_first.result
    (same_answer c.take_first.result c.args.self.now c.take_first.new.self c.in-Some.line c.args.line.now
    c.args.out.now.items c.take_first.new.out.items line c.take_first.ensures)

pub returns : goal.returns
returns c =
    let line : c.in-Some.line ≡ c.args.line.now = (rw c.in-Some.is at c.in_ok-line.ensures).1 in
    whatever_start (λ good.
    AfterAnswering Reached c.args.self.now c.args.line.now c.args.out.now.items c.take_event.new.self
    c.take_event.new.out.items good)
    c.take_event.result
    (same_answer c.take_event.result c.args.self.now c.take_event.new.self c.in-Some.line c.args.line.now
    c.args.out.now.items c.take_event.new.out.items line c.take_event.ensures)
