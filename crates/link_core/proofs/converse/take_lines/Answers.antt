use Rattle.std.proofs.Common.{◌≡◌, Some, IfSome, ◌∙◌, le_trans, subst}
use Rattle.std.specs.declared.option.Option.{Option}
use Rattle.line_reader.specs.declared.incoming.Incoming.{Incoming}
use Rattle.line_reader.specs.Reader.{GivesLine, LineReading}
use Rattle.link_core.proofs.Stamps.{given_fits}
use Rattle.link_core.proofs.Stepping.{progress_line, stopped_line, stopped_reader}
use Rattle.link_core.proofs.Tales.{leaves_behind}
use Rattle.link_core.proofs.converse.take_lines.Goals as goal

-- what the reader says of the line that it gave
gives : (one other : LineReading) (line : Incoming) {given : Option Incoming} → given ≡ Some line
    → IfSome given (λ it. GivesLine one it other) → GivesLine one line other
gives one other line is told = subst (λ (o : Option Incoming). IfSome o (λ it. GivesLine one it other)) is told

pub answer-requires-clause-fits : goal.answer-requires-clause-fits
answer-requires-clause-fits g c =
    given_fits c.loop-line.reader c.next.new.self c.in-Ok-Some.line
    (gives c.loop-line.reader c.next.new.self c.in-Ok-Some.line c.in-Ok-Some.field-0-is c.in-Ok-Some.ensures.line)

pub loop-line-preserved : goal.loop-line-preserved
loop-line-preserved g c = record {
  home = c.answer.ensures.home ∙ c.loop-line.invariant.home;
  steps = λ start turns p.
      progress_line (c.loop-line.invariant.steps start turns p) c.next.new.self c.in-Ok-Some.line
      (gives c.loop-line.reader c.next.new.self c.in-Ok-Some.line c.in-Ok-Some.field-0-is c.in-Ok-Some.ensures.line)
      c.in-Ok.ensures.answered;
  here = c.in-Ok.ensures.here;
  unclosed = c.in-Ok.ensures.link.unclosed;
  counted = le_trans c.loop-line.invariant.counted c.answer.ensures.link.counted;
}

pub returns-in-Err-answer-clause-steps : goal.returns-in-Err-answer-clause-steps
returns-in-Err-answer-clause-steps g c = λ start turns p.
    stopped_line (c.loop-line.invariant.steps start turns p) c.next.new.self c.in-Ok-Some.line
    (gives c.loop-line.reader c.next.new.self c.in-Ok-Some.line c.in-Ok-Some.field-0-is c.in-Ok-Some.ensures.line)
    c.in-Err-answer.end c.in-Err-answer.ensures.answered

pub returns-in-Err-clause-steps : goal.returns-in-Err-clause-steps
returns-in-Err-clause-steps g c = λ start turns p. stopped_reader (c.loop-line.invariant.steps start turns p)

pub returns-in-Err-answer-clause-link : goal.returns-in-Err-answer-clause-link
returns-in-Err-answer-clause-link g c = leaves_behind c.loop-line.invariant.counted c.in-Err-answer.ensures.link
