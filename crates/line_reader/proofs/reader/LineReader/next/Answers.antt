use Rattle.std.proofs.Common.{sym, subst, ◌∙◌}
use Rattle.line_reader.specs.Reader.{LineReading, IsKept}
use Rattle.line_reader.proofs.Steps.{next_gives, next_same, next_none}
use Rattle.line_reader.proofs.reader.LineReader.next.Goals as goal

pub returns-then-ends_line-clause-line : goal.returns-then-ends_line-clause-line
returns-then-ends_line-clause-line c =
    next_gives c.args.self.now c.loop-byte.self c.end_line.new.self c.in-Some.byte c.in_ok-incoming.incoming
    c.loop-byte.invariant (c.in-Some.ensures {u = tt}).first
    c.ends_line.ensures.kept (sym c.ends_line.ensures.value ∙ c.if-ends_line.true) (c.in_ok-incoming.ensures {u = tt})
    c.end_line.ensures

pub loop-byte-preserved : goal.loop-byte-preserved
loop-byte-preserved c =
    next_same c.args.self.now c.loop-byte.self c.pass.new.self c.in-Some.byte c.loop-byte.invariant
    (c.in-Some.ensures {u = tt}).first
    c.ends_line.ensures.kept (sym c.ends_line.ensures.value ∙ c.if-ends_line.false) c.pass.ensures

pub returns-clause-none : goal.returns-clause-none
returns-clause-none c =
    let same = c.forget.ensures.same in
    next_none c.args.self.now c.loop-byte.self c.loop-byte.invariant (c.in_default.ensures {u = tt}).none
    (subst (λ (r : LineReading). IsKept r.line) same c.forget.ensures.kept)
