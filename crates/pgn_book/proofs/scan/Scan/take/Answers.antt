use Rattle.std.proofs.Common.{ap, refl}
use Rattle.pgn_book.specs.Reader.{Scan}
use Rattle.pgn_book.specs.Taking.{on_if}
use Rattle.pgn_book.proofs.ReaderSteps.{took_byte}
use Rattle.pgn_book.proofs.SoundStates.{byte_sound}
use Rattle.pgn_book.proofs.scan.Scan.take.Goals as goal

pub returns-clause-goes_on : goal.returns-clause-goes_on
returns-clause-goes_on c =
    took_byte c.self.inside.walk c.step.new.self c.self.inside.goes_on c.self.inside.line c.args.byte c.args.self.now
    (record {
      on = on_if c.in_ok-read.read.goes_on c.step.new.self;
      line = c.line_behind-line.result;
    }) c.in_ok-read.read
    (ap (λ (s : Scan). s.on) c.self.view_is) (ap (λ (s : Scan). s.line) c.self.view_is) c.if-not-self.false
    c.in_ok-read.ensures.taken
    refl c.line_behind-line.ensures

pub returns-clause-exportable : goal.returns-clause-exportable
returns-clause-exportable c =
    (byte_sound c.self.inside.walk c.step.new.self c.self.inside.goes_on c.args.byte c.in_ok-read.read
    c.if-not-self.false c.self.invariant c.in_ok-read.ensures.taken).given

pub invariant_of-self-2 : goal.invariant_of-self-2
invariant_of-self-2 c =
    (byte_sound c.self.inside.walk c.step.new.self c.self.inside.goes_on c.args.byte c.in_ok-read.read
    c.if-not-self.false c.self.invariant c.in_ok-read.ensures.taken).on
