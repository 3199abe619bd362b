use Rattle.std.proofs.Common.{◌<◌, ◌∷◌, Option, get_or, length, subst, rules, arith}
use Rattle.pgn_book.specs.declared.game.PgnGame.{PgnGame}
use Rattle.pgn_book.specs.Reader.{ReaderGoesOn, reader_facing}
use Rattle.pgn_book.proofs.ReaderSteps.{game_ended, passed_more}
use Rattle.pgn_book.proofs.scan.Scan.read.Goals as goal

pub returns-in-Some-clause-goes_on : goal.returns-in-Some-clause-goes_on
returns-in-Some-clause-goes_on c =
    let below : c.loop-read.read < length c.args.bytes.now = search rules in
    (game_ended (reader_facing c.args.self.now c.args.bytes.now) c.loop-read.self c.take.new.self c.args.bytes.now
    c.loop-read.read c.in-Some.game
    below c.loop-read.invariant.passed
    (λ rest.
    subst (λ (given : Option PgnGame).
    ReaderGoesOn (reader_facing c.loop-read.self (get_or c.args.bytes.now c.loop-read.read 0 ∷ rest)) given
    (reader_facing c.take.new.self rest))
    c.in-Some.is (c.in_ok-given.ensures.goes_on rest))).goes_on

pub loop-read-preserved : goal.loop-read-preserved
loop-read-preserved c =
    let below : c.loop-read.read < length c.args.bytes.now = search rules in
    record {
      passed =
          passed_more (reader_facing c.args.self.now c.args.bytes.now) c.loop-read.self c.take.new.self c.args.bytes.now
          c.loop-read.read
          below c.loop-read.invariant.passed
          (λ rest.
          subst (λ (given : Option PgnGame).
          ReaderGoesOn (reader_facing c.loop-read.self (get_or c.args.bytes.now c.loop-read.read 0 ∷ rest)) given
          (reader_facing c.take.new.self rest))
          c.in_default.is (c.in_ok-given.ensures.goes_on rest));
      within = omega (arith, below);
    }
