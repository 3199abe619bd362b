use Rattle.std.proofs.Common.{◌≡◌, None, Some, drop}
use Rattle.pgn_book.specs.Reader.{reader_facing}
use Rattle.pgn_book.proofs.ReaderSteps.{has_read, game_is_last, end_is_last}
use Rattle.pgn_book.proofs.reader.PgnReader.finish.Goals as goal

pub returns-in-Some-clause-last : goal.returns-in-Some-clause-last
returns-in-Some-clause-last c =
    let game = c.in_ok-game.game-is in
    let read = c.in_ok-game.read-is in
    let some = c.in-Some.is in
    let advanced = c.advance.ensures in
    let found : c.in_ok-game.field-0.game ≡ Some c.in-Some.game = cc in
    let new_is : c.advance.new.self
    ≡ reader_facing c.read.new.self (drop c.in_ok-game.field-0.read c.args.self.now.rest) =
    cc in
    game_is_last c.args.self.now c.advance.new.self c.in_ok-game.field-0.game c.in-Some.game c.read.new.self
    (drop c.in_ok-game.field-0.read c.args.self.now.rest)
    (has_read c.args.self.now c.in_ok-scan.scan c.read.new.self c.rest.result.now c.in_ok-game.field-0.read
    c.in_ok-game.field-0.game c.in_ok-scan.ensures c.rest.ensures
    c.in_ok-game.ensures.goes_on c.in_ok-game.ensures.all)
    found new_is

pub returns-clause-last : goal.returns-clause-last
returns-clause-last c =
    let game = c.in_ok-game.game-is in
    let read = c.in_ok-game.read-is in
    let none = c.in_default.is in
    let advanced = c.advance-2.ensures in
    let none_found : c.in_ok-game.field-0.game ≡ None = cc in
    let new_is : c.advance-2.new.self
    ≡ reader_facing c.end.new.self (drop c.in_ok-game.field-0.read c.args.self.now.rest) =
    cc in
    end_is_last c.args.self.now c.advance-2.new.self c.in_ok-game.field-0.game c.read.new.self c.end.new.self
    (drop c.in_ok-game.field-0.read c.args.self.now.rest) c.in_ok-step.step
    (has_read c.args.self.now c.in_ok-scan.scan c.read.new.self c.rest.result.now c.in_ok-game.field-0.read
    c.in_ok-game.field-0.game c.in_ok-scan.ensures c.rest.ensures
    c.in_ok-game.ensures.goes_on c.in_ok-game.ensures.all)
    none_found c.in_ok-step.ensures.last new_is
