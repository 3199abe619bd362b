use Rattle.std.proofs.Common.{ap}
use Rattle.std.specs.Prelude.{Ok, Err}
use Rattle.pgn_book.specs.Reading.{Book}
use Rattle.pgn_book.specs.Games.{position_of_moves}
use Rattle.pgn_book.proofs.Resolving.{at_moves, word_read, no_word}
use Rattle.chess_model.proofs.StandsAfter.{answer_allowed}
use Rattle.pgn_book.proofs.book.Book.resolve.Goals as goal

pub returns-in-Ok-clause-value : goal.returns-in-Ok-clause-value
returns-in-Ok-clause-value c =
    word_read c.self.inside.position (position_of_moves c.args.self.now.moves) c.args.text.now c.in-Some.word
    (Ok c.in-Ok.m)
    c.in-Some.ensures.computed c.in-Ok.ensures.value
    (at_moves c.self.inside.position c.self.inside.moves c.args.self.now.moves c.self.invariant.0 c.self.invariant.1
    (ap (λ (b : Book). b.moves) c.self.view_is))

pub returns-in-Ok-clause-allowed : goal.returns-in-Ok-clause-allowed
returns-in-Ok-clause-allowed c =
    answer_allowed c.self.inside.position (position_of_moves c.args.self.now.moves) c.in-Some.word c.in-Ok.m
    c.in-Ok.ensures.answered
    (at_moves c.self.inside.position c.self.inside.moves c.args.self.now.moves c.self.invariant.0 c.self.invariant.1
    (ap (λ (b : Book). b.moves) c.self.view_is))

pub returns-in-Err-clause-value : goal.returns-in-Err-clause-value
returns-in-Err-clause-value c =
    word_read c.self.inside.position (position_of_moves c.args.self.now.moves) c.args.text.now c.in-Some.word
    (Err c.in-Err.field-0) c.in-Some.ensures.computed c.in-Err.ensures.value
    (at_moves c.self.inside.position c.self.inside.moves c.args.self.now.moves c.self.invariant.0 c.self.invariant.1
    (ap (λ (b : Book). b.moves) c.self.view_is))

pub returns-in-None-clause-value : goal.returns-in-None-clause-value
returns-in-None-clause-value c =
    no_word (position_of_moves c.args.self.now.moves) c.args.text.now c.in-None.ensures.computed
