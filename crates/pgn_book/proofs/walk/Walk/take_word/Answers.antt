use Rattle.pgn_book.proofs.Walking.{glyph_taken, word_taken}
use Rattle.pgn_book.proofs.walk.Walk.take_word.Goals as goal

pub returns-then-glyph-clause-taken : goal.returns-then-glyph-clause-taken
returns-then-glyph-clause-taken c =
    glyph_taken c.self.inside.place c.self.inside.depth c.self.inside.book c.glyph.new.self c.args.self.now c.args.glyph
    c.args.word c.bytes.result.now
    c.glyph.result c.silent.result c.self.view_is c.if-glyph.true c.bytes.ensures c.glyph.ensures c.silent.ensures

pub returns-in-Ok-clause-taken : goal.returns-in-Ok-clause-taken
returns-in-Ok-clause-taken c =
    word_taken c.self.inside.place c.self.inside.depth c.self.inside.book c.word.new.self c.args.self.now c.args.glyph
    c.args.word c.in-Ok.read
    c.self.view_is c.if-glyph.false c.in-Ok.ensures.taken
