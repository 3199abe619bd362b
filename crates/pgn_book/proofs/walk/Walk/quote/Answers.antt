use Rattle.std.proofs.Common.{◌≡◌, true, arith}
use Rattle.std.specs.Prelude.{◌==◌}
use Rattle.std.proofs.lemmas.Bool.Decides.{nat_tests}
use Rattle.pgn_book.proofs.Walking.{quote_at}
use Rattle.pgn_book.proofs.walk.Walk.quote.Goals as goal

pub returns-then-byte-eq34 : goal.returns-then-byte-eq34
returns-then-byte-eq34 c =
    let quote : (c.args.byte == 34) ≡ true = grind (arith, nat_tests) in
    quote_at c.self.inside.place c.self.inside.depth c.self.inside.book c.quote.new.self c.args.self.now c.args.text
    c.args.byte c.quote.result
    c.self.view_is quote c.quote.ensures
