use Rattle.std.proofs.Common.{◌≡◌, true, nat_lt, arith}
use Rattle.std.proofs.lemmas.Bool.Decides.{nat_tests}
use Rattle.pgn_book.proofs.Walking.{open_at}
use Rattle.pgn_book.proofs.walk.Walk.open.Goals as goal

pub returns : goal.returns
returns c =
    let shallow : nat_lt c.self.inside.depth 100 ≡ true = grind (arith, nat_tests) in
    open_at c.self.inside.place c.self.inside.depth c.self.inside.book c.pass_over.new.self c.args.self.now
    c.pass_over.result c.self.view_is shallow c.pass_over.ensures
