use Rattle.std.proofs.Common.{◌≡◌, false, nat_eq, arith}
use Rattle.std.proofs.lemmas.Bool.Decides.{nat_tests}
use Rattle.pgn_book.proofs.Walking.{close_at}
use Rattle.pgn_book.proofs.walk.Walk.close.Goals as goal

pub returns : goal.returns
returns c =
    let deep : nat_eq c.self.inside.depth 0 ≡ false = grind (arith, nat_tests) in
    close_at c.self.inside.place c.self.inside.depth c.self.inside.book c.pass_over.new.self c.args.self.now
    c.pass_over.result c.self.view_is deep c.pass_over.ensures
