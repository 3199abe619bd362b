use Rattle.std.proofs.Common.{◌≡◌, false, nat_eq, arith}
use Rattle.std.specs.Prelude.{◌==◌}
use Rattle.std.proofs.lemmas.Bool.Decides.{nat_tests}
use Rattle.pgn_book.proofs.Walking.{nest_at}
use Rattle.pgn_book.proofs.walk.Walk.nest.Goals as goal

pub returns : goal.returns
returns c =
    let deep : nat_eq c.self.inside.depth 0 ≡ false = grind (arith, nat_tests) in
    let no_open : (c.args.byte == 40) ≡ false = grind (arith, nat_tests) in
    let no_close : (c.args.byte == 41) ≡ false = grind (arith, nat_tests) in
    nest_at c.self.inside.place c.self.inside.depth c.self.inside.book c.pass_over.new.self c.args.self.now c.args.byte
    c.pass_over.result c.self.view_is
    no_open no_close deep c.pass_over.ensures
