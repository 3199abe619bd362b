use Rattle.std.proofs.Common.{arith, ◌≤◌, length}
use Rattle.std.specs.Prelude.{decimal}
use Rattle.std.proofs.lemmas.Fmt.{length-decimal-le}
use Rattle.pgn_book.proofs.page.number_token.Goals as goal

pub returns-clause-short : goal.returns-clause-short
returns-clause-short c =
    let most : length (decimal c.args.number) ≤ 3 =
    length-decimal-le 3 c.args.number (omega arith) (omega arith) (omega arith) in
    grind (arith, most, c.push.ensures.items, c.in_ok-write_number.ensures)
