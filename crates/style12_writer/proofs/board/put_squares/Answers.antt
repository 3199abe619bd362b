use Rattle.std.proofs.Common.{◌≡◌, ◌+◌, ◌*◌, ◌++◌, ◌∙◌, ap, map, length, arith}
use Rattle.std.proofs.lemmas.Grind.{common_steps}
use Rattle.std.specs.Prelude.{slice_range}
use Rattle.style12_writer.specs.Board.{square_letter}
use Rattle.style12_writer.proofs.RankSlices.{letters-slice_range}
use Rattle.style12_writer.proofs.board.put_squares.Goals as goal

pub returns-clause-text : goal.returns-clause-text
returns-clause-text c =
    let squares = slice_range c.args.men.now (8 * c.args.rank) (8 * c.args.rank + 8) in
    let written : c.loop-square.line ≡ c.args.line.now ++ map square_letter squares = grind (arith, common_steps) in
    let whole : length c.args.men.now ≡ 64 = omega arith in
    written
    ∙ ap (λ letters. c.args.line.now ++ letters) (letters-slice_range c.args.men.now c.args.rank c.requires.rank whole)
