use Rattle.style12_writer.proofs.Spacing.{three_appended}
use Rattle.style12_writer.proofs.text_board.put_to_move.Goals as goal

pub returns-clause-text : goal.returns-clause-text
returns-clause-text c =
    let colour = rw c.colour_to_move.ensures.text at c.text.ensures.text in
    let number = rw c.from.ensures at c.number.ensures.text in
    three_appended _ _ _ _ _ _ _ colour c.text-2.ensures.text number
