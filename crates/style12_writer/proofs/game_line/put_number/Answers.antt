use Rattle.style12_writer.proofs.Spacing.{most_of_three, three_appended}
use Rattle.style12_writer.proofs.game_line.put_number.Goals as goal

pub returns-clause-text : goal.returns-clause-text
returns-clause-text c =
    let number = rw c.from.ensures at c.number.ensures.text in
    three_appended _ _ _ _ _ _ _ c.text.ensures.text number c.text-2.ensures.text

pub returns-clause-most : goal.returns-clause-most
returns-clause-most c = most_of_three _ _ _ _ _ _ _ c.text.ensures.len c.number.ensures.most c.text-2.ensures.len
