use Rattle.style12_writer.proofs.Spacing.{most_of_fields, three_fields}
use Rattle.style12_writer.proofs.line.put_players.Goals as goal

pub returns-clause-text : goal.returns-clause-text
returns-clause-text c =
    let number = rw c.from.ensures at c.number_field.ensures.text in
    three_fields _ _ _ _ _ _ _ number c.name_field.ensures.text c.name_field-2.ensures.text

pub returns-clause-most : goal.returns-clause-most
returns-clause-most c =
    most_of_fields _ _ _ _ _ _ _ c.number_field.ensures.most c.name_field.ensures.most c.name_field-2.ensures.most
