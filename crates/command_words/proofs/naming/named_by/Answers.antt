use Rattle.command_words.proofs.ByFront.{by_name, by_front}
use Rattle.command_words.proofs.naming.named_by.Goals as goal

pub returns-in-Some : goal.returns-in-Some
returns-in-Some c = by_name _ _ _ c.in-Some.takes c.in-Some.ensures

pub returns-in-None : goal.returns-in-None
returns-in-None c =
    by_front _ _ _ _ _ c.one_by_front.result c.in-None.ensures c.count_begun.ensures c.first_begun.ensures
    c.one_by_front.ensures
