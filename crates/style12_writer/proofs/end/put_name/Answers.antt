use Rattle.std.proofs.Common.{List, ℕ, ◌++◌, ◌∙◌, ap}
use Rattle.std.specs.Prelude.{codes}
use Rattle.style12_writer.proofs.end.put_name.Goals as goal

pub returns-clause-text : goal.returns-clause-text
returns-clause-text c = c.text.ensures.text ∙ ap (λ (l : List ℕ). l ++ codes " ") c.name.ensures.text
