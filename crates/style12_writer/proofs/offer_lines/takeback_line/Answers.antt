use Rattle.std.proofs.Common.{List, ℕ, ◌++◌, ◌∙◌, ap}
use Rattle.std.specs.Prelude.{codes, decimal}
use Rattle.style12_writer.proofs.offer_lines.takeback_line.Goals as goal

pub returns : goal.returns
returns c =
    let number = rw c.from.ensures at c.number.ensures.text in
    let named = c.name.ensures.text ∙ ap (λ (l : List ℕ). l ++ c.args.name.now) c.new-line.ensures in
    let offered = c.text.ensures.text ∙ ap (λ (l : List ℕ). l ++ codes " offers to take back ") named in
    let counted = number ∙ ap (λ (l : List ℕ). l ++ decimal c.args.n) offered in
    rw (c.text-2.ensures.text ∙ ap (λ (l : List ℕ). l ++ codes ".") counted) at c.finish.ensures
