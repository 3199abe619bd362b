use Rattle.std.proofs.Common.{ℕ, [], ◌∷◌, ◌++◌, ◌∙◌, ap}
use Rattle.style12_writer.proofs.Printed.{printable-shows}
use Rattle.style12_writer.proofs.holdings.put_letter.Goals as goal

pub byte-requires-clause-printable : goal.byte-requires-clause-printable
byte-requires-clause-printable c = printable-shows c.letter.result c.letter.ensures.shows

pub returns-clause-text : goal.returns-clause-text
returns-clause-text c = c.byte.ensures.text ∙ ap (λ (byte : ℕ). c.args.line.now ++ byte ∷ []) c.letter.ensures.letter

pub returns-clause-len : goal.returns-clause-len
returns-clause-len c = c.byte.ensures.len
