use Rattle.std.proofs.Common.{ℕ, List, sym, subst}
use Rattle.std.specs.Prelude.{IsTrue}
use Rattle.std.specs.List.{list_all}
use Rattle.chess_model.specs.MoveText.{is_printable}
use Rattle.style12_writer.proofs.Printed.{printable-letters}
use Rattle.style12_writer.proofs.draft.Draft.name.Goals as goal

pub text-requires-clause-printable : goal.text-requires-clause-printable
text-requires-clause-printable c =
    subst (λ (text : List ℕ). IsTrue (list_all is_printable text)) (sym c.letters.ensures.letters)
    (printable-letters _ c.letters.ensures.handle.2)
