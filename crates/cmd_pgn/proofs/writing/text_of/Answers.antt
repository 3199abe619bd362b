use Rattle.std.proofs.Common.{◌≡◌, ℕ, List, subst, IfOk}
use Rattle.cmd_pgn.proofs.Written.{made_export}
use Rattle.cmd_pgn.proofs.writing.text_of.Goals as goal

pub returns-in-Some : goal.returns-in-Some
returns-in-Some c =
    subst (λ (l : List ℕ). IfOk c.export.result (λ text. text.items ≡ l))
    (made_export c.args.game.now c.in_ok-made.field-0 c.in-Some.made c.in-Some.is c.in_ok-made.ensures.found)
    c.export.ensures
