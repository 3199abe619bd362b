-- A text that the grammar reads is tidied whole, unless memory runs out.
use Rattle.std.proofs.Common.{arith, ◌≡◌, ℕ, ◌+◌, ◌^◌, ◌<◌, List, length, Option, Some, None, refl, ap, subst, ◌∙◌, inl, inr, length-append}
use Rattle.std.specs.Prelude.{◌⊎◌, IfSome}
use Rattle.cmd_lines.specs.Ends.{OnReadFault, OnWriteFault, status_of}
use Rattle.cmd_lines.specs.FeederEnds.{IsSpent, IsStopped}
use Rattle.cmd_lines.specs.declared.end.End.{End}
use Rattle.cmd_lines.specs.declared.end.End.TheVariants.{Done, ReadFault, WriteFault, Memory, BadLine, Spent}
use Rattle.pgn_book.specs.declared.game.PgnGame.{PgnGame}
use Rattle.pgn_book.specs.Games.{ReadsGames}
use Rattle.cmd_tidy.specs.Tidying.{tidying}
use Rattle.cmd_tidy.specs.TidyEnds.{TidyEnds}

-- a text that is read isn't left
never_stopped : (text : List ℕ) (left' written written' : Option (List ℕ))
    → IsStopped tidying (Some text) left' written written' → (games : List PgnGame) × ReadsGames text games → ⊥
never_stopped text None written written' h read = absurd h.came.0
never_stopped text (Some rest) written written' h read =
    (h.bad.left rest (λ ended. h.came.1 ended)).unread read.0
    (subst (λ (t : List ℕ). ReadsGames t read.0) h.came.0 read.1)

-- fewer than 2^40 bytes spend no reads
never_spent : (text : List ℕ) (left' written written' : Option (List ℕ))
    → IsSpent tidying (Some text) left' written written' → length text < 2 ^ 40 → ⊥
never_spent text None written written' h few = absurd h.begun.came.0
never_spent text (Some rest) written written' h few =
    let parts : length text ≡ length h.begun.taken + length rest =
    ap length h.begun.came.0 ∙ length-append h.begun.taken rest in
    omega (arith, parts, few, h.many)

pub is_complete-tidied : (left left' written written' : Option (List ℕ)) (P Q : Type 0) (end : End)
    → TidyEnds left left' written written' end
    → OnReadFault end P → OnWriteFault end Q → ¬ P → ¬ Q
    → IfSome left
    (λ text.
    length text < 2 ^ 40 → (games : List PgnGame) × ReadsGames text games → (status_of end ≡ 0) ⊎ (status_of end ≡ 6))
is_complete-tidied None left' written written' P Q end h p q no_read no_write = tt
is_complete-tidied (Some text) left' written written' P Q Done h p q no_read no_write = λ few read. inl refl
is_complete-tidied (Some text) left' written written' P Q ReadFault h p q no_read no_write = absurd (no_read p)
is_complete-tidied (Some text) left' written written' P Q WriteFault h p q no_read no_write = absurd (no_write q)
is_complete-tidied (Some text) left' written written' P Q Memory h p q no_read no_write = λ few read. inr refl
is_complete-tidied (Some text) left' written written' P Q BadLine h p q no_read no_write = λ few read.
    absurd (never_stopped text left' written written' h read)
is_complete-tidied (Some text) left' written written' P Q Spent h p q no_read no_write = λ few read.
    absurd (never_spent text left' written written' h few)
