-- A run that meets no fault and no bad line ends well.
use Rattle.std.proofs.Common.{◌≡◌, ℕ, ◌+◌, ◌^◌, ◌<◌, true, false, Bool, List, [], ◌∷◌, ◌++◌, length, refl, sym, ap, subst, ◌∙◌, arith, Some, None, append-nil, inl, inr, length-append}
use Rattle.std.specs.Prelude.{◌⊎◌, Option, IfSome}
use Rattle.std.specs.Option.{option_map_or}
use Rattle.cmd_lines.specs.ClosingCommandEnds.{ClosingCommandEnds}
use Rattle.cmd_lines.specs.Ends.{OnReadFault, OnWriteFault, status_of}
use Rattle.cmd_lines.specs.LineCommand.{LineCommand, bad_in, first_bad, line_answer}
use Rattle.cmd_lines.specs.LineCommandEnds.{LineCommandEnds, StopsAtBadLine, Spends}
use Rattle.cmd_lines.specs.Lines.{lines_of, lines_come, whole_lines}
use Rattle.cmd_lines.specs.declared.end.End.{End}
use Rattle.cmd_lines.specs.declared.end.End.TheVariants.{Done, ReadFault, WriteFault, Memory, BadLine, Spent}
use Rattle.cmd_lines.proofs.Pieces.{Grows-lines_of}

module _ {S : Type 0} (command : LineCommand S) where
  -- a bad line stays the first one, whatever lines follow
  first_bad-append : (n : ℕ) (state : S) (lines more : List (List ℕ)) (k : ℕ) → first_bad command n state lines ≡ Some k
      → first_bad command n state (lines ++ more) ≡ Some k
  first_bad-append n state [] more k e = absurd (let bad : None ≡ Some k = e in cc)
  first_bad-append n state (line ∷ lines) more k e =
      elim (line_answer command state line)
      as (λ t.
      option_map_or (λ p. first_bad command (n + 1) p.0 lines) t (Some n) ≡ Some k
      → option_map_or (λ p. first_bad command (n + 1) p.0 (lines ++ more)) t (Some n) ≡ Some k) [
        | None ↦ λ is. is
        | Some p ↦ λ is. first_bad-append (n + 1) p.0 lines more k is
      ] e

  -- an input without bad lines isn't stopped at one
  never_bad : (text : List ℕ) (left' written written' : Option (List ℕ)) → bad_in command (lines_of text) ≡ None
      → StopsAtBadLine command (Some text) left' written written' → ⊥
  never_bad text None written written' good stop = stop.came.0
  never_bad text (Some rest) written written' good stop =
      let grown = Grows-lines_of stop.taken rest in
      let all : lines_of text ≡ whole_lines stop.taken ++ grown.more = ap lines_of stop.came.0 ∙ grown.is in
      elim stop.ended as (λ t. stop.ended ≡ t → ⊥) [
        | true ↦ λ e.
            let whole : text ≡ stop.taken =
            stop.came.0 ∙ ap (λ l. stop.taken ++ l) (stop.came.1 e) ∙ append-nil stop.taken in
            let bad : bad_in command (lines_of stop.taken) ≡ Some stop.number =
            subst (λ (t : Bool). bad_in command (lines_come t stop.taken) ≡ Some stop.number) e stop.bad in
            let none : None ≡ Some stop.number = sym good ∙ ap (λ l. bad_in command (lines_of l)) whole ∙ bad in
            cc
        | false ↦ λ e.
            let bad : bad_in command (whole_lines stop.taken) ≡ Some stop.number =
            subst (λ (t : Bool). bad_in command (lines_come t stop.taken) ≡ Some stop.number) e stop.bad in
            let none : None ≡ Some stop.number =
            sym good ∙ ap (bad_in command) all
            ∙ first_bad-append 1 command.start (whole_lines stop.taken) grown.more stop.number bad in
            cc
      ] refl

  -- an input of fewer than 2^40 bytes doesn't spend the reads
  never_spent : (text : List ℕ) (left' written written' : Option (List ℕ)) → length text < 2 ^ 40
      → Spends command (Some text) left' written written' → ⊥
  never_spent text None written written' short spends = spends.answers.came.0
  never_spent text (Some rest) written written' short spends =
      let whole : length text ≡ length spends.answers.taken + length rest =
      ap length spends.answers.came.0 ∙ length-append spends.answers.taken rest in
      omega (arith, short, spends.many)

  -- what the end is where nothing goes wrong
  pub is_complete : (left left' written written' : Option (List ℕ)) (P Q : Type 0) (end : End)
      → LineCommandEnds command left left' written written' end
      → OnReadFault end P → OnWriteFault end Q → ¬ P → ¬ Q
      → IfSome left
      (λ text. length text < 2 ^ 40 → bad_in command (lines_of text) ≡ None → (status_of end ≡ 0) ⊎ (status_of end ≡ 6))
  is_complete None left' written written' P Q end h p q no_read no_write = tt
  is_complete (Some text) left' written written' P Q Done h p q no_read no_write = λ short good. inl refl
  is_complete (Some text) left' written written' P Q ReadFault h p q no_read no_write = absurd (no_read p)
  is_complete (Some text) left' written written' P Q WriteFault h p q no_read no_write = absurd (no_write q)
  is_complete (Some text) left' written written' P Q Memory h p q no_read no_write = λ short good. inr refl
  is_complete (Some text) left' written written' P Q BadLine h p q no_read no_write = λ short good.
      absurd (never_bad text left' written written' good h)
  is_complete (Some text) left' written written' P Q Spent h p q no_read no_write = λ short good.
      absurd (never_spent text left' written written' short h)

  -- and where a text is written at the input's end
  pub is_complete-closing : (closing : S → List ℕ) (left left' written written' : Option (List ℕ)) (P Q : Type 0)
      (end : End)
      → ClosingCommandEnds command closing left left' written written' end
      → OnReadFault end P → OnWriteFault end Q → ¬ P → ¬ Q
      → IfSome left
      (λ text. length text < 2 ^ 40 → bad_in command (lines_of text) ≡ None → (status_of end ≡ 0) ⊎ (status_of end ≡ 6))
  is_complete-closing closing None left' written written' P Q end h p q no_read no_write = tt
  is_complete-closing closing (Some text) left' written written' P Q Done h p q no_read no_write = λ short good.
      inl refl
  is_complete-closing closing (Some text) left' written written' P Q ReadFault h p q no_read no_write =
      absurd (no_read p)
  is_complete-closing closing (Some text) left' written written' P Q WriteFault h p q no_read no_write =
      absurd (no_write q)
  is_complete-closing closing (Some text) left' written written' P Q Memory h p q no_read no_write = λ short good.
      inr refl
  is_complete-closing closing (Some text) left' written written' P Q BadLine h p q no_read no_write = λ short good.
      absurd (never_bad text left' written written' good h)
  is_complete-closing closing (Some text) left' written written' P Q Spent h p q no_read no_write = λ short good.
      absurd (never_spent text left' written written' short h)
