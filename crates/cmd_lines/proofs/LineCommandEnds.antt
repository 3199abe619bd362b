-- How the reading of the lines of a command ends that answers each by a function, from how it ends for any handler.
use Rattle.std.proofs.Common.{◌≡◌, ℕ, ◌+◌, false, true, List, [], ◌∷◌, ◌++◌, length, take, drop, take-append-drop, refl, sym, ap, subst, ◌∙◌, append_assoc, append-nil, Some, None, inl, inr}
use Rattle.std.specs.Prelude.{Bool, Option}
use Rattle.std.specs.Io.KnownBytes.{Appends}
use Rattle.std.proofs.KnownBytes.{Consumes-nil, Appends-nil}
use Rattle.std.proofs.Math.Seq.{take-append_seam}
use Rattle.edge_traits.specs.Sink.{AppendsFront}
use Rattle.cmd_lines.specs.Handling.{HasBadLine, IsDue}
use Rattle.cmd_lines.specs.HandlerEnds.{HandlerEnds, AreAnswered, PartIsWritten}
use Rattle.cmd_lines.specs.LineCommand.{IsPlayed, LineCommand, answers, bad_in, line_answer, text_of_lines}
use Rattle.cmd_lines.specs.LineCommandEnds.{AnswersWhole, AnswersPart, LineCommandEnds}
use Rattle.cmd_lines.specs.Lines.{lines_come}
use Rattle.cmd_lines.specs.PlayedLinesProof.{answers-answer_line, bad-answer_line, IsPlayed-answer_line, IsPlayed-good}
use Rattle.cmd_lines.specs.declared.end.End.{End}
use Rattle.cmd_lines.specs.declared.end.End.TheVariants.{Done, ReadFault, WriteFault, Memory, BadLine, Spent}
use Rattle.cmd_lines.proofs.PlayedSteps.{IsPlayed-text}

-- a prefix of the first part of a text is a prefix of the text
pub AppendsFront-more : (written new : Option (List ℕ)) (due more all : List ℕ) → all ≡ due ++ more
    → AppendsFront written new due → AppendsFront written new all
AppendsFront-more written new due more all is front =
    let first = length (take front.0 due) in
    let same : take front.0 due ≡ take first all =
    sym (take-append_seam (take front.0 due) (drop front.0 due ++ more))
    ∙ ap (take first)
    (sym (append_assoc (take front.0 due) (drop front.0 due) more) ∙ ap (λ l. l ++ more) (take-append-drop front.0 due)
    ∙ sym is) in
    (first, subst (Appends written new) same front.1)

module _ {S : Type 0} (command : LineCommand S) where
  -- running out of memory before the first read
  pub AnswersPart-none : (left written : Option (List ℕ)) → AnswersPart command left left written written
  AnswersPart-none left written = record {
    taken = [];
    ended = false;
    came = (Consumes-nil left, λ e. absurd (let bad : false ≡ true = e in cc));
    text = (0, Appends-nil written);
  }

  -- the line behind played lines that no run has is the first one outside the grammar
  no_answer : (lines : List (List ℕ)) (state : S) (due line : List ℕ) → IsPlayed command lines state due
      → ((s : S) (d : List ℕ) → IsPlayed command (lines ++ line ∷ []) s d → ⊥) → line_answer command state line ≡ None
  no_answer lines state due line p outside =
      elim (line_answer command state line) as (λ t. line_answer command state line ≡ t → t ≡ None) [
        | None ↦ λ e. refl
        | Some q ↦ λ e.
            absurd (outside q.0 (due ++ q.1) (IsPlayed-answer_line command lines state q.0 due line q.1 e p))
      ] refl

  -- the text and the bad line of lines that have one outside the grammar
  refused : (lines : List (List ℕ)) (due : List ℕ) (h : HasBadLine (IsPlayed command) command.ending lines due)
      → line_answer command h.stands h.line ≡ None
  refused lines due h = no_answer h.before h.stands h.text h.line h.good h.bad

  bad_behind : (lines : List (List ℕ)) (due : List ℕ) (h : HasBadLine (IsPlayed command) command.ending lines due)
      (more : List (List ℕ))
      → text_of_lines command (lines ++ more) ≡ due
  bad_behind lines due h more =
      ap (λ l. text_of_lines command (l ++ more)) h.parts
      ∙ ap (text_of_lines command) (append_assoc h.before (h.line ∷ h.rest) more)
      ∙ h.good.text (h.line ∷ h.rest ++ more)
      ∙ ap (λ l. h.text ++ l)
      (answers-answer_line command (length h.before + 1) h.stands h.line (h.rest ++ more) None (refused lines due h))
      ∙ sym h.told

  text_at_bad : (lines : List (List ℕ)) (due : List ℕ) (h : HasBadLine (IsPlayed command) command.ending lines due)
      → text_of_lines command lines ≡ due
  text_at_bad lines due h = ap (text_of_lines command) (sym (append-nil lines)) ∙ bad_behind lines due h []

  bad_at_bad : (lines : List (List ℕ)) (due : List ℕ) (h : HasBadLine (IsPlayed command) command.ending lines due)
      → bad_in command lines ≡ Some (length h.before + 1)
  bad_at_bad lines due h =
      ap (bad_in command) h.parts ∙ h.good.good (h.line ∷ h.rest)
      ∙ bad-answer_line command (length h.before + 1) h.stands h.line h.rest None (refused lines due h)

  -- what is due for a prefix of lines is a prefix of their text
  pub front_of_due : (lines : List (List ℕ)) (written written' : Option (List ℕ)) (before rest : List (List ℕ))
      (due : List ℕ)
      → lines ≡ before ++ rest
      → IsDue (IsPlayed command) command.ending before due → AppendsFront written written' due
      → AppendsFront written written' (text_of_lines command lines)
  front_of_due lines written written' before rest due is (inl (s, p)) front =
      AppendsFront-more written written' due (answers command (length before + 1) s rest) (text_of_lines command lines)
      (ap (text_of_lines command) is ∙ p.text rest) front
  front_of_due lines written written' before rest due is (inr bad) front =
      AppendsFront-more written written' due [] (text_of_lines command lines)
      (ap (text_of_lines command) is ∙ bad_behind before due bad rest ∙ sym (append-nil due)) front

  part : (lines : List (List ℕ)) (written written' : Option (List ℕ))
      → PartIsWritten (IsPlayed command) command.ending lines written written'
      → AppendsFront written written' (text_of_lines command lines)
  part lines written written' h = front_of_due lines written written' h.before h.rest h.due h.parts h.is_due h.text

  -- the text of lines that have all come
  Answers-played : (left left' written written' : Option (List ℕ)) (ended : Bool)
      → AreAnswered (IsPlayed command) left left' written written' ended
      → AnswersWhole command left left' written written' ended
  Answers-played left left' written written' ended h =
      record {
        taken = h.taken;
        came = h.came;
        good = IsPlayed-good command (lines_come ended h.taken) h.stands h.due h.good;
        text =
            subst (Appends written written')
            (sym (IsPlayed-text command (lines_come ended h.taken) h.stands h.due h.good)) h.text;
      }

  pub LineCommandEnds-played : (closed : S → S → Type 0) (left left' written written' : Option (List ℕ)) (end : End)
      → HandlerEnds (IsPlayed command) closed command.ending left left' written written' end
      → LineCommandEnds command left left' written written' end
  unfolding Answers-played
  LineCommandEnds-played closed left left' written written' Done h =
      Answers-played left left' written written' true h.answers
  LineCommandEnds-played closed left left' written written' ReadFault h =
      Answers-played left left' written written' false h
  LineCommandEnds-played closed left left' written written' WriteFault h =
      record {
        taken = h.taken;
        ended = h.ended;
        came = h.came;
        text = part (lines_come h.ended h.taken) written written' h.part;
      }
  LineCommandEnds-played closed left left' written written' Memory h =
      record {
        taken = h.taken;
        ended = h.ended;
        came = h.came;
        text = part (lines_come h.ended h.taken) written written' h.part;
      }
  LineCommandEnds-played closed left left' written written' BadLine h =
      let lines = lines_come h.ended h.taken in
      record {
        taken = h.taken;
        ended = h.ended;
        number = length h.bad.before + 1;
        came = h.came;
        bad = bad_at_bad lines h.due h.bad;
        text = subst (Appends written written') (sym (text_at_bad lines h.due h.bad)) h.text;
      }
  LineCommandEnds-played closed left left' written written' Spent h =
      record { answers = Answers-played left left' written written' false h.answers; many = h.many }
