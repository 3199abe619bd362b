-- How the reading of the lines of a command ends that writes a text at the input's end, from how it ends for its
-- machine.
use Rattle.std.proofs.Common.{◌≡◌, ℕ, true, false, List, [], ◌++◌, refl, sym, ap, subst, ◌∙◌, append-nil, None, inl, inr}
use Rattle.std.specs.Prelude.{Bool, Option}
use Rattle.std.specs.Option.{option_map_or}
use Rattle.std.specs.Io.KnownBytes.{Appends}
use Rattle.std.proofs.KnownBytes.{Appends-nil, Consumes-nil}
use Rattle.edge_traits.specs.Sink.{AppendsFront}
use Rattle.cmd_lines.specs.ClosingCommand.{IsClosedWith, closing_feeding, closing_text, text_come}
use Rattle.cmd_lines.specs.ClosingCommandEnds.{AnswersOrClosesPart, ClosingCommandEnds}
use Rattle.cmd_lines.specs.FeederEnds.{FeederEnds, IsBegun}
use Rattle.cmd_lines.specs.Feeding.{IsDueFor}
use Rattle.cmd_lines.specs.HandlerEnds.{AreAnswered}
use Rattle.cmd_lines.specs.Handling.{IsDue}
use Rattle.cmd_lines.specs.LineCommand.{IsPlayed, LineCommand, bad_in, last_state, text_of_lines}
use Rattle.cmd_lines.specs.Lines.{lines_come, lines_of}
use Rattle.cmd_lines.specs.PlayedLinesProof.{IsPlayed-good}
use Rattle.cmd_lines.specs.HandlerStanding.{HandlerStanding}
use Rattle.cmd_lines.specs.declared.end.End.{End}
use Rattle.cmd_lines.specs.declared.end.End.TheVariants.{Done, ReadFault, WriteFault, Memory, BadLine, Spent}
use Rattle.cmd_lines.proofs.LineCommandEnds.{AppendsFront-more, LineCommandEnds-played, front_of_due}
use Rattle.cmd_lines.proofs.MachineEnds.{lines_grow}
use Rattle.cmd_lines.proofs.PlayedSteps.{IsPlayed-state, IsPlayed-text}

module _ {S : Type 0} (command : LineCommand S) (closing : S → List ℕ) where
  -- running out of memory before the first read
  pub AnswersOrClosesPart-none : (left written : Option (List ℕ))
      → AnswersOrClosesPart command closing left left written written
  AnswersOrClosesPart-none left written = record {
    taken = [];
    ended = false;
    came = (Consumes-nil left, λ e. absurd (let bad : false ≡ true = e in cc));
    text = (0, Appends-nil written);
  }

  -- the text of lines that are all good, with the text at the end
  closed_text : (lines : List (List ℕ)) (stands : S) (text : List ℕ) → IsPlayed command lines stands text
      → text_of_lines command lines ++ closing (last_state command lines) ≡ text ++ closing stands
  closed_text lines stands text p =
      ap (λ l. l ++ closing (last_state command lines)) (IsPlayed-text command lines stands text p)
      ∙ ap (λ s. text ++ closing s) (IsPlayed-state command lines stands text p)

  closing_text-good : (lines : List (List ℕ)) → bad_in command lines ≡ None
      → closing_text command closing lines ≡ closing (last_state command lines)
  closing_text-good lines good =
      ap (λ (t : Option ℕ). option_map_or (λ bad. []) t (closing (last_state command lines))) good

  -- what is due for a beginning of the lines is a beginning of what is written for those that have come
  front_come : (ended : Bool) (lines : List (List ℕ)) (written written' : Option (List ℕ))
      → AppendsFront written written' (text_of_lines command lines)
      → AppendsFront written written' (text_come command closing ended lines)
  front_come false lines written written' front = front
  front_come true lines written written' front =
      AppendsFront-more written written' (text_of_lines command lines) (closing_text command closing lines)
      (text_of_lines command lines ++ closing_text command closing lines) refl front

  front_of_lines : (ended whole : Bool) (taken before rest due : List ℕ) (written written' : Option (List ℕ))
      → taken ≡ before ++ rest → (whole ≡ true → (ended ≡ true) × (rest ≡ []))
      → IsDue (IsPlayed command) command.ending (lines_come whole before) due → AppendsFront written written' due
      → AppendsFront written written' (text_come command closing ended (lines_come ended taken))
  front_of_lines ended whole taken before rest due written written' parts at_end is_due front =
      let grown = lines_grow ended whole before rest at_end in
      front_come ended (lines_come ended taken) written written'
      (front_of_due command (lines_come ended taken) written written' (lines_come whole before) grown.more due
      (ap (lines_come ended) parts ∙ grown.is) is_due front)

  front_at_end : (taken due : List ℕ) (s : HandlerStanding S) (written written' : Option (List ℕ))
      → IsClosedWith command closing taken s due → AppendsFront written written' due
      → AppendsFront written written' (text_come command closing true (lines_of taken))
  front_at_end taken due s written written' h front =
      let lines = lines_of taken in
      let good = IsPlayed-good command lines h.0 h.1 h.2 in
      let text : due ≡ text_of_lines command lines ++ closing_text command closing lines =
      h.3 ∙ sym (closed_text lines h.0 h.1 h.2)
      ∙ ap (λ l. text_of_lines command lines ++ l) (sym (closing_text-good lines good)) in
      subst (AppendsFront written written') text front

  front : (ended whole : Bool) (taken before rest due : List ℕ) (written written' : Option (List ℕ))
      → taken ≡ before ++ rest → (whole ≡ true → (ended ≡ true) × (rest ≡ []))
      → IsDueFor (closing_feeding command closing) whole before due → AppendsFront written written' due
      → AppendsFront written written' (text_come command closing ended (lines_come ended taken))
  front ended false taken before rest due written written' parts at_end (inl h) f =
      front_of_lines ended false taken before rest due written written' parts at_end (inl (h.0.handler, h.1.good)) f
  front ended true taken before rest due written written' parts at_end (inl h) f =
      front_of_lines ended true taken before rest due written written' parts at_end (inl (h.0.handler, h.1)) f
  front ended whole taken before rest due written written' parts at_end (inr (inl bad)) f =
      front_of_lines ended whole taken before rest due written written' parts at_end (inr bad) f
  front ended whole taken before rest due written written' parts at_end (inr (inr h)) f =
      let end = at_end h.0 in
      let all : before ≡ taken = sym (append-nil before) ∙ ap (λ l. before ++ l) (sym end.1) ∙ sym parts in
      let closed = subst (λ (l : List ℕ). IsClosedWith command closing l h.1 due) all h.2 in
      subst (λ (t : Bool). AppendsFront written written' (text_come command closing t (lines_come t taken))) (sym end.0)
      (front_at_end taken due h.1 written written' closed f)

  begun : (left left' written written' : Option (List ℕ))
      → IsBegun (closing_feeding command closing) left left' written written'
      → AreAnswered (IsPlayed command) left left' written written' false
  begun left left' written written' h =
      record {
        taken = h.taken;
        stands = h.stands.handler;
        due = h.due;
        came = h.came;
        good = h.good.good;
        text = h.text;
      }

  pub ClosingCommandEnds-fed : (left left' written written' : Option (List ℕ)) (end : End)
      → FeederEnds (closing_feeding command closing) left left' written written' end
      → ClosingCommandEnds command closing left left' written written' end
  unfolding begun
  ClosingCommandEnds-fed left left' written written' Done h =
      let lines = lines_of h.taken in
      let stands = h.good.0 in
      let played = h.good.2 in
      record {
        taken = h.taken;
        came = h.came;
        good = IsPlayed-good command lines stands h.good.1 played;
        text = subst (Appends written written') (h.good.3 ∙ sym (closed_text lines stands h.good.1 played)) h.text;
      }
  ClosingCommandEnds-fed left left' written written' ReadFault h =
      LineCommandEnds-played command (λ old new. new ≡ old) left left' written written' ReadFault
      (begun left left' written written' h)
  ClosingCommandEnds-fed left left' written written' WriteFault h =
      record {
        taken = h.taken;
        ended = h.ended;
        came = h.came;
        text =
            front h.ended h.front.whole h.taken h.front.before h.front.rest h.front.due written written' h.front.parts
            h.front.at_end h.front.is_due h.front.text;
      }
  ClosingCommandEnds-fed left left' written written' Memory h =
      record {
        taken = h.taken;
        ended = h.ended;
        came = h.came;
        text =
            front h.ended h.front.whole h.taken h.front.before h.front.rest h.front.due written written' h.front.parts
            h.front.at_end h.front.is_due h.front.text;
      }
  ClosingCommandEnds-fed left left' written written' BadLine h =
      LineCommandEnds-played command (λ old new. new ≡ old) left left' written written' BadLine
      (record { taken = h.taken; ended = h.ended; due = h.due; came = h.came; bad = h.bad; text = h.text })
  ClosingCommandEnds-fed left left' written written' Spent h =
      LineCommandEnds-played command (λ old new. new ≡ old) left left' written written' Spent
      (record { answers = begun left left' written written' h.begun; many = h.many })
