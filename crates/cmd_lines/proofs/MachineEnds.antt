-- How the reading of the lines of a command ends, from how it ends for the machine as a feeder.
use Rattle.std.proofs.Common.{◌≡◌, ℕ, true, false, List, [], ◌++◌, refl, sym, ap, subst, ◌∙◌, append-nil, inl, inr}
use Rattle.std.specs.Prelude.{Bool, Option}
use Rattle.cmd_lines.specs.FeederEnds.{FeederEnds, FrontIsWritten, IsBegun}
use Rattle.cmd_lines.specs.Feeding.{IsDueFor}
use Rattle.cmd_lines.specs.HandlerEnds.{AreAnswered, HandlerEnds, PartIsWritten}
use Rattle.cmd_lines.specs.Handling.{Reaching, IsDue}
use Rattle.cmd_lines.specs.Lines.{lines_come, lines_of}
use Rattle.cmd_lines.specs.MachineFeeding.{line_feeding}
use Rattle.cmd_lines.specs.declared.end.End.{End}
use Rattle.cmd_lines.specs.declared.end.End.TheVariants.{Done, ReadFault, WriteFault, Memory, BadLine, Spent}
use Rattle.cmd_lines.proofs.Pieces.{Grows, Grows-lines_of, Grows-whole_lines}

-- the lines of a beginning of the bytes are a beginning of their lines
pub lines_grow : (ended whole : Bool) (before rest : List ℕ) → (whole ≡ true → (ended ≡ true) × (rest ≡ []))
    → Grows (lines_come whole before) (lines_come ended (before ++ rest))
lines_grow false false before rest at_end = Grows-whole_lines before rest
lines_grow true false before rest at_end = Grows-lines_of before rest
lines_grow ended true before rest at_end =
    let end = at_end refl in
    let same : lines_come ended (before ++ rest) ≡ lines_of before =
    ap (λ (t : Bool). lines_come t (before ++ rest)) end.0 ∙ ap (λ l. lines_of (before ++ l)) end.1
    ∙ ap lines_of (append-nil before) in
    record { more = []; is = same ∙ sym (append-nil (lines_of before)) }

module _ {S : Type 0} (reached : Reaching S) (closed : S → S → Type 0) (ending : List ℕ) where
  due_lines : (whole : Bool) (before due : List ℕ) → IsDueFor (line_feeding reached closed ending) whole before due
      → IsDue reached ending (lines_come whole before) due
  due_lines false before due (inl h) = inl (h.0.handler, h.1.good)
  due_lines true before due (inl h) = inl (h.0.handler, h.1)
  due_lines whole before due (inr (inl bad)) = inr bad
  due_lines whole before due (inr (inr h)) =
      inl (h.2.0, subst (λ (t : Bool). reached (lines_come t before) h.2.0 due) (sym h.0) h.2.1)

  part_of_lines : (ended : Bool) (taken : List ℕ) (written written' : Option (List ℕ))
      → FrontIsWritten (line_feeding reached closed ending) ended taken written written'
      → PartIsWritten reached ending (lines_come ended taken) written written'
  part_of_lines ended taken written written' h =
      let grown = lines_grow ended h.whole h.before h.rest h.at_end in
      record {
        before = lines_come h.whole h.before;
        rest = grown.more;
        due = h.due;
        parts = ap (lines_come ended) h.parts ∙ grown.is;
        is_due = due_lines h.whole h.before h.due h.is_due;
        text = h.text;
      }

  begun_lines : (left left' written written' : Option (List ℕ))
      → IsBegun (line_feeding reached closed ending) left left' written written'
      → AreAnswered reached left left' written written' false
  begun_lines left left' written written' h =
      record {
        taken = h.taken;
        stands = h.stands.handler;
        due = h.due;
        came = h.came;
        good = h.good.good;
        text = h.text;
      }

  pub HandlerEnds-fed : (left left' written written' : Option (List ℕ)) (end : End)
      → FeederEnds (line_feeding reached closed ending) left left' written written' end
      → HandlerEnds reached closed ending left left' written written' end
  unfolding begun_lines
  HandlerEnds-fed left left' written written' Done h = record {
    answers = record { taken = h.taken; stands = h.good.0; due = h.due; came = h.came; good = h.good.1; text = h.text };
    leaves = h.stands.handler;
    close = h.good.2;
  }
  HandlerEnds-fed left left' written written' ReadFault h = begun_lines left left' written written' h
  HandlerEnds-fed left left' written written' WriteFault h =
      record {
        taken = h.taken;
        ended = h.ended;
        came = h.came;
        part = part_of_lines h.ended h.taken written written' h.front;
      }
  HandlerEnds-fed left left' written written' Memory h =
      record {
        taken = h.taken;
        ended = h.ended;
        came = h.came;
        part = part_of_lines h.ended h.taken written written' h.front;
      }
  HandlerEnds-fed left left' written written' BadLine h =
      record { taken = h.taken; ended = h.ended; due = h.due; came = h.came; bad = h.bad; text = h.text }
  HandlerEnds-fed left left' written written' Spent h =
      record { answers = begun_lines left left' written written' h.begun; many = h.many }
