-- How the reading of a script ends, from how it ends for any handler.
use Rattle.std.proofs.Common.{◌≡◌, ℕ, ◌+◌, ◌^◌, ◌<◌, Bool, true, false, List, [], length, refl, ap, subst, ◌∙◌, arith, Some, None, inl, inr, length-append}
use Rattle.std.specs.Prelude.{◌⊎◌, Option, IfSome, codes}
use Rattle.std.specs.Io.KnownBytes.{Appends}
use Rattle.std.proofs.KnownBytes.{Consumes-nil, Appends-nil}
use Rattle.cmd_lines.specs.Ends.{OnReadFault, OnWriteFault, status_of}
use Rattle.cmd_lines.specs.HandlerEnds.{HandlerEnds, AreAnswered}
use Rattle.cmd_lines.specs.Lines.{lines_of, lines_come}
use Rattle.cmd_lines.specs.declared.end.End.{End}
use Rattle.cmd_lines.specs.declared.end.End.TheVariants.{Done, ReadFault, WriteFault, Memory, BadLine, Spent}
use Rattle.cmd_lines.proofs.HandlerLines.{never_stopped}
use Rattle.cmd_replay.specs.Evening.{Reached, IsClosed, history_of, transcript_of, opening_parts}
use Rattle.cmd_replay.specs.EveningsProof.{evening_legal}
use Rattle.cmd_replay.specs.EveningLinesProof.{reached_by, reached_lines, standing_of}
use Rattle.cmd_replay.specs.ReplayEnds.{AreEvening, AreReplayed, AreReplayedLong, ReplayEnds}
use Rattle.histories.specs.History.{Legal}
use Rattle.histories.proofs.Histories.{legal-append}
use Rattle.one_server.specs.House.{house}
use Rattle.one_server.specs.Server.{ServerState, parts_in}

-- the lines of an evening and its transcript
AreReplayed-handled : (left left' written written' : Option (List ℕ)) (ended : Bool)
    → AreAnswered Reached left left' written written' ended → AreReplayed left left' written written' ended
AreReplayed-handled left left' written written' ended h = record {
  taken = h.taken;
  came = h.came;
  rows = h.good.rows;
  evening =
      record { follow = h.good.follow; spelled = h.good.spelled; legal = evening_legal h.good.rows h.good.follow };
  text = subst (Appends written written') h.good.text h.text;
}

pub ReplayEnds-handled : (left left' written written' : Option (List ℕ)) (end : End)
    → HandlerEnds Reached IsClosed
    (codes "\n") left left' written written' end → ReplayEnds left left' written written' end
unfolding AreReplayed-handled
ReplayEnds-handled left left' written written' Done h =
    let at = h.answers.good in
    let closed = h.close (lines_come true h.answers.taken) h.answers.due at in
    record {
      replayed = AreReplayed-handled left left' written written' true h.answers;
      leaving = closed.entries;
      leave = closed.leave;
      legal =
          legal-append house opening_parts (history_of at.rows) closed.entries (evening_legal at.rows at.follow)
          (subst (λ (s : ServerState). Legal house (parts_in s) closed.entries) at.server closed.legal);
    }
ReplayEnds-handled left left' written written' ReadFault h = AreReplayed-handled left left' written written' false h
ReplayEnds-handled left left' written written' WriteFault h = h
ReplayEnds-handled left left' written written' Memory h = h
ReplayEnds-handled left left' written written' BadLine h = h
ReplayEnds-handled left left' written written' Spent h =
    record { replayed = AreReplayed-handled left left' written written' false h.answers; many = h.many }

-- running out of memory before the first read
pub ReplayEnds-none : (left written : Option (List ℕ)) → ReplayEnds left left written written Memory
ReplayEnds-none left written = record {
  taken = [];
  ended = false;
  came = (Consumes-nil left, λ e. absurd (let bad : false ≡ true = e in cc));
  part = record {
    before = [];
    rest = [];
    due = [];
    parts = refl;
    is_due = inl (standing_of [], reached_by [] [] tt refl);
    text = (0, Appends-nil written);
  };
}

-- an input of fewer than 2^40 bytes doesn't spend the reads
never_long : (text : List ℕ) (left' written written' : Option (List ℕ)) → length text < 2 ^ 40
    → AreReplayedLong (Some text) left' written written' → ⊥
never_long text None written written' short long = long.replayed.came.0
never_long text (Some rest) written written' short long =
    let whole : length text ≡ length long.replayed.taken + length rest =
    ap length long.replayed.came.0 ∙ length-append long.replayed.taken rest in
    omega (arith, short, long.many)

-- a script that meets no fault and whose lines are those of an evening ends well
pub is_complete-replayed : (left left' written written' : Option (List ℕ)) (P Q : Type 0) (end : End)
    → ReplayEnds left left' written written' end
    → OnReadFault end P → OnWriteFault end Q → ¬ P → ¬ Q
    → IfSome left
    (λ text. length text < 2 ^ 40 → AreEvening (lines_of text) → (status_of end ≡ 0) ⊎ (status_of end ≡ 6))
is_complete-replayed None left' written written' P Q end h p q no_read no_write = tt
is_complete-replayed (Some text) left' written written' P Q Done h p q no_read no_write = λ short good. inl refl
is_complete-replayed (Some text) left' written written' P Q ReadFault h p q no_read no_write = absurd (no_read p)
is_complete-replayed (Some text) left' written written' P Q WriteFault h p q no_read no_write = absurd (no_write q)
is_complete-replayed (Some text) left' written written' P Q Memory h p q no_read no_write = λ short good. inr refl
is_complete-replayed (Some text) left' written written' P Q BadLine h p q no_read no_write = λ short good.
    absurd (never_stopped Reached reached_lines
    (codes "\n") text left' written written' (standing_of good.0) (transcript_of good.0)
    (reached_by (lines_of text) good.0 good.1 good.2) h)
is_complete-replayed (Some text) left' written written' P Q Spent h p q no_read no_write = λ short good.
    absurd (never_long text left' written written' short h)
