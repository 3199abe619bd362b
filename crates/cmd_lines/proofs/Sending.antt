-- What was written, as bytes are sent behind it.
use Rattle.std.proofs.Common.{◌≡◌, ℕ, zero, suc, ◌+◌, true, false, List, [], ◌∷◌, ◌++◌, length, take, refl, sym, ap, subst, ◌∙◌, append-nil, Ok, Err, inl, inr}
use Rattle.std.specs.Prelude.{Bool, Option, Result}
use Rattle.std.specs.Io.KnownBytes.{Appends}
use Rattle.std.proofs.KnownBytes.{Appends-trans}
use Rattle.std.proofs.Math.Seq.{take-append-add, take-append_seam}
use Rattle.edge_traits.specs.Sink.{AppendsFront}
use Rattle.cmd_lines.specs.FeederEnds.{FrontIsWritten}
use Rattle.cmd_lines.specs.Feeding.{Feeding, IsDueFor}
use Rattle.cmd_lines.specs.Reading.{AfterFinish, AfterSend, AfterSendLast, AfterAnswer, IsRefusedOr}
use Rattle.cmd_lines.specs.declared.end.End.{End}
use Rattle.cmd_lines.specs.declared.end.End.TheVariants.{Done, ReadFault, WriteFault, Memory, BadLine, Spent}

-- a prefix of the next bytes is a prefix of the whole
pub AppendsFront-behind : (written now new : Option (List ℕ)) (text bytes : List ℕ)
    → Appends written now text → AppendsFront now new bytes → AppendsFront written new (text ++ bytes)
AppendsFront-behind written now new text bytes p q =
    let front : text ++ take q.0 bytes ≡ take (length text + q.0) (text ++ bytes) =
    sym (take-append-add text bytes q.0) in
    (length text + q.0, subst (Appends written new) front (Appends-trans written now new text (take q.0 bytes) p q.1))

-- all of a text is a prefix of it
pub AppendsFront-all : (written now : Option (List ℕ)) (text : List ℕ) → Appends written now text
    → AppendsFront written now text
AppendsFront-all written now text p =
    let whole : text ≡ take (length text) text =
    sym (take-append_seam text []) ∙ ap (take (length text)) (append-nil text) in
    (length text, subst (Appends written now) whole p)

-- a prefix of the first part is one of the whole
take_less : (n : ℕ) (xs ys : List ℕ) → (k : ℕ) × (take k (xs ++ ys) ≡ take n xs)
take_less zero xs ys = (0, refl)
take_less (suc n) [] ys = (0, refl)
take_less (suc n) (x ∷ xs) ys = let more = take_less n xs ys in (suc more.0, ap (λ (l : List ℕ). x ∷ l) more.1)

pub AppendsFront-longer : (old new : Option (List ℕ)) (xs ys : List ℕ) → AppendsFront old new xs
    → AppendsFront old new (xs ++ ys)
AppendsFront-longer old new xs ys p =
    let t = take_less p.0 xs ys in (t.0, subst (λ (bs : List ℕ). Appends old new bs) (sym t.1) p.1)

module _ {S : Type 0} (feeding : Feeding S) where
  -- what was written, and nothing
  pub fed-cleared : (ended : Bool) (taken : List ℕ) (stands : S) (text cleared : List ℕ) → cleared ≡ []
      → feeding.fed ended taken stands text → feeding.fed ended taken stands (text ++ cleared)
  fed-cleared ended taken stands text cleared none p =
      subst (feeding.fed ended taken stands) (sym (append-nil text) ∙ ap (λ l. text ++ l) (sym none)) p

  -- a prefix of what is due for all that has come was written
  FrontIsWritten-now : (ended : Bool) (taken : List ℕ) (written now new : Option (List ℕ)) (text bytes : List ℕ)
      → IsDueFor feeding ended taken (text ++ bytes) → Appends written now text → AppendsFront now new bytes
      → FrontIsWritten feeding ended taken written new
  FrontIsWritten-now ended taken written now new text bytes due w front = record {
    before = taken;
    rest = [];
    whole = ended;
    due = text ++ bytes;
    parts = sym (append-nil taken);
    at_end = λ e. (e, refl);
    is_due = due;
    text = AppendsFront-behind written now new text bytes w front;
  }

  -- running out of memory between: what was written is all that is due for what came before
  pub FrontIsWritten-so_far : (ended : Bool) (taken more text : List ℕ) (stands : S) (written now : Option (List ℕ))
      → Appends written now text → feeding.fed false taken stands text
      → FrontIsWritten feeding ended (taken ++ more) written now
  FrontIsWritten-so_far ended taken more text stands written now w p = record {
    before = taken;
    rest = more;
    whole = false;
    due = text;
    parts = refl;
    at_end = λ e. absurd (let bad : false ≡ true = e in cc);
    is_due = inl (stands, p);
    text = AppendsFront-all written now text w;
  }

  -- the same at the input's end
  pub FrontIsWritten-waiting : (taken text : List ℕ) (stands : S) (written now : Option (List ℕ))
      → Appends written now text → feeding.fed false taken stands text
      → FrontIsWritten feeding true taken written now
  FrontIsWritten-waiting taken text stands written now w p =
      subst (λ (l : List ℕ). FrontIsWritten feeding true l written now) (append-nil taken)
      (FrontIsWritten-so_far true taken [] text stands written now w p)

  -- a read's answer: what is due for what it gave goes on behind what was written
  module _ (taken text : List ℕ) (written now new : Option (List ℕ)) (w : Appends written now text) where
    pub AfterAnswer-sent : {A : Type 0} (stands : S) (bytes : List ℕ) (r : Result A End)
        → feeding.fed false taken stands (text ++ bytes)
        → AfterSend now new bytes r → AfterAnswer feeding taken stands written new r
    AfterAnswer-sent stands bytes (Ok u) p sent =
        record { text = text ++ bytes; wrote = Appends-trans written now new text bytes w sent; fed = p }
    AfterAnswer-sent stands bytes (Err Done) p sent = sent
    AfterAnswer-sent stands bytes (Err ReadFault) p sent = sent
    AfterAnswer-sent stands bytes (Err WriteFault) p sent =
        FrontIsWritten-now false taken written now new text bytes (inl (stands, p)) w sent
    AfterAnswer-sent stands bytes (Err Memory) p sent =
        FrontIsWritten-now false taken written now new text bytes (inl (stands, p)) w sent
    AfterAnswer-sent stands bytes (Err BadLine) p sent = absurd sent
    AfterAnswer-sent stands bytes (Err Spent) p sent = sent

    -- a line outside the grammar was told, or a prefix of what is due
    pub AfterRefusal : (ended : Bool) (bytes : List ℕ) (end : End) → feeding.refused ended taken (text ++ bytes)
        → AfterSendLast now new bytes BadLine end
        → IsRefusedOr feeding ended taken written new end
    AfterRefusal ended bytes end bad (inl sent) =
        subst (IsRefusedOr feeding ended taken written new) (sym sent.0) (record {
          text = text ++ bytes;
          wrote = Appends-trans written now new text bytes w sent.1;
          bad = bad;
        })
    AfterRefusal ended bytes end bad (inr (inl fault, front)) =
        subst (IsRefusedOr feeding ended taken written new) (sym fault)
        (FrontIsWritten-now ended taken written now new text bytes (inr (inl bad)) w front)
    AfterRefusal ended bytes end bad (inr (inr want, front)) =
        subst (IsRefusedOr feeding ended taken written new) (sym want)
        (FrontIsWritten-now ended taken written now new text bytes (inr (inl bad)) w front)

    -- at the input's end
    pub AfterFinish-refused : (end : End) → IsRefusedOr feeding true taken written new end
        → AfterFinish feeding taken written new end
    AfterFinish-refused Done h = absurd h
    AfterFinish-refused ReadFault h = absurd h
    AfterFinish-refused WriteFault h = h
    AfterFinish-refused Memory h = h
    AfterFinish-refused BadLine h = h
    AfterFinish-refused Spent h = absurd h

    -- the last answers weren't all written
    pub AfterFinish-unsent : (A : Type 0) (stands : S) (bytes : List ℕ) (end : End)
        → feeding.fed true taken stands (text ++ bytes) → AfterSend {A = A} now new bytes (Err end)
        → AfterFinish feeding taken written new end
    AfterFinish-unsent A stands bytes Done p sent = absurd sent
    AfterFinish-unsent A stands bytes ReadFault p sent = absurd sent
    AfterFinish-unsent A stands bytes WriteFault p sent =
        FrontIsWritten-now true taken written now new text bytes (inl (stands, p)) w sent
    AfterFinish-unsent A stands bytes Memory p sent =
        FrontIsWritten-now true taken written now new text bytes (inl (stands, p)) w sent
    AfterFinish-unsent A stands bytes BadLine p sent = absurd sent
    AfterFinish-unsent A stands bytes Spent p sent = absurd sent

    -- what was written in closing, or a prefix of it
    pub AfterFinish-closed : (stands : S) (bytes : List ℕ) (end : End) → feeding.closed taken stands (text ++ bytes)
        → AfterSendLast now new bytes Done end
        → AfterFinish feeding taken written new end
    AfterFinish-closed stands bytes end good (inl sent) =
        subst (AfterFinish feeding taken written new) (sym sent.0) (record {
          stands = stands;
          text = text ++ bytes;
          wrote = Appends-trans written now new text bytes w sent.1;
          closed = good;
        })
    AfterFinish-closed stands bytes end good (inr (inl fault, front)) =
        subst (AfterFinish feeding taken written new) (sym fault)
        (FrontIsWritten-now true taken written now new text bytes (inr (inr (refl, stands, good))) w front)
    AfterFinish-closed stands bytes end good (inr (inr want, front)) =
        subst (AfterFinish feeding taken written new) (sym want)
        (FrontIsWritten-now true taken written now new text bytes (inr (inr (refl, stands, good))) w front)

  -- the answers were written, and running out of memory in closing loses none
  pub AfterFinish-unclosed : (taken text bytes : List ℕ) (stands : S) (written now new : Option (List ℕ))
      → Appends written now text → Appends now new bytes
      → feeding.fed true taken stands (text ++ bytes) → FrontIsWritten feeding true taken written new
  AfterFinish-unclosed taken text bytes stands written now new w sent p =
      FrontIsWritten-now true taken written now new text bytes (inl (stands, p)) w (AppendsFront-all now new bytes sent)
