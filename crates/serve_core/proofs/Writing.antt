-- The text that is written.
use Rattle.std.proofs.Common.{◌≡◌, ◌≢◌, ℕ, List, refl, subst}
use Rattle.std.proofs.KnownBytes.{Appends-trans}
use Rattle.std.specs.Io.KnownBytes.{Appends}
use Rattle.std.specs.declared.option.Option.{Option}
use Rattle.edge_traits.specs.Faults.{Rose}
use Rattle.edge_traits.specs.Sink.{AppendsFront, OnWriteFailed, UnlessWriteFailed, Wrote}
use Rattle.edge_traits.specs.declared.sink.Sent.{Sent}
use Rattle.edge_traits.specs.declared.sink.Sent.TheVariants as sent
use Rattle.serve_core.specs.Outside.{Sheet}
use Rattle.serve_core.specs.Text.{Says, closed_text, ready_text, whole_text}
use Rattle.cmd_lines.proofs.Sending.{AppendsFront-all, AppendsFront-behind, AppendsFront-longer}

-- a front of a text was written, however its write went
pub wrote_front : (old new : Option (List ℕ)) (text : List ℕ) (s : Sent) → Wrote old new text s
    → AppendsFront old new text
wrote_front old new text sent.All p = AppendsFront-all old new text p
wrote_front old new text sent.Failed p = p
wrote_front old new text sent.Memory p = p

wrote_closed : (old mid new : Option (List ℕ)) (s : Sent) → Appends old mid ready_text → Wrote mid new closed_text s
    → Wrote old new whole_text s
wrote_closed old mid new sent.All p q = Appends-trans old mid new ready_text closed_text p q
wrote_closed old mid new sent.Failed p q = AppendsFront-behind old mid new ready_text closed_text p q
wrote_closed old mid new sent.Memory p q = AppendsFront-behind old mid new ready_text closed_text p q

wrote_unready : (old new : Option (List ℕ)) (s : Sent) → s ≢ sent.All → Wrote old new ready_text s
    → Wrote old new whole_text s
wrote_unready old new sent.All unwritten p = absurd (unwritten refl)
wrote_unready old new sent.Failed unwritten p = AppendsFront-longer old new ready_text closed_text p
wrote_unready old new sent.Memory unwritten p = AppendsFront-longer old new ready_text closed_text p

-- both lines are one text, whose write went as that of the second one
pub says_closed : (s : Sent) (before mid after : Sheet) → Says ready_text sent.All before mid
    → Says closed_text s mid after → Says whole_text s before after
says_closed s before mid after ready closed = record {
  wrote = wrote_closed before.written mid.written after.written s ready.wrote closed.wrote;
  cause = subst (λ n. OnWriteFailed s (Rose n after.faults)) ready.calm closed.cause;
  calm = subst (λ n. UnlessWriteFailed s (after.faults ≡ n)) ready.calm closed.calm;
}

-- or as that of the first one, behind which nothing is written
pub says_unready : (s : Sent) (before after : Sheet) → s ≢ sent.All → Says ready_text s before after
    → Says whole_text s before after
says_unready s before after unwritten ready = record {
  wrote = wrote_unready before.written after.written s unwritten ready.wrote;
  cause = ready.cause;
  calm = ready.calm;
}
