-- The entries that were made: none, and those of two goes one behind the other.
use Rattle.std.proofs.Common.{[], ◌++◌, refl, sym, ap, ◌∙◌, append_assoc, append-nil}
use Rattle.one_server.specs.Running.{IsKnown, Log, Made, RunnerState}

pub made_none : (old : RunnerState) → IsKnown old → Made old [] old
made_none old known =
    record {
      same = refl;
      begins = ([], append-nil old.seen);
      known = known;
      more = sym (append-nil old.made);
      only = λ e. sym (append-nil old.seen);
    }

pub made_then : (old mid new : RunnerState) (one two : Log) → Made old one mid → Made mid two new
    → Made old (one ++ two) new
made_then old mid new one two p q = record {
  same = q.same ∙ ap (λ (s : RunnerState). record s { seen = new.seen; made = new.made }) p.same;
  begins = (
    p.begins.0 ++ q.begins.0,
    sym (append_assoc old.seen p.begins.0 q.begins.0) ∙ ap (λ (l : Log). l ++ q.begins.0) p.begins.1 ∙ q.begins.1,
  );
  known = q.known;
  more = q.more ∙ ap (λ (l : Log). l ++ two) p.more ∙ append_assoc old.made one two;
  only = λ e.
      q.only (ap (λ (s : RunnerState). s.sole) p.same ∙ e) ∙ ap (λ (l : Log). l ++ two) (p.only e)
      ∙ append_assoc old.seen one two;
}
