-- The reads of an input, one after the other, and how they end.
use Rattle.std.proofs.Common.{◌≡◌, ℕ, ◌+◌, ◌^◌, ◌<◌, ◌≤◌, true, false, List, [], ◌++◌, length, take, arith, length-append}
use Rattle.std.specs.Prelude.{Bool, Option}
use Rattle.std.proofs.lemmas.List.{length-take-le}
use Rattle.std.specs.Io.KnownBytes.{Consumes, Keeps, IsAtEnd}
use Rattle.std.proofs.KnownBytes.{Consumes-nil, Appends-nil, Consumes-trans, Consumes-kept}
use Rattle.edge_traits.specs.Faults.{Rose}
use Rattle.edge_traits.specs.Source.{Took}
use Rattle.edge_traits.specs.declared.source.Got.TheVariants.{Bytes}
use Rattle.cmd_lines.specs.FeederEnds.{FeederEnds, IsBegun, IsSpent}
use Rattle.cmd_lines.specs.Feeding.{CanBeFed, Feeding}
use Rattle.cmd_lines.specs.Reading.{Reading, IsAnswered, IsRefusedOr, AfterFinish}
use Rattle.cmd_lines.specs.Ends.{OnReadFault, OnWriteFault}
use Rattle.cmd_lines.specs.declared.end.End.{End}
use Rattle.cmd_lines.specs.declared.end.End.TheVariants.{Done, ReadFault, WriteFault, Memory, BadLine, Spent}

-- no end has come
not_ended : {P : Type 0} → false ≡ true → P
not_ended e = absurd (let bad : false ≡ true = e in cc)

module _ {S : Type 0} (feeding : Feeding S) where
  -- before the first read
  pub Reading-start : (stands : S) (left written : Option (List ℕ)) → feeding.fed false [] stands []
      → Reading feeding left left written written stands 0
  Reading-start stands left written unfed = record {
    taken = [];
    text = [];
    came = Consumes-nil left;
    wrote = Appends-nil written;
    fed = unfed;
    few = omega arith;
    many = omega arith;
  }

-- what one run reads stays below 2^50
pub can_be_fed : {S : Type 0} (feeding : S → Feeding S) (start : S) (left left' written written' : Option (List ℕ))
    (stands : S) (reads : ℕ) (piece : List ℕ)
    → reads < 2 ^ 40
    → length piece ≤ 1024 → Reading (feeding start) left left' written written' stands reads
    → CanBeFed feeding stands piece
can_be_fed feeding start left left' written written' stands reads piece few short r =
    (start, r.taken, r.text, r.fed, omega (arith, r.many, few, short))

-- a read that gave bytes, which were answered
module _ {S : Type 0} (feeding : Feeding S) (left left' left'' written written' written'' : Option (List ℕ))
    (stands stands' : S) (reads : ℕ)
    (r : Reading feeding left left' written written' stands reads) (n : ℕ) (buf : List ℕ)
    (took : Took left' left'' (Bytes n) buf) where
  all_came : Consumes left left'' (r.taken ++ take n buf)
  all_came = Consumes-trans left left' left'' r.taken (take n buf) r.came took.2

  pub Reading-next : length buf ≡ 1024 → IsAnswered feeding (r.taken ++ take n buf) stands' written written''
      → Reading feeding left left'' written written'' stands' (reads + 1)
  Reading-next room answered =
      let long : length (r.taken ++ take n buf) ≡ length r.taken + length (take n buf) =
      length-append r.taken (take n buf) in
      let piece : length (take n buf) ≡ n = length-take-le n buf took.1 in
      record {
        taken = r.taken ++ take n buf;
        text = answered.text;
        came = all_came;
        wrote = answered.wrote;
        fed = answered.fed;
        few = omega (arith, r.few, took.0);
        many = omega (arith, r.many, took.1);
      }

  pub FeederEnds-refused : (end : End) → IsRefusedOr feeding false (r.taken ++ take n buf) written written'' end
      → FeederEnds feeding left left'' written written'' end
  FeederEnds-refused Done h = absurd h
  FeederEnds-refused ReadFault h = absurd h
  FeederEnds-refused WriteFault h =
      record { taken = r.taken ++ take n buf; ended = false; came = (all_came, not_ended); front = h }
  FeederEnds-refused Memory h =
      record { taken = r.taken ++ take n buf; ended = false; came = (all_came, not_ended); front = h }
  FeederEnds-refused BadLine h =
      record {
        taken = r.taken ++ take n buf;
        ended = false;
        due = h.text;
        came = (all_came, not_ended);
        bad = h.bad;
        text = h.wrote;
      }
  FeederEnds-refused Spent h = absurd h

-- no refusal is a fault of reading
pub OnReadFault-refused : {S : Type 0} (feeding : Feeding S) (ended : Bool) (taken : List ℕ)
    (written written' : Option (List ℕ)) (P : Type 0) (end : End)
    → IsRefusedOr feeding ended taken written written' end → OnReadFault end P
OnReadFault-refused feeding ended taken written written' P Done h = tt
OnReadFault-refused feeding ended taken written written' P ReadFault h = absurd h
OnReadFault-refused feeding ended taken written written' P WriteFault h = tt
OnReadFault-refused feeding ended taken written written' P Memory h = tt
OnReadFault-refused feeding ended taken written written' P BadLine h = tt
OnReadFault-refused feeding ended taken written written' P Spent h = tt

pub OnReadFault-finished : {S : Type 0} (feeding : Feeding S) (taken : List ℕ) (written written' : Option (List ℕ))
    (P : Type 0) (end : End)
    → AfterFinish feeding taken written written' end → OnReadFault end P
OnReadFault-finished feeding taken written written' P Done h = tt
OnReadFault-finished feeding taken written written' P ReadFault h = absurd h
OnReadFault-finished feeding taken written written' P WriteFault h = tt
OnReadFault-finished feeding taken written written' P Memory h = tt
OnReadFault-finished feeding taken written written' P BadLine h = tt
OnReadFault-finished feeding taken written written' P Spent h = tt

-- the end of the input
module _ {S : Type 0} (feeding : Feeding S) (left left' left'' written written' : Option (List ℕ)) (stands : S)
    (reads : ℕ)
    (r : Reading feeding left left' written written' stands reads) (kept : Keeps left' left'') where
  still_came : Consumes left left'' r.taken
  still_came = Consumes-kept left left' left'' r.taken r.came kept

  pub FeederEnds-finished : (written'' : Option (List ℕ)) (end : End) → IsAtEnd left''
      → AfterFinish feeding r.taken written written'' end → FeederEnds feeding left left'' written written'' end
  FeederEnds-finished written'' Done at_end h =
      record {
        taken = r.taken;
        stands = h.stands;
        due = h.text;
        came = (still_came, λ e. at_end);
        good = h.closed;
        text = h.wrote;
      }
  FeederEnds-finished written'' ReadFault at_end h = absurd h
  FeederEnds-finished written'' WriteFault at_end h =
      record { taken = r.taken; ended = true; came = (still_came, λ e. at_end); front = h }
  FeederEnds-finished written'' Memory at_end h =
      record { taken = r.taken; ended = true; came = (still_came, λ e. at_end); front = h }
  FeederEnds-finished written'' BadLine at_end h =
      record {
        taken = r.taken;
        ended = true;
        due = h.text;
        came = (still_came, λ e. at_end);
        bad = h.bad;
        text = h.wrote;
      }
  FeederEnds-finished written'' Spent at_end h = absurd h

  -- between two reads all that has come is answered
  pub IsBegun-so_far : IsBegun feeding left left'' written written'
  IsBegun-so_far =
      record {
        taken = r.taken;
        stands = stands;
        due = r.text;
        came = (still_came, not_ended);
        good = r.fed;
        text = r.wrote;
      }

  -- after 2^40 reads
  pub IsSpent-reads : 2 ^ 40 ≤ reads → IsSpent feeding left left'' written written'
  unfolding IsBegun-so_far
  IsSpent-reads all = record { begun = IsBegun-so_far; many = omega (arith, r.few, all) }

-- a count that rose since then rose since before
pub Rose-since : (a b c : ℕ) → a ≤ b → Rose b c → Rose a c
Rose-since a b c before rose = omega (arith, before, rose)

pub OnWriteFault-since : (a b c : ℕ) (end : End) → a ≤ b → OnWriteFault end (Rose b c) → OnWriteFault end (Rose a c)
OnWriteFault-since a b c Done before h = tt
OnWriteFault-since a b c ReadFault before h = tt
OnWriteFault-since a b c WriteFault before h = Rose-since a b c before h
OnWriteFault-since a b c Memory before h = tt
OnWriteFault-since a b c BadLine before h = tt
OnWriteFault-since a b c Spent before h = tt
