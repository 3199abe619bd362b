-- Relations of what a link tells, one after the other.
use Rattle.std.proofs.Common.{◌≡◌, ℕ, ◌≤◌, Bool, List, [], ◌++◌, take, drop, refl, sym, ap, subst, ◌∙◌, append_assoc, append-nil, take-append-drop, arith, le_trans, Ok, Err, Result}
use Rattle.std.specs.declared.option.Option.{Option}
use Rattle.std.specs.declared.option.Option.TheVariants.{None, Some}
use Rattle.edge_traits.specs.Faults.{Rose}
use Rattle.edge_traits.specs.Link.{LinkIsOpen, Reads, Sign, Tale, Writes}
use Rattle.edge_traits.specs.WhereTold.{WhereTold}
use Rattle.edge_traits.specs.declared.link.Heard.{Heard}
use Rattle.edge_traits.specs.declared.sink.Sent.TheVariants as sent
use Rattle.histories.specs.History.{IsPrefix}
use Rattle.link_core.specs.declared.link_end.LinkEnd.{LinkEnd}
use Rattle.link_core.specs.declared.link_end.LinkEnd.TheVariants as end
use Rattle.link_core.specs.Steps.{LeavesLink, OnFault, TellsOpen, Written, WrittenPart}

pub where_then : {R S T : Tale → Tale → Type 0} (a b c : Option Tale) → WhereTold a b R → WhereTold b c S
    → ((x y z : Tale) → R x y → S y z → T x z) → WhereTold a c T
where_then None None None p q f = tt
where_then None None (Some z) p q f = absurd q
where_then None (Some y) c p q f = absurd p
where_then (Some x) None c p q f = absurd p
where_then (Some x) (Some y) None p q f = absurd q
where_then (Some x) (Some y) (Some z) p q f = f x y z p q

pub where_map : {R S : Tale → Tale → Type 0} (a b : Option Tale) → WhereTold a b R → ((x y : Tale) → R x y → S x y)
    → WhereTold a b S
where_map None None p f = tt
where_map None (Some y) p f = absurd p
where_map (Some x) None p f = absurd p
where_map (Some x) (Some y) p f = f x y p

-- nothing was written
pub written_none : (a b : Option Tale) → b ≡ a → Written [] a b
written_none None b same = subst (λ (o : Option Tale). Written [] None o) (sym same) tt
written_none (Some x) b same =
    subst (λ (o : Option Tale). Written [] (Some x) o) (sym same)
    (ap (λ (w : List ℕ). record x { written = w }) (sym (append-nil x.written)))

part_of_taken : (n : ℕ) (bytes : List ℕ) → IsPrefix (take n bytes) bytes
part_of_taken n bytes = (drop n bytes, take-append-drop n bytes)

written_some : (bytes : List ℕ) (n : ℕ) (x y : Tale) → y.written ≡ x.written ++ take n bytes
    → y ≡ record x { written = y.written } → WrittenPart bytes (Some x) (Some y)
written_some bytes n x y is same =
    record {
      put = take n bytes;
      part_of = part_of_taken n bytes;
      wrote = same ∙ ap (λ (l : List ℕ). record x { written = l }) is;
    }

none_written : (bytes : List ℕ) → WrittenPart bytes None None
none_written bytes = record { put = []; part_of = (bytes, refl); wrote = tt }

pub written_failed : (bytes : List ℕ) (a b : Option Tale) → WhereTold a b (Writes sent.Failed bytes)
    → WrittenPart bytes a b
written_failed bytes None None w = none_written bytes
written_failed bytes None (Some y) w = absurd w
written_failed bytes (Some x) None w = absurd w
written_failed bytes (Some x) (Some y) w = written_some bytes w.0.0 x y w.0.1 w.1

pub written_memory : (bytes : List ℕ) (a b : Option Tale) → WhereTold a b (Writes sent.Memory bytes)
    → WrittenPart bytes a b
written_memory bytes None None w = none_written bytes
written_memory bytes None (Some y) w = absurd w
written_memory bytes (Some x) None w = absurd w
written_memory bytes (Some x) (Some y) w = written_some bytes w.0.0 x y w.0.1 w.1

-- nothing to write
pub part_none : (bytes : List ℕ) (a b : Option Tale) → b ≡ a → WrittenPart bytes a b
part_none bytes a b same = record { put = []; part_of = (bytes, refl); wrote = written_none a b same }

-- what a link tells that was written more
pub tells_more : (taken : List Sign) (is_ended : Bool) (written put : List ℕ) (a b c : Option Tale)
    → WhereTold a b (TellsOpen taken is_ended written) → Written put b c
    → WhereTold a c (TellsOpen taken is_ended (written ++ put))
tells_more taken is_ended written put a b c t w =
    where_then a b c t w
    (λ x y z p q. record {
      taken_is = ap (λ (t : Tale). t.taken) q ∙ p.taken_is;
      left_is = p.left_is ∙ ap (λ (l : List Sign). taken ++ l) (sym (ap (λ (t : Tale). t.left) q));
      none_left = λ e. ap (λ (t : Tale). t.left) q ∙ p.none_left e;
      ended_is = ap (λ (t : Tale). t.ended) q ∙ p.ended_is;
      written_is =
          ap (λ (t : Tale). t.written) q ∙ ap (λ (l : List ℕ). l ++ put) p.written_is
          ∙ append_assoc x.written written put;
      closed_is = ap (λ (t : Tale). t.closed) q ∙ p.closed_is;
    })

-- ---- a link that isn't closed

-- it stays so where nothing closes it
pub open_then : {R : Tale → Tale → Type 0} (a b : Option Tale) → WhereTold a b R
    → ((x y : Tale) → R x y → y.closed ≡ x.closed) → LinkIsOpen a → LinkIsOpen b
open_then None None p f o = tt
open_then None (Some y) p f o = absurd p
open_then (Some x) None p f o = absurd p
open_then (Some x) (Some y) p f o = f x y p ∙ o

pub open_read : (heard : Heard) (buf : List ℕ) (a b : Option Tale) → WhereTold a b (Reads heard buf) → LinkIsOpen a
    → LinkIsOpen b
open_read heard buf a b r o = open_then a b r (λ x y q. q.closed) o

-- ---- its count of faults

rose_behind : (result : Result (Unit {0}) LinkEnd) (before mid now : ℕ) → before ≤ mid
    → OnFault result (Rose mid now) → OnFault result (Rose before now)
rose_behind (Ok u) before mid now grew h = tt
rose_behind (Err end.ReadFault) before mid now grew h = omega arith
rose_behind (Err end.WriteFault) before mid now grew h = omega arith
rose_behind (Err end.Quit) before mid now grew h = tt
rose_behind (Err end.End) before mid now grew h = tt
rose_behind (Err end.Spent) before mid now grew h = tt
rose_behind (Err end.Memory) before mid now grew h = tt

-- what a step leaves of its link is so from the count before on
pub leaves_behind : {result : Result (Unit {0}) LinkEnd} {link : Option Tale} {before mid now : ℕ} → before ≤ mid
    → LeavesLink result link mid now → LeavesLink result link before now
leaves_behind {result = result} {before = before} {mid = mid} {now = now} grew l = record {
  unclosed = l.unclosed;
  cause = rose_behind result before mid now grew l.cause;
  counted = le_trans grew l.counted;
}
