-- Settling with a worker: what it gave up is joined and handed back.
use Rattle.std.proofs.Common.{◌≡◌, ◌≢◌, ℕ, suc, ◌<◌, Bool, List, [], ◌∷◌, ◌++◌, length, take, drop, refl, sym, ap, subst, ◌∙◌, take-append-drop}
use Rattle.std.specs.Prelude.{IfSome}
use Rattle.std.proofs.Math.Seq.{drop-cons}
use Rattle.std.specs.List.{slice_index_or}
use Rattle.std.specs.declared.option.Option.{Option}
use Rattle.atomic_table.specs.Seated.{TableId}
use Rattle.edge_traits.specs.Link.{Handed, IsFresh, Tale}
use Rattle.edge_traits.specs.Door.{DoorTale, IsOut, TakesBack}
use Rattle.edge_traits.specs.WhereTold.{WhereTold}
use Rattle.hall_core.specs.Passes.{IsPassJoined, PassState, pass_divided, new_pass}
use Rattle.link_core.specs.declared.link_end.LinkEnd.{LinkEnd}
use Rattle.serve_turn.specs.declared.supply.Supply.{Supply}
use Rattle.serve_core.specs.Working.{Due, IsPaid}
use Rattle.serve_core.specs.Keeping.{Comes, KeepsLeft, SameHall, Underway, supply_after}
use Rattle.serve_core.proofs.Keeping.{given_here, given_not_first, given_out, kept_came, kept_paid}
use Rattle.serve_core.proofs.Telling.{left_back, left_stays}

-- the list around one that is taken out
pub around : {T : Type 0} (items : List T) (i : ℕ) (d : T) → i < length items → d ≡ slice_index_or items i d
    → items ≡ take i items ++ d ∷ drop (suc i) items
around items i d low is =
    sym (take-append-drop i items) ∙ ap (λ xs. take i items ++ xs) (drop-cons items i d low)
    ∙ ap (λ x. take i items ++ x ∷ drop (suc i) items) (sym is)

pub stays_then : (start pass given new : PassState) → SameHall start pass → IsPassJoined pass given new
    → SameHall start new
stays_then start pass given new s j =
    (ap (λ (p : PassState). p.splits) j.same ∙ s.0, ap (λ (p : PassState). p.opening) j.same ∙ s.1)

pub left_then : (start door door' : Option DoorTale) (number : ℕ) (link : Handed) → WhereTold start door KeepsLeft
    → WhereTold door door' (TakesBack number link) → WhereTold start door' KeepsLeft
left_then start door door' number link p q = left_stays start door door' p (left_back number link door door' q)

module _ {C : Type 0} (shows : C → ℕ → Bool) (hall : TableId) (clock : C) where
  module _ (supply : Supply) (end : LinkEnd) (door : Option DoorTale) (pass given : PassState)
      (items one two : List (Due C)) (d : Due C) (link : Handed)
      (k : Underway shows hall clock supply door pass items) (is : items ≡ one ++ d ∷ two)
      (paid : IsPaid shows d end given link) where
    kept_around : Underway shows hall clock supply door pass (one ++ d ∷ two)
    kept_around = subst (λ (xs : List (Due C)). Underway shows hall clock supply door pass xs) is k

    pub pays_here : given.home ≡ hall
    pays_here = given_here shows hall clock supply end door door pass pass given one two d link kept_around paid

    pub pays_not_first : given.number ≢ 0
    pays_not_first =
        given_not_first shows hall clock supply end door door pass pass given one two d link kept_around paid

    pub pays_out : IfSome door (IsOut given.number)
    pays_out = given_out shows hall clock supply end door door pass pass given one two d link kept_around paid

    pub pays : (supply' : Supply) (door' : Option DoorTale) (new : PassState) (rest : List (Due C))
        → IsPassJoined pass given new → WhereTold door door' (TakesBack given.number link) → rest ≡ one ++ two
        → supply' ≡ supply_after end supply → Underway shows hall clock supply' door' new rest
    pays supply' door' new rest joins goes r s =
        subst (λ (x : Supply). Underway shows hall clock x door' new rest) (sym s)
        (subst (λ (xs : List (Due C)). Underway shows hall clock (supply_after end supply) door' new xs) (sym r)
        (kept_paid shows hall clock supply end door door' pass new given one two d link kept_around paid joins goes))

  -- a link that came, and its pass
  module _ (supply : Supply) (before door : Option DoorTale) (pass mid given : PassState) (waiting : List (Due C))
      (link : Option Tale) (k : Underway shows hall clock supply before pass waiting)
      (goes : WhereTold before door (Comes link)) (counted : mid ≡ pass_divided pass) (new : given ≡ new_pass pass)
      (fresh : IfSome link IsFresh) where
    pub due_now : Due C
    due_now = record { pass = given; link = link; clock = clock }

    pub attends : (items : List (Due C)) → items ≡ waiting ++ record { pass = given; link = link; clock = clock } ∷ []
        → Underway shows hall clock supply door mid items
    attends items is =
        subst (λ (xs : List (Due C)). Underway shows hall clock supply door mid xs) (sym is)
        (subst (λ (p : PassState).
        Underway shows hall clock supply door p (waiting ++ record { pass = given; link = link; clock = clock } ∷ []))
        (sym counted)
        (kept_came shows hall clock supply before door pass waiting (record {
          pass = given;
          link = link;
          clock = clock;
        }) k goes (ap (λ (p : PassState). p.home) new ∙ k.here) (ap (λ (p : PassState). p.number) new) refl fresh))
