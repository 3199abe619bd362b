-- What the door's thread does for the store, from one step to the next.
use Rattle.std.proofs.Common.{◌≡◌, ℕ, ◌+◌, ◌≤◌, [], ◌++◌, refl, sym, ap, subst, ◌∙◌, arith, append-nil}
use Rattle.std.specs.declared.option.Option.{Option}
use Rattle.edge_traits.specs.Door.{DoorTale, DoorGives, TakesBack}
use Rattle.edge_traits.specs.WhereTold.{WhereTold}
use Rattle.edge_traits.specs.Answers.{IsQuiet}
use Rattle.edge_traits.specs.Faults.{Rose}
use Rattle.edge_traits.specs.Link.{Handed, Tale}
use Rattle.edge_traits.specs.declared.doorway.Came.{Came}
use Rattle.edge_traits.specs.declared.doorway.Came.TheVariants as came
use Rattle.one_server.specs.Running.{IsKnown, Made}
use Rattle.hall_core.specs.Passes.{HasLooked, IsPassJoined, PassState, pass_divided, runs_of}
use Rattle.link_core.specs.declared.link_end.LinkEnd.{LinkEnd}
use Rattle.steward_core.specs.declared.turn.StewardEnd.{StewardEnd}
use Rattle.steward_core.specs.declared.turn.StewardEnd.TheVariants as steward
use Rattle.steward_core.proofs.AgreedStill.{agreed_then, agreed_unsaved}
use Rattle.one_server.proofs.Made.{made_none, made_then}
use Rattle.serve_turn.specs.declared.supply.Supply.{Supply}
use Rattle.serve_turn.specs.declared.supply.Supply.TheVariants.{Short}
use Rattle.serve_core.specs.Keeping.{supply_after}
use Rattle.serve_core.specs.Stewarding.{AreTurns, MayEnd}
use Rattle.serve_core.specs.Tending.{GivesQuiets, Stand, Tended, stand}
use Rattle.edge_traits.specs.Calls.{Store}
use Rattle.serve_turn.specs.Turns.{MadeTurn, supply_then}
use Rattle.serve_core.proofs.Keeping.{stays_short, then_short}
use Rattle.serve_core.proofs.Telling.{where_as, where_same, where_then}
use Rattle.serve_core.proofs.Turning.{may_end, turn_is, turns_append, turns_as, turns_counted}

-- ---- one thing after another

quiets_then : (n m : ℕ) (a b c : DoorTale) → GivesQuiets n a b → GivesQuiets m b c → GivesQuiets (n + m) a c
quiets_then n m a b c p q = omega (arith, p, q)

pub tended_then : (one two three : Stand) → Tended one two → Tended two three → Tended one three
tended_then one two three p q =
    let first : AreTurns (MayEnd (three.supply ≡ Short)) p.count one.store two.store p.entries =
    turns_as (MayEnd (two.supply ≡ Short)) (MayEnd (three.supply ≡ Short))
    (may_end (two.supply ≡ Short) (three.supply ≡ Short) q.short) p.count one.store two.store p.entries p.turns in
    record {
      count = p.count + q.count;
      entries = p.entries ++ q.entries;
      turns =
          turns_append (three.supply ≡ Short) p.count q.count one.store two.store three.store p.entries q.entries first
          q.turns;
      grew = λ known.
          let grew = p.grew known in
          made_then (runs_of one.pass) (runs_of two.pass) (runs_of three.pass) p.entries q.entries grew
          (q.grew grew.known);
      quiets =
          where_then one.door two.door three.door (GivesQuiets p.count) (GivesQuiets q.count)
          (GivesQuiets (p.count + q.count)) (quiets_then p.count q.count) p.quiets q.quiets;
      short = λ e. q.short (p.short e);
      agrees = λ known.
          let grew = p.grew known in
          agreed_then one.store.table two.store.table three.store.table (runs_of one.pass) (runs_of two.pass)
          (runs_of three.pass) p.entries q.entries grew (q.grew grew.known) (p.agrees known) (q.agrees grew.known);
    }

-- the keeper's count never falls
pub tended_counted : {old new : Stand} → Tended old new → old.store.faults ≤ new.store.faults
tended_counted {old} {new} t =
    turns_counted (MayEnd (new.supply ≡ Short)) t.count old.store new.store t.entries t.turns

-- ---- no turn at all

module _ (pass pass' : PassState) (supply supply' : Supply) (door door' : Option DoorTale) (store : Store) where
  pub tended_none : (IsKnown (runs_of pass) → Made (runs_of pass) [] (runs_of pass'))
      → WhereTold door door' (GivesQuiets 0) → (supply ≡ Short → supply' ≡ Short)
      → Tended (stand pass supply door store) (stand pass' supply' door' store)
  tended_none grew quiets short = record {
    count = 0;
    entries = [];
    turns = (refl, refl);
    grew = grew;
    quiets = quiets;
    short = short;
    agrees = λ known. agreed_unsaved store.table (runs_of pass) (runs_of pass') [] known (grew known) tt;
  }

no_quiets : (tale : DoorTale) → GivesQuiets 0 tale tale
no_quiets tale = omega arith

pub tended_same : (it : Stand) → Tended it it
tended_same it =
    tended_none it.pass it.pass it.supply it.supply it.door it.door it.store (made_none (runs_of it.pass))
    (where_same it.door (GivesQuiets 0) no_quiets) (λ e. e)

-- the door went on without a Quiet
pub tended_door : (pass : PassState) (supply : Supply) (door door' : Option DoorTale) (store : Store)
    → WhereTold door door' (GivesQuiets 0) → Tended (stand pass supply door store) (stand pass supply door' store)
tended_door pass supply door door' store quiets =
    tended_none pass pass supply supply door door' store (made_none (runs_of pass)) quiets (λ e. e)

-- a pass was joined
joined_made : (old other new : PassState) → IsPassJoined old other new → Made (runs_of old) [] (runs_of new)
joined_made old other new j = record {
  same = ap (λ (p : PassState). record (runs_of p) { seen = new.seen; made = new.made }) j.same;
  begins = j.seen;
  known = j.known;
  more = ap (λ (p : PassState). p.made) j.same ∙ sym (append-nil old.made);
  only = λ e. absurd cc;
}

pub looked_made : (old new : PassState) → HasLooked old new → Made (runs_of old) [] (runs_of new)
looked_made old new j = record {
  same = ap (λ (p : PassState). record (runs_of p) { seen = new.seen; made = new.made }) j.same;
  begins = j.seen;
  known = j.known;
  more = ap (λ (p : PassState). p.made) j.same ∙ sym (append-nil old.made);
  only = λ e. absurd cc;
}

quiets_stay : (a b : DoorTale) → b.quiets ≡ a.quiets → GivesQuiets 0 a b
quiets_stay a b same = omega (arith, same)

quiets_back : (number : ℕ) (link : Handed) (a b : DoorTale) → TakesBack number link a b → GivesQuiets 0 a b
quiets_back number link a b e = quiets_stay a b (ap (λ (t : DoorTale). t.quiets) e)

pub tended_settled : (supply supply' : Supply) (end : LinkEnd) (door door' : Option DoorTale)
    (pass given new : PassState) (link : Handed)
    → IsPassJoined pass given new → WhereTold door door' (TakesBack given.number link)
    → supply' ≡ supply_after end supply → (store : Store)
    → Tended (stand pass supply door store) (stand new supply' door' store)
tended_settled supply supply' end door door' pass given new link joins goes is store =
    tended_none pass new supply supply' door door' store (λ known. joined_made pass given new joins)
    (where_as door door' (TakesBack given.number link) (GivesQuiets 0) (quiets_back given.number link) goes)
    (λ e. is ∙ stays_short end supply e)

pub settles_then : (start pass given new : PassState) (supply0 supply supply' : Supply) (end : LinkEnd)
    (door0 door door' : Option DoorTale) (link : Handed)
    → ((store : Store) → Tended (stand start supply0 door0 store) (stand pass supply door store))
    → IsPassJoined pass given new → WhereTold door door' (TakesBack given.number link)
    → supply' ≡ supply_after end supply
    → (store : Store) → Tended (stand start supply0 door0 store) (stand new supply' door' store)
settles_then start pass given new supply0 supply supply' end door0 door door' link so_far joins goes is store =
    tended_then (stand start supply0 door0 store) (stand pass supply door store) (stand new supply' door' store)
    (so_far store)
    (tended_settled supply supply' end door door' pass given new link joins goes is store)

-- a pass was split, and served
pub tended_split : (pass mid : PassState) (supply : Supply) (door : Option DoorTale) (store : Store)
    → mid ≡ pass_divided pass → Tended (stand pass supply door store) (stand mid supply door store)
tended_split pass mid supply door store is =
    subst (λ (p : PassState). Tended (stand pass supply door store) (stand p supply door store)) (sym is)
    (tended_none pass (pass_divided pass) supply supply door door store (made_none (runs_of pass))
    (where_same door (GivesQuiets 0) no_quiets) (λ e. e))

pub tended_served : (pass mid given new : PassState) (supply supply' : Supply) (end : LinkEnd)
    (door door' : Option DoorTale) (link : Handed)
    → mid ≡ pass_divided pass → IsPassJoined mid given new
    → WhereTold door door' (TakesBack given.number link) → supply' ≡ supply_after end supply → (store : Store)
    → Tended (stand pass supply door store) (stand new supply' door' store)
tended_served pass mid given new supply supply' end door door' link is joins goes s =
    settles_then pass mid given new supply supply supply' end door door door' link
    (λ store. tended_split pass mid supply door store is) joins goes s

-- an answer of the door
no_quiet : {L : Type 0} (tells : L → Option Tale) (answer : Came L) (a b : DoorTale) → (IsQuiet answer → ⊥)
    → DoorGives tells answer a b → GivesQuiets 0 a b
no_quiet tells (came.Link link) a b other e = quiets_stay a b (ap (λ (t : DoorTale). t.quiets) e.1)
no_quiet tells came.Quiet a b other e = absurd (other tt)
no_quiet tells came.Closed a b other e = quiets_stay a b (ap (λ (t : DoorTale). t.quiets) e.1)
no_quiet tells came.Failed a b other e = quiets_stay a b (ap (λ (t : DoorTale). t.quiets) e)

pub one_quiet : {L : Type 0} (tells : L → Option Tale) (door door' : Option DoorTale)
    → WhereTold door door' (DoorGives tells came.Quiet) → WhereTold door door' (GivesQuiets 1)
one_quiet tells door door' goes =
    where_as door door' (DoorGives tells came.Quiet) (GivesQuiets 1) (λ a b e. ap (λ (t : DoorTale). t.quiets) e) goes

pub same_then : (start : Stand) (pass pass' : PassState) (supply supply' : Supply) (door : Option DoorTale)
    (store : Store)
    → Tended start (stand pass supply door store) → pass' ≡ pass → supply' ≡ supply
    → Tended start (stand pass' supply' door store)
same_then start pass pass' supply supply' door store so_far p s =
    subst (λ (x : PassState). Tended start (stand x supply' door store)) (sym p)
    (subst (λ (x : Supply). Tended start (stand pass x door store)) (sym s) so_far)

pub door_then : {L : Type 0} (tells : L → Option Tale) (answer : Came L) (start : Stand) (pass : PassState)
    (supply : Supply) (door door' : Option DoorTale) (store : Store)
    → (IsQuiet answer → ⊥)
    → Tended start (stand pass supply door store) → WhereTold door door' (DoorGives tells answer)
    → Tended start (stand pass supply door' store)
door_then tells answer start pass supply door door' store other so_far goes =
    tended_then start (stand pass supply door store) (stand pass supply door' store) so_far
    (tended_door pass supply door door' store
    (where_as door door' (DoorGives tells answer) (GivesQuiets 0) (λ a b. no_quiet tells answer a b other) goes))

-- the pass looked at the history
pub tended_looked : (pass new : PassState) (supply : Supply) (door : Option DoorTale) (store : Store)
    → HasLooked pass new → Tended (stand pass supply door store) (stand new supply door store)
tended_looked pass new supply door store looks =
    tended_none pass new supply supply door door store (λ known. looked_made pass new looks)
    (where_same door (GivesQuiets 0) no_quiets) (λ e. e)

-- ---- a turn

short_then : (made supply : Supply) → made ≡ Short → supply_then made supply ≡ Short
short_then made supply e = subst (λ (m : Supply). supply_then m supply ≡ Short) (sym e) refl

pub tended_turn : (end : StewardEnd) (made : Supply) (pass new : PassState) (supply : Supply)
    (door door' : Option DoorTale) (store store' : Store)
    → MadeTurn end made store store' pass new
    → WhereTold door door' (GivesQuiets 1) → (end ≡ steward.KeeperFault → Rose store.faults store'.faults)
    → store.faults ≤ store'.faults
    → Tended (stand pass supply door store) (stand new (supply_then made supply) door' store')
tended_turn end made pass new supply door door' store store' turn quiets fault counted =
    let last = turn_is end made store store' pass new turn in
    record {
      count = 1;
      entries = turn.turn.entries;
      turns = (
        [],
        store,
        last,
        (refl, refl),
        counted,
        record {
          called = turn.turn.called;
          fault = fault;
          memory = λ e. short_then made supply (turn.short e);
          clearing = λ e. short_then made supply (turn.short_first e);
          kept = turn.turn.kept;
        },
        refl,
      );
      grew = λ known. turn.turn.grew;
      quiets = quiets;
      short = then_short made supply;
      agrees = λ known. turn.agrees;
    }
