-- What holds while links come and workers are joined, from one step to the next.
use Rattle.std.proofs.Common.{◌≡◌, ◌≢◌, ℕ, ◌+◌, ◌-◌, ◌<◌, ◌⊎◌, inl, inr, Bool, true, List, [], ◌∷◌, ◌++◌, length, map, refl, sym, ap, subst, ◌∙◌, arith}
use Rattle.std.specs.Prelude.{IfSome}
use Rattle.std.proofs.lemmas.Option.{slice_get_within}
use Rattle.std.specs.declared.option.Option.{Option}
use Rattle.atomic_table.specs.Seated.{TableId}
use Rattle.edge_traits.specs.Link.{Handed, IsFresh, Tale}
use Rattle.edge_traits.specs.Door.{DoorTale, IsOut, TakesBack}
use Rattle.edge_traits.specs.WhereTold.{WhereTold}
use Rattle.turn_table.specs.declared.view.Joined.{Joined}
use Rattle.turn_table.specs.Views.{In, joined_number}
use Rattle.one_server.specs.declared.act.Timed.{Timed}
use Rattle.one_server.specs.declared.part.Part.{Part}
use Rattle.one_server.specs.declared.reply.Reply.{Reply}
use Rattle.one_server.specs.Running.{Log}
use Rattle.hall_core.specs.Passes.{IsPassJoined, PassState, pass_divided, first_pass}
use Rattle.link_core.specs.declared.link_end.LinkEnd.{LinkEnd}
use Rattle.link_core.specs.declared.link_end.LinkEnd.TheVariants as link_end
use Rattle.link_core.specs.ServedInPart.{WasServed}
use Rattle.edge_traits.specs.Calls.{Store}
use Rattle.edge_traits.specs.declared.doorway.Answered.{Answered}
use Rattle.edge_traits.specs.declared.doorway.Answered.TheVariants as answered
use Rattle.steward_core.specs.declared.turn.StewardEnd.{StewardEnd}
use Rattle.serve_turn.specs.declared.supply.Supply.{Supply}
use Rattle.serve_turn.specs.declared.supply.Supply.TheVariants.{Enough, Short}
use Rattle.serve_turn.specs.Turns.{MadeTurn, supply_then}
use Rattle.serve_core.specs.Working.{Due, IsPaid}
use Rattle.serve_core.specs.Keeping.{Comes, IsOwed, Underway, due_number, supply_after}
use Rattle.serve_core.specs.Serving.{IsUnused}
use Rattle.serve_core.specs.Sessions.{CameAs, CameBack, HadSession}
use Rattle.serve_core.proofs.Among.{in_last, in_map_left, in_map_last, in_rest, in_map_rest, one_less, one_longer}
use Rattle.serve_core.proofs.Telling.{told_then, told_and, told_as, came_stays, came_new, came_back_stays, came_count, came_out, back_came, back_stays, back_new, back_count, back_out}
use Rattle.serve_core.proofs.Turning.{turn_home, turn_number, turn_splits}
use Rattle.turn_table.proofs.Among.{in_append, split_on}

-- ---- whether memory ran out

still_short : (end : LinkEnd) → supply_after end Short ≡ Short
still_short link_end.Memory = refl
still_short link_end.Quit = refl
still_short link_end.End = refl
still_short link_end.ReadFault = refl
still_short link_end.WriteFault = refl
still_short link_end.Spent = refl

now_short : (end : LinkEnd) (supply : Supply) → end ≡ link_end.Memory → supply_after end supply ≡ Short
now_short end supply e = ap (λ x. supply_after x supply) e

pub stays_short : (end : LinkEnd) (supply : Supply) → supply ≡ Short → supply_after end supply ≡ Short
stays_short end supply e = ap (supply_after end) e ∙ still_short end

pub then_short : (made supply : Supply) → supply ≡ Short → supply_then made supply ≡ Short
then_short Enough supply e = e
then_short Short supply e = refl

-- ---- sessions that were joined

module _ (shows : ℕ → Bool) (number : ℕ) (calls : Log) where
  pub served_then : (lack lack' : Type 0) (door door' : Option DoorTale) (R : DoorTale → DoorTale → Type 0)
      → WhereTold door door' R
      → ((k : ℕ) (link : Option Tale) (old new : DoorTale) → R old new → CameAs k link old → CameAs k link new)
      → ((k : ℕ) (link : Handed) (old new : DoorTale) → R old new → CameBack k link old → CameBack k link new)
      → (lack → lack') → HadSession shows lack door number calls → HadSession shows lack' door' number calls
  served_then lack lack' door door' R goes came back short p = record {
    end = p.end;
    link = p.link;
    returned = p.returned;
    fresh = p.fresh;
    served = p.served;
    short = λ e. short (p.short e);
    came = told_then door door' R (CameAs number p.link) (CameAs number p.link) (came number p.link) goes p.came;
    back =
        told_then door door' R (CameBack number p.returned) (CameBack number p.returned) (back number p.returned) goes
        p.back;
  }

module _ {C : Type 0} (shows : C → ℕ → Bool) (hall : TableId) (clock : C) where
  -- nothing came yet
  pub kept_first : (door : Option DoorTale) (opening : List Part) (pass : PassState) → pass ≡ first_pass hall opening
      → IfSome door IsUnused → Underway shows hall clock Enough door pass []
  kept_first door opening pass is unused =
      let none : pass.joined ≡ [] = ap (λ (p : PassState). p.joined) is in
      let zero : pass.splits ≡ 0 = ap (λ (p : PassState). p.splits) is in
      record {
        here = ap (λ (p : PassState). p.home) is;
        first = ap (λ (p : PassState). p.number) is;
        owed = λ due p. absurd p;
        served = λ j p. absurd (subst (λ (xs : List (Joined Timed Reply)). In j xs) none p);
        numbers = λ m low high. absurd (omega (arith, low, high, zero));
        came =
            told_as door IsUnused (λ tale. length tale.came ≡ pass.splits) (λ tale u. ap length u.0 ∙ sym zero) unused;
        out =
            told_as door IsUnused (λ tale. length tale.back + 0 ≡ length tale.came)
            (λ tale u. omega (arith, ap length u.0, ap length u.1)) unused;
      }

  owed_then : (door door' : Option DoorTale) (R : DoorTale → DoorTale → Type 0)
      → ((m : ℕ) (link : Option Tale) (a b : DoorTale) → R a b → CameAs m link a → CameAs m link b)
      → WhereTold door door' R
      → (due : Due C) → IsOwed shows hall clock door due → IsOwed shows hall clock door' due
  owed_then door door' R came goes due o = record {
    home = o.home;
    number = o.number;
    same = o.same;
    fresh = o.fresh;
    came =
        told_then door door' R (CameAs due.pass.number due.link) (CameAs due.pass.number due.link)
        (came due.pass.number due.link) goes o.came;
  }

  -- a link came, and has a pass
  module _ (supply : Supply) (door door' : Option DoorTale) (pass : PassState) (waiting : List (Due C)) (d : Due C)
      (k : Underway shows hall clock supply door pass waiting) (goes : WhereTold door door' (Comes d.link))
      (home : d.pass.home ≡ hall) (number : d.pass.number ≡ pass.splits + 1) (same : d.clock ≡ clock)
      (fresh : IfSome d.link IsFresh) where
    owed_new : IsOwed shows hall clock door' d
    owed_new = record {
      home = home;
      number = λ e. omega (arith, e, number);
      same = same;
      fresh = fresh;
      came =
          subst (λ n. IfSome door' (CameAs n d.link)) (sym number)
          (told_then door door' (Comes d.link) (λ tale. length tale.came ≡ pass.splits)
          (CameAs (pass.splits + 1) d.link) (came_new d.link pass.splits) goes k.came);
    }

    owed_came : (due : Due C) → In due waiting ⊎ In due (d ∷ []) → IsOwed shows hall clock door' due
    owed_came due (inl p) = owed_then door door' (Comes d.link) (came_stays d.link) goes due (k.owed due p)
    owed_came due (inr (inl e)) = subst (λ (x : Due C). IsOwed shows hall clock door' x) (sym e) owed_new
    owed_came due (inr (inr p)) = absurd p

    numbers_came : (m : ℕ) → In m (map joined_number pass.joined) ⊎ In m (map due_number waiting)
        → In m (map joined_number pass.joined) ⊎ In m (map due_number (waiting ++ d ∷ []))
    numbers_came m (inl p) = inl p
    numbers_came m (inr p) = inr (in_map_left due_number m waiting (d ∷ []) p)

    number_new : (m : ℕ) → m ≡ pass.splits + 1 → In m (map due_number (waiting ++ d ∷ []))
    number_new m e =
        subst (λ n. In n (map due_number (waiting ++ d ∷ []))) (number ∙ sym e) (in_map_last due_number d waiting [])

    pub kept_came : Underway shows hall clock supply door' (pass_divided pass) (waiting ++ d ∷ [])
    kept_came = record {
      here = k.here;
      first = k.first;
      owed = λ due p. owed_came due (in_append due waiting (d ∷ []) p);
      served = λ j p.
          served_then (shows clock) j.number j.calls (supply ≡ Short) (supply ≡ Short) door door' (Comes d.link) goes
          (came_stays d.link) (came_back_stays d.link) (λ e. e) (k.served j p);
      numbers = λ m low high.
          split_on m (pass.splits + 1) (λ e. inr (number_new m e))
          (λ n. numbers_came m (k.numbers m low (omega (arith, high, n))));
      came =
          told_then door door' (Comes d.link) (λ tale. length tale.came ≡ pass.splits)
          (λ tale. length tale.came ≡ pass.splits + 1) (came_count d.link pass.splits) goes k.came;
      out =
          told_then door door' (Comes d.link) (λ tale. length tale.back + length waiting ≡ length tale.came)
          (λ tale. length tale.back + length (waiting ++ d ∷ []) ≡ length tale.came)
          (λ old new e n.
          subst (λ c. length new.back + c ≡ length new.came) (sym (one_longer d waiting))
          (came_out d.link (length waiting) old new e n))
          goes k.out;
    }

  -- the door goes on, and what came and came back stays
  kept_still : (supply supply' : Supply) (door door' : Option DoorTale) (pass : PassState) (waiting : List (Due C))
      (R : DoorTale → DoorTale → Type 0)
      → ((a b : DoorTale) → R a b → (b.came ≡ a.came) × (b.back ≡ a.back)) → (supply ≡ Short → supply' ≡ Short)
      → Underway shows hall clock supply door pass waiting → WhereTold door door' R
      → Underway shows hall clock supply' door' pass waiting
  kept_still supply supply' door door' pass waiting R same short k goes =
      let came : (m : ℕ) (link : Option Tale) (a b : DoorTale) → R a b → CameAs m link a
      → CameAs m link b = λ m link a b e p.
      subst (λ (xs : List (Option Tale)). CameAs m link (record a { came = xs })) (sym (same a b e).0) p in
      let back : (m : ℕ) (link : Handed) (a b : DoorTale) → R a b → CameBack m link a
      → CameBack m link b = λ m link a b e p.
      subst (λ (xs : List (ℕ × Handed)). CameBack m link (record a { back = xs })) (sym (same a b e).1) p in
      record {
        here = k.here;
        first = k.first;
        owed = λ due p. owed_then door door' R came goes due (k.owed due p);
        served = λ j p.
            served_then (shows clock) j.number j.calls (supply ≡ Short) (supply' ≡ Short) door door' R goes came back
            short (k.served j p);
        numbers = k.numbers;
        came =
            told_then door door' R (λ tale. length tale.came ≡ pass.splits) (λ tale. length tale.came ≡ pass.splits)
            (λ a b e n. ap (λ (xs : List (Option Tale)). length xs) (same a b e).0 ∙ n) goes k.came;
        out =
            told_then door door' R (λ tale. length tale.back + length waiting ≡ length tale.came)
            (λ tale. length tale.back + length waiting ≡ length tale.came)
            (λ a b e n.
            ap (λ (xs : List (ℕ × Handed)). length xs + length waiting) (same a b e).1 ∙ n
            ∙ sym (ap (λ (xs : List (Option Tale)). length xs) (same a b e).0))
            goes k.out;
      }

  -- a Quiet, and a turn of the steward
  pub kept_quiet : (supply : Supply) (end : StewardEnd) (made : Supply) (before after : Store)
      (door door' : Option DoorTale) (pass new : PassState) (waiting : List (Due C))
      → Underway shows hall clock supply door pass waiting
      → WhereTold door door'
      (λ before after. after ≡ record before { quiets = before.quiets + 1; last = answered.Quiet })
      → MadeTurn end made before after pass new → Underway shows hall clock (supply_then made supply) door' new waiting
  kept_quiet supply end made before after door door' pass new waiting k goes turn =
      let joined : new.joined ≡ pass.joined = ap (λ p. p.joined) turn.shared in
      let splits = turn_splits end made before after pass new turn in
      let still =
      kept_still supply (supply_then made supply) door door' pass waiting
      (λ before after. after ≡ record before { quiets = before.quiets + 1; last = answered.Quiet })
      (λ a b e. (ap (λ (t : DoorTale). t.came) e, ap (λ (t : DoorTale). t.back) e)) (then_short made supply) k goes in
      record {
        here = turn_home end made before after pass new turn ∙ still.here;
        first = turn_number end made before after pass new turn ∙ still.first;
        owed = still.owed;
        served = λ j p. still.served j (subst (λ (xs : List (Joined Timed Reply)). In j xs) joined p);
        numbers = λ m low high.
            subst (λ (xs : List (Joined Timed Reply)). In m (map joined_number xs) ⊎ In m (map due_number waiting))
            (sym joined) (still.numbers m low (omega (arith, high, splits)));
        came =
            told_as door' (λ tale. length tale.came ≡ pass.splits) (λ tale. length tale.came ≡ new.splits)
            (λ tale n. n ∙ sym splits) still.came;
        out = still.out;
      }

  -- an answer of the door that gives nothing
  pub kept_answered : (supply : Supply) (answer : Answered) (door door' : Option DoorTale) (pass : PassState)
      (waiting : List (Due C))
      → Underway shows hall clock supply door pass waiting
      → WhereTold door door' (λ before after. after ≡ record before { last = answer })
      → Underway shows hall clock supply door' pass waiting
  kept_answered supply answer door door' pass waiting k goes =
      kept_still supply supply door door' pass waiting (λ before after. after ≡ record before { last = answer })
      (λ a b e. (ap (λ (t : DoorTale). t.came) e, ap (λ (t : DoorTale). t.back) e)) (λ e. e) k goes

  -- a worker has paid
  module _ (supply : Supply) (end : LinkEnd) (door door' : Option DoorTale) (pass new given : PassState)
      (one two : List (Due C)) (d : Due C) (link : Handed)
      (k : Underway shows hall clock supply door pass (one ++ d ∷ two)) (paid : IsPaid shows d end given link) where
    owes : IsOwed shows hall clock door d
    owes = k.owed d (in_last d one two)

    pub given_here : given.home ≡ hall
    given_here = paid.home ∙ owes.home

    pub given_not_first : given.number ≢ 0
    given_not_first = λ e. owes.number (sym paid.number ∙ e)

    pub given_out : IfSome door (IsOut given.number)
    given_out =
        told_and door (CameAs d.pass.number d.link)
        (λ tale. length tale.back + length (one ++ d ∷ two) ≡ length tale.came) (IsOut given.number)
        (λ tale c n.
        let low : d.pass.number - 1 < length tale.came = slice_get_within tale.came (d.pass.number - 1) d.link c in
        (given_not_first, omega (arith, low, paid.number), omega (arith, n, one_less d one two)))
        owes.came k.out

    module _ (joins : IsPassJoined pass given new) (goes : WhereTold door door' (TakesBack given.number link)) where
      grown : new.joined ≡ pass.joined ++ record { number = given.number; calls = given.made } ∷ []
      grown =
          joins.joined
          ∙ ap
          (λ (xs : List (Joined Timed Reply)). pass.joined ++ record { number = given.number; calls = given.made } ∷ xs)
          paid.none_joined

      serves_new : HadSession (shows clock) (supply_after end supply ≡ Short) door' given.number given.made
      serves_new = record {
        end = end;
        link = d.link;
        returned = link;
        fresh = owes.fresh;
        served =
            subst (λ (c : C).
            WasServed (shows c) true given.number end given.made (record { tale = d.link; faults = 0 }) link)
            owes.same
            (subst (λ n. WasServed (shows d.clock) true n end given.made (record { tale = d.link; faults = 0 }) link)
            (sym paid.number) paid.served);
        short = now_short end supply;
        came =
            subst (λ n. IfSome door' (CameAs n d.link)) (sym paid.number)
            (told_then door door' (TakesBack given.number link) (CameAs d.pass.number d.link)
            (CameAs d.pass.number d.link) (back_came given.number link d.pass.number d.link) goes owes.came);
        back =
            told_then door door' (TakesBack given.number link) (CameAs d.pass.number d.link)
            (CameBack given.number link) (λ a b e p. back_new given.number link a b e) goes owes.came;
      }

      served_still : (j : Joined Timed Reply)
          → In j pass.joined ⊎ In j (record { number = given.number; calls = given.made } ∷ [])
          → HadSession (shows clock) (supply_after end supply ≡ Short) door' j.number j.calls
      served_still j (inl p) =
          served_then (shows clock) j.number j.calls (supply ≡ Short) (supply_after end supply ≡ Short) door door'
          (TakesBack given.number link) goes (back_came given.number link) (back_stays given.number link)
          (stays_short end supply) (k.served j p)
      served_still j (inr (inl e)) =
          subst (λ (x : Joined Timed Reply).
          HadSession (shows clock) (supply_after end supply ≡ Short) door' x.number x.calls)
          (sym e) serves_new
      served_still j (inr (inr p)) = absurd p

      number_joined : (m : ℕ) → m ≡ given.number → In m (map joined_number new.joined)
      number_joined m e =
          subst (λ (xs : List (Joined Timed Reply)). In m (map joined_number xs)) (sym grown)
          (subst
          (λ n. In n (map joined_number (pass.joined ++ record { number = given.number; calls = given.made } ∷ [])))
          (sym e) (in_map_last joined_number (record { number = given.number; calls = given.made }) pass.joined []))

      numbers_cases : (m : ℕ) → (m ≡ due_number d) ⊎ In m (map due_number (one ++ two))
          → In m (map joined_number new.joined) ⊎ In m (map due_number (one ++ two))
      numbers_cases m (inl e) = inl (number_joined m (e ∙ sym paid.number))
      numbers_cases m (inr p) = inr p

      numbers_still : (m : ℕ) → In m (map joined_number pass.joined) ⊎ In m (map due_number (one ++ d ∷ two))
          → In m (map joined_number new.joined) ⊎ In m (map due_number (one ++ two))
      numbers_still m (inl p) =
          inl (subst (λ (xs : List (Joined Timed Reply)). In m (map joined_number xs)) (sym grown)
          (in_map_left joined_number m pass.joined (record { number = given.number; calls = given.made } ∷ []) p))
      numbers_still m (inr p) = numbers_cases m (in_map_rest due_number m d one two p)

      pub kept_paid : Underway shows hall clock (supply_after end supply) door' new (one ++ two)
      kept_paid =
          let splits : new.splits ≡ pass.splits = ap (λ (p : PassState). p.splits) joins.same in
          record {
            here = ap (λ (p : PassState). p.home) joins.same ∙ k.here;
            first = ap (λ (p : PassState). p.number) joins.same ∙ k.first;
            owed = λ due p.
                owed_then door door' (TakesBack given.number link) (back_came given.number link) goes due
                (k.owed due (in_rest due d one two p));
            served = λ j p.
                served_still j
                (in_append j pass.joined (record { number = given.number; calls = given.made } ∷ [])
                (subst (λ (xs : List (Joined Timed Reply)). In j xs) grown p));
            numbers = λ m low high. numbers_still m (k.numbers m low (omega (arith, high, splits)));
            came =
                told_then door door' (TakesBack given.number link) (λ tale. length tale.came ≡ pass.splits)
                (λ tale. length tale.came ≡ new.splits)
                (λ a b e n. back_count given.number link pass.splits a b e n ∙ sym splits) goes k.came;
            out =
                told_then door door' (TakesBack given.number link)
                (λ tale. length tale.back + length (one ++ d ∷ two) ≡ length tale.came)
                (λ tale. length tale.back + length (one ++ two) ≡ length tale.came)
                (λ a b e n.
                back_out given.number link (length (one ++ two)) (length (one ++ d ∷ two)) a b e (one_less d one two) n)
                goes k.out;
          }
