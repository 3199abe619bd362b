-- What follows for each link that came, where memory was enough.
use Rattle.std.proofs.Common.{◌≡◌, ◌⊎◌, ℕ, ◌≤◌, Bool, true, false, List, ◌++◌, refl, sym, ap, subst, ◌∙◌, arith, inl, inr}
use Rattle.std.specs.Prelude.{IfSome}
use Rattle.std.specs.declared.option.Option.{Option}
use Rattle.std.specs.declared.option.Option.TheVariants.{Some}
use Rattle.edge_traits.specs.Door.{DoorTale}
use Rattle.edge_traits.specs.Link.{Handed, IsFresh, Sign, Tale}
use Rattle.one_server.specs.Running.{Log}
use Rattle.link_core.specs.declared.link_end.LinkEnd.{LinkEnd}
use Rattle.link_core.specs.declared.link_end.LinkEnd.TheVariants as end
use Rattle.link_core.specs.Laws.{WasGreeted, handed_over}
use Rattle.link_core.specs.ServedInPart.{WasServed}
use Rattle.link_core.proofs.Answering.{answers_each_line}
use Rattle.link_core.proofs.Owning.{faults_are_counted, is_greeted, keeps_its_signs, tells_on}
use Rattle.serve_core.specs.Laws.{ComesBack, EachComesBack}
use Rattle.serve_core.specs.Sessions.{CameAs, CameBack, HadSession}

module _ (shows : ℕ → Bool) (session : ℕ) (calls : Log) (came back : Tale) (faults : ℕ) (fresh : IsFresh came) where
  greeted_or_failed : (e : LinkEnd) → (e ≡ end.Memory → ⊥)
      → WasServed shows true session e calls (handed_over came 0) (handed_over back faults)
      → WasGreeted came back ⊎ (1 ≤ faults)
  greeted_or_failed end.Memory never s = absurd (never refl)
  greeted_or_failed end.WriteFault never s =
      inr (omega (
        arith,
        faults_are_counted shows true session end.WriteFault calls (handed_over came 0) (handed_over back faults) s
            (inr refl),
      ))
  greeted_or_failed end.Quit never s =
      inl (is_greeted shows true session end.Quit calls came back 0 faults s (λ e. cc) never)
  greeted_or_failed end.End never s =
      inl (is_greeted shows true session end.End calls came back 0 faults s (λ e. cc) never)
  greeted_or_failed end.ReadFault never s =
      inl (is_greeted shows true session end.ReadFault calls came back 0 faults s (λ e. cc) never)
  greeted_or_failed end.Spent never s =
      inl (is_greeted shows true session end.Spent calls came back 0 faults s (λ e. cc) never)

  all_signs : (e : LinkEnd) → WasServed shows true session e calls (handed_over came 0) (handed_over back faults)
      → back.taken ++ back.left ≡ came.left
  all_signs e s =
      keeps_its_signs shows true session e calls came back 0 faults s ∙ ap (λ (l : List Sign). l ++ came.left) fresh.0

  comes_back : (door : DoorTale) (e : LinkEnd) → (e ≡ end.Memory → ⊥)
      → WasServed shows true session e calls (handed_over came 0) (handed_over back faults)
      → CameBack session (handed_over back faults) door → ComesBack shows door session calls came
  comes_back door e never s there = record {
    link = back;
    faults = faults;
    back = there;
    signs = all_signs e s;
    greeted = greeted_or_failed e never s;
    answered = λ none few.
        answers_each_line shows true session e calls came back 0 faults s never (λ rose. omega (arith, rose, none)) few;
  }

-- the link came as the door tells, and comes back as it was handed back
module _ (shows : ℕ → Bool) (lack : Type 0) (never : lack → ⊥) (door : DoorTale) (number : ℕ) (calls : Log)
    (came : Tale) (h : HadSession shows lack (Some door) number calls) (known : CameAs number (Some came) door) where
  some_inside : (a b : Option Tale) → Some a ≡ Some b → a ≡ b
  some_inside a b e = cc

  link_is : h.link ≡ Some came
  link_is = some_inside h.link (Some came) (sym h.came ∙ known)

  was_fresh : IsFresh came
  was_fresh = subst (λ (o : Option Tale). IfSome o IsFresh) link_is h.fresh

  was_served : WasServed shows true number h.end calls (handed_over came 0) h.returned
  was_served =
      subst (λ (o : Option Tale). WasServed shows true number h.end calls (record { tale = o; faults = 0 }) h.returned)
      link_is h.served

  tells_back : (tale : Tale) × (h.returned.tale ≡ Some tale)
  tells_back = tells_on shows true number h.end calls came h.returned.tale 0 h.returned.faults was_served

  returned_is : h.returned ≡ handed_over tells_back.0 h.returned.faults
  returned_is = ap (λ (o : Option Tale). record { tale = o; faults = h.returned.faults }) tells_back.1

  pub comes_back_here : ComesBack shows door number calls came
  comes_back_here =
      comes_back shows number calls came tells_back.0 h.returned.faults was_fresh door h.end (λ e. never (h.short e))
      (subst (λ (r : Handed). WasServed shows true number h.end calls (handed_over came 0) r) returned_is was_served)
      (subst (λ (r : Handed). CameBack number r door) returned_is h.back)

pub each_comes_back : EachComesBack
each_comes_back shows short door number calls came ample h known =
    comes_back_here shows (short ≡ true) (λ e. let both : true ≡ false = sym e ∙ ample in cc) door number calls came h
    known
