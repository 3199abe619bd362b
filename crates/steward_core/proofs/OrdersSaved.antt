-- Rounds of save orders, one after another.
use Rattle.std.proofs.Common.{◌≡◌, ℕ, ◌+◌, ◌*◌, inl, inr, Bool, true, false, cond, List, [], ◌∷◌, ◌++◌, Option, None, Some, length, refl, sym, ap, subst, ◌∙◌, append-nil, arith, ◌⊎◌, ◌==◌, ◌^◌, ◌-◌, add-one}
use Rattle.std.proofs.lemmas.Bool.{eqb-true, eqb-false}
use Rattle.edge_traits.specs.Calls.{Calls, Store}
use Rattle.edge_traits.specs.Pairs.{Records}
use Rattle.edge_traits.specs.declared.keeper.Kept.{Kept}
use Rattle.edge_traits.specs.declared.keeper.Kept.TheVariants as kept
use Rattle.lobby_shelf.specs.declared.order.Order.{Order}
use Rattle.histories.specs.declared.entry.Entry.{Entry}
use Rattle.histories.specs.History.{entry}
use Rattle.lobby_store.specs.Carrying.{CallsFor, Carries, CarriesPerhaps, in_doubt}
use Rattle.lobby_store.proofs.OrdersOut.{called_then, carries_none, carries_perhaps_then}
use Rattle.one_server.specs.declared.act.Timed.{Timed}
use Rattle.one_server.specs.declared.reply.Reply.{Reply}
use Rattle.one_server.specs.Running.{IsKnown, Log, Made, ServerRan, RunnerState}
use Rattle.steward_core.specs.Agreement.{StaysAgreed}
use Rattle.steward_core.specs.Clearing.{timed_acts_of}
use Rattle.steward_core.specs.Saving.{AreFullRounds, EndsRound, EndsSaving, HasCalled, IsCutShort, IsSaveRound, LeavesInDoubt, RoundAt, RoundDoubts, RunsRound, SavesTold, TakesSaving, TellsUpTo, asks_orders, last_number, orders_in, round_of, says_saved, tells_upto}
use Rattle.steward_core.specs.declared.saving.SaveRound.{SaveRound}
use Rattle.steward_core.specs.declared.saving.SaveRound.TheVariants as round
use Rattle.steward_core.specs.declared.saving.SavedTold.{SavedTold}
use Rattle.steward_core.specs.declared.saving.SavedTold.TheVariants as told
use Rattle.steward_core.specs.declared.turn.StewardEnd.{StewardEnd}
use Rattle.steward_core.specs.declared.turn.StewardEnd.TheVariants.{Done, KeeperFault, Memory}
use Rattle.one_server.proofs.Made.{made_none, made_then}
use Rattle.steward_core.proofs.AgreedStill.{agreed_then}
use Rattle.steward_core.proofs.OrdersTold.{told_first}

-- so many full rounds were run
pub record HasSaved (moment rounds : ℕ) (before after : Store) (old new : RunnerState) : Type 0 where
  pub entries : Log
  pub carried : List Order
  pub grew : Made old entries new
  pub full : AreFullRounds moment rounds entries carried
  pub called : CallsFor kept.Done carried before.calls after.calls
  pub kept : Carries before.table after.table carried

pub none_saved : (moment : ℕ) (store : Store) (old : RunnerState) → IsKnown old → HasSaved moment 0 store store old old
none_saved moment store old known = record {
  entries = [];
  carried = [];
  grew = made_none old known;
  full = (refl, refl);
  kept = carries_none store.table;
  called = sym (append-nil store.calls);
}

-- no order is in doubt
without_doubt : (old new : Option Records) (carried : List Order) (doubt : Option Order) → doubt ≡ None
    → CarriesPerhaps old new carried doubt → CarriesPerhaps old new carried None
without_doubt old new carried doubt none kept = subst (CarriesPerhaps old new carried) none kept

-- how the round ended is known
pub ran_to : {moment : ℕ} {end end' : SaveRound} {before after : Store} {old new : RunnerState}
    → RunsRound moment end before after old new → end ≡ end' → RunsRound moment end' before after old new
ran_to {moment} {before} {after} {old} {new} ran is =
    subst (λ (end : SaveRound). RunsRound moment end before after old new) is ran

module _ {moment rounds : ℕ} {before mid : Store} {old between : RunnerState}
    (so_far : HasSaved moment rounds before mid old between) where
  grown : (new : RunnerState) (entries : Log) → Made between entries new → Made old (so_far.entries ++ entries) new
  grown new entries grew = made_then old between new so_far.entries entries so_far.grew grew

  carried_on : (table : Option Records) (carried : List Order) (doubt : Option Order)
      → CarriesPerhaps mid.table table carried doubt
      → CarriesPerhaps before.table table (so_far.carried ++ carried) doubt
  carried_on table carried doubt kept =
      carries_perhaps_then before.table mid.table table so_far.carried carried doubt so_far.kept kept

  called_on : (calls : Calls) (answer : Kept) (carried : List Order) → CallsFor answer carried mid.calls calls
      → CallsFor answer (so_far.carried ++ carried) before.calls calls
  called_on calls answer carried called =
      called_then answer before.calls mid.calls calls so_far.carried carried so_far.called called

  -- the table agrees behind one more round
  pub agreed_next : {end : SaveRound} {after : Store} {new : RunnerState} → RunsRound moment end mid after between new
      → StaysAgreed before.table mid.table old between → StaysAgreed mid.table after.table between new
      → StaysAgreed before.table after.table old new
  agreed_next {after} {new} r one two =
      agreed_then before.table mid.table after.table old between new so_far.entries r.entries so_far.grew r.grew one two

  -- one more full round
  pub saved_next : {after : Store} {new : RunnerState} → RunsRound moment round.Full mid after between new
      → HasSaved moment (rounds + 1) before after old new
  saved_next {after} {new} r =
      subst (λ n. HasSaved moment n before after old new) (sym (add-one rounds)) (record {
        entries = so_far.entries ++ r.entries;
        carried = so_far.carried ++ r.carried;
        grew = grown new r.entries r.grew;
        full = (so_far.entries, r.entries, so_far.carried, r.carried, so_far.full, r.ends.0, r.ends.1, refl, refl);
        kept =
            carried_on after.table r.carried None
            (without_doubt mid.table after.table r.carried r.doubt r.left r.kept);
        called =
            called_on after.calls kept.Done r.carried
            (subst (λ (answer : Kept). CallsFor answer r.carried mid.calls after.calls) r.called.1 r.called.2);
      })

  -- a round that is the last one
  ended : (after : Store) (new : RunnerState) (end : StewardEnd) (entries : Log) (carried : List Order)
      (doubt : Option Order)
      → Made between entries new → EndsSaving moment end rounds entries carried
      → LeavesInDoubt end entries carried doubt → CarriesPerhaps mid.table after.table carried doubt
      → HasCalled end carried mid.calls after.calls → TakesSaving moment end before after old new
  ended after new end entries carried doubt grew ends left kept called = record {
    entries = so_far.entries ++ entries;
    carried = so_far.carried ++ carried;
    grew = grown new entries grew;
    saving =
        record {
          rounds = rounds;
          full = so_far.entries;
          first = so_far.carried;
          rest = entries;
          last = carried;
          doubt = doubt;
          are_full = so_far.full;
          ends = ends;
          left = left;
          all = refl;
          orders = refl;
        };
    kept = carried_on after.table carried doubt kept;
    called = (called.0, called.1, called_on after.calls called.0 carried called.2);
  }

  pub ended_last : {count few : ℕ} {after : Store} {new : RunnerState} → count ≡ rounds * 16
      → RunsRound moment (round.Last few) mid after between new
      → TakesSaving moment (Done (count + few)) before after old new
  ended_last {count} {few} {after} {new} is r =
      ended after new (Done (count + few)) r.entries r.carried r.doubt r.grew
      (inl (r.ends.0, r.ends.1, ap (λ n. n + few) is ∙ ap (λ n. rounds * 16 + n) r.ends.2)) r.left r.kept r.called

  pub ended_fault : {after : Store} {new : RunnerState} → RunsRound moment round.KeeperFault mid after between new
      → TakesSaving moment KeeperFault before after old new
  ended_fault {after} {new} r =
      ended after new KeeperFault r.entries r.carried r.doubt r.grew r.ends r.left r.kept r.called

  pub ended_short : {after : Store} {new : RunnerState} → RunsRound moment round.Memory mid after between new
      → TakesSaving moment Memory before after old new
  ended_short {after} {new} r = ended after new Memory r.entries r.carried r.doubt r.grew r.ends r.left r.kept r.called

  -- the most rounds
  pub ended_most : {count : ℕ} → count ≡ rounds * 16 → rounds ≡ 2 ^ 28 - 1
      → TakesSaving moment (Done count) before mid old between
  ended_most is most = record {
    entries = so_far.entries;
    carried = so_far.carried;
    grew = so_far.grew;
    saving =
        record {
          rounds = rounds;
          full = so_far.entries;
          first = so_far.carried;
          rest = [];
          last = [];
          doubt = None;
          are_full = so_far.full;
          ends = inr (most, refl, refl, is);
          left = refl;
          all = sym (append-nil so_far.entries);
          orders = sym (append-nil so_far.carried);
        };
    kept = so_far.kept;
    called = (kept.Done, refl, so_far.called);
  }

-- ---- one round

-- memory ran out at the question for orders
pub round_unasked : (moment : ℕ) (store : Store) (old new : RunnerState) → Made old [] new
    → RunsRound moment round.Memory store store old new
round_unasked moment store old new grew = record {
  entries = [];
  carried = [];
  grew = grew;
  ends = inr (refl, refl);
  doubt = None;
  left = refl;
  kept = carries_none store.table;
  called = (kept.Done, λ bad. cc, sym (append-nil store.calls));
}

-- what telling made, and whether it was made
abbrev pub Said : ℕ → Option ℕ → SavedTold → RunnerState → RunnerState → Type 0
Said moment upto said old new =
    (entries : Log) × Made old entries new
    × ((said ≡ told.Done → timed_acts_of entries ≡ tells_upto moment upto) × (said ≡ told.Memory → entries ≡ []))

pub said_made : (moment : ℕ) (upto : Option ℕ) (said : SavedTold) (old new : RunnerState) → IsKnown old
    → TellsUpTo moment upto said old new → Said moment upto said old new
said_made moment None said old new known t =
    ([], subst (λ (s : RunnerState). Made old [] s) (sym t.1) (made_none old known), (λ _. refl, λ _. refl))
said_made moment (Some upto) told.Done old new known t =
    (entry old.number (says_saved moment upto) t.0 ∷ [], t.1.grew, (λ _. refl, λ bad. cc))
said_made moment (Some upto) told.Memory old new known t = ([], t, (λ bad. cc, λ _. refl))

module _ {moment : ℕ} {orders : List Order} {answer : Reply} {old mid : RunnerState}
    (ran : ServerRan old (asks_orders moment) answer mid) (tells : orders ≡ orders_in answer) where
  asked : Entry Timed Reply
  asked = entry old.number (asks_orders moment) answer

  round_made : (new : RunnerState) (said : Log) → Made mid said new → Made old (asked ∷ said) new
  unfolding asked
  round_made new said made = made_then old mid new (asked ∷ []) said ran.grew made

  whole_round : (carried left : List Order) (said : Log) → orders ≡ carried ++ left → left ≡ []
      → timed_acts_of said ≡ tells_upto moment (last_number carried) → IsSaveRound moment (asked ∷ said) carried
  unfolding asked
  whole_round carried left said all none acts =
      record {
        first = asked;
        rest = said;
        all = refl;
        asks = refl;
        told = sym tells ∙ all ∙ ap (λ l. carried ++ l) none ∙ append-nil carried;
        saved = acts;
      }

  cut_round : (carried left : List Order) (said : Log) → orders ≡ carried ++ left
      → (timed_acts_of said ≡ tells_upto moment (last_number carried)) ⊎ (said ≡ [])
      → IsCutShort moment (asked ∷ said) carried
  unfolding asked
  cut_round carried left said all acts =
      record { first = asked; rest = said; all = refl; asks = refl; left = left; told = sym tells ∙ all; saved = acts }

  one_left : (carried left : List Order) (said : Log) → orders ≡ carried ++ left → (left ≡ [] → ⊥)
      → LeavesInDoubt KeeperFault (asked ∷ said) carried (in_doubt kept.Failed left)
  unfolding asked
  one_left carried [] said all some = absurd (some refl)
  one_left carried (order ∷ left) said all some = (order, refl, (left, sym tells ∙ all))

  same_length : (carried left : List Order) → orders ≡ carried ++ left → left ≡ [] → length orders ≡ length carried
  same_length carried left all none = ap length (all ∙ ap (λ l. carried ++ l) none ∙ append-nil carried)

  ends_whole : (carried left : List Order) (said : Log) → orders ≡ carried ++ left → left ≡ []
      → timed_acts_of said ≡ tells_upto moment (last_number carried) → length orders ≡ length carried
      → (is_full : Bool) → (length orders == 16) ≡ is_full
      → EndsRound moment (cond is_full round.Full (round.Last (length orders))) (asked ∷ said) carried
  ends_whole carried left said all none acts same true full = (
    whole_round carried left said all none acts,
    let sixteen = eqb-true (length orders) 16 full in omega (arith, same, sixteen),
  )
  ends_whole carried left said all none acts same false full = (
    whole_round carried left said all none acts,
    let few = (told_first ran tells).few in let other = eqb-false (length orders) 16 full in
        omega (arith, same, few, other),
    same,
  )

  ends_by : (outcome : Kept) (said : SavedTold) (carried left : List Order) (entries : Log) → orders ≡ carried ++ left
      → (outcome ≡ kept.Done → left ≡ [])
      → (said ≡ told.Done → timed_acts_of entries ≡ tells_upto moment (last_number carried))
      → (said ≡ told.Memory → entries ≡ [])
      → EndsRound moment (round_of outcome said (length orders)) (asked ∷ entries) carried
  unfolding asked
  ends_by kept.Failed told.Done carried left entries all whole acts none =
      cut_round carried left entries all (inl (acts refl))
  ends_by kept.Failed told.Memory carried left entries all whole acts none =
      cut_round carried left entries all (inr (none refl))
  ends_by kept.Memory told.Done carried left entries all whole acts none =
      inl (cut_round carried left entries all (inl (acts refl)))
  ends_by kept.Memory told.Memory carried left entries all whole acts none =
      inl (cut_round carried left entries all (inr (none refl)))
  ends_by kept.Done told.Memory carried left entries all whole acts none =
      inl (cut_round carried left entries all (inr (none refl)))
  ends_by kept.Done told.Done carried left entries all whole acts none =
      ends_whole carried left entries all (whole refl) (acts refl) (same_length carried left all (whole refl))
      (length orders == 16) refl

  doubts_whole : (carried : List Order) (entries : Log) (is_full : Bool) (count : ℕ)
      → RoundDoubts (cond is_full round.Full (round.Last count)) entries carried None
  doubts_whole carried entries true count = refl
  doubts_whole carried entries false count = refl

  doubts_by : (outcome : Kept) (said : SavedTold) (carried left : List Order) (entries : Log)
      → orders ≡ carried ++ left → (left ≡ [] → outcome ≡ kept.Done)
      → RoundDoubts (round_of outcome said (length orders)) (asked ∷ entries) carried (in_doubt outcome left)
  doubts_by kept.Failed said carried left entries all only =
      one_left carried left entries all (λ bare. let bad = only bare in cc)
  doubts_by kept.Memory said carried left entries all only = refl
  doubts_by kept.Done told.Memory carried left entries all only = refl
  doubts_by kept.Done told.Done carried left entries all only =
      doubts_whole carried (asked ∷ entries) (length orders == 16) (length orders)

  answered_whole : (is_full : Bool) (count : ℕ) → RoundAt (cond is_full round.Full (round.Last count)) kept.Done
  answered_whole true count = refl
  answered_whole false count = refl

  answered : (outcome : Kept) (said : SavedTold) (count : ℕ) → RoundAt (round_of outcome said count) outcome
  answered kept.Failed said count = refl
  answered kept.Memory said count = λ bad. cc
  answered kept.Done told.Memory count = λ bad. cc
  answered kept.Done told.Done count = answered_whole (count == 16) count

  pub round_run : {end : SaveRound} {before after : Store} {new : RunnerState}
      → SavesTold moment end orders before after mid new → RunsRound moment end before after old new
  round_run {new} s =
      let said = said_made moment (last_number s.carried) s.said mid new ran.grew.known s.tells in
      record {
        entries = asked ∷ said.0;
        carried = s.carried;
        grew = round_made new said.0 said.1;
        ends = subst (λ (r : SaveRound). EndsRound moment r (asked ∷ said.0) s.carried) (sym s.ends)
            (ends_by s.outcome s.said s.carried s.left said.0 s.all s.whole said.2.0 said.2.1);
        doubt = in_doubt s.outcome s.left;
        left =
            subst (λ (r : SaveRound). RoundDoubts r (asked ∷ said.0) s.carried (in_doubt s.outcome s.left)) (sym s.ends)
            (doubts_by s.outcome s.said s.carried s.left said.0 s.all s.only_whole);
        kept = s.table;
        called = (
          s.outcome,
          subst (λ (r : SaveRound). RoundAt r s.outcome) (sym s.ends) (answered s.outcome s.said (length orders)),
          s.called,
        );
      }
