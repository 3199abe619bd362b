-- What is promised of the hall that is given back, once the last turn was made.
use Rattle.std.proofs.Common.{◌≡◌, ◌≢◌, ℕ, ◌+◌, ◌<◌, ◌≤◌, ◌⊎◌, inl, inr, Bool, true, List, [], ◌++◌, length, map, refl, sym, ap, subst, ◌∙◌, arith}
use Rattle.std.specs.Prelude.{IfSome}
use Rattle.std.specs.declared.option.Option.{Option}
use Rattle.std.specs.declared.option.Option.TheVariants.{None, Some}
use Rattle.std.specs.List.{AllByRecursion}
use Rattle.atomic_table.specs.Seated.{TableId}
use Rattle.edge_traits.specs.Faults.{Rose}
use Rattle.edge_traits.specs.Door.{DoorTale}
use Rattle.edge_traits.specs.Pairs.{Records}
use Rattle.edge_traits.specs.declared.sink.Sent.{Sent}
use Rattle.edge_traits.specs.declared.sink.Sent.TheVariants as sent
use Rattle.histories.specs.History.{calls_of, state}
use Rattle.turn_table.specs.declared.view.Joined.{Joined}
use Rattle.turn_table.specs.Views.{In, joined_number}
use Rattle.one_server.specs.declared.act.Timed.{Timed}
use Rattle.one_server.specs.declared.part.Part.{Part}
use Rattle.one_server.specs.declared.reply.Reply.{Reply}
use Rattle.one_server.specs.House.{house}
use Rattle.one_server.specs.Running.{IsKnown, Log, RunnerState}
use Rattle.one_server.specs.Whole.{IsWhole}
use Rattle.hall_core.specs.Passes.{EveryoneJoined, PassState, first_pass, pass_noted, runs_of}
use Rattle.steward_core.specs.Agreement.{IsNoOthers, NoOthersSave, StaysAgreed, state_seen}
use Rattle.steward_core.specs.declared.turn.StewardEnd.{StewardEnd}
use Rattle.steward_core.specs.declared.turn.StewardEnd.TheVariants as steward
use Rattle.steward_core.proofs.AgreedStill.{agreed_then, agreed_unsaved}
use Rattle.one_server.proofs.Made.{made_then}
use Rattle.session_laws.specs.WhoSaves.{OthersServe}
use Rattle.session_laws.proofs.OfHistories.{others_never_save}
use Rattle.serve_turn.specs.Stopping.{end_of, is_short}
use Rattle.serve_turn.specs.declared.end.DoorEnd.TheVariants as door_end
use Rattle.serve_turn.specs.declared.end.ServeEnd.{ServeEnd}
use Rattle.serve_turn.specs.declared.supply.Supply.{Supply}
use Rattle.serve_turn.specs.declared.supply.Supply.TheVariants.{Enough, Short}
use Rattle.serve_core.specs.Ends.{EndsServing}
use Rattle.serve_core.specs.Keeping.{Underway}
use Rattle.serve_core.specs.Sessions.{CameAs, CameBack, HadSession}
use Rattle.serve_core.specs.Serving.{AgreesIn, EachHadSession, HasOneHistory, HasServedAll, IsUnused, TellsAgreed}
use Rattle.serve_core.specs.Text.{Says, SaysText, ready_text}
use Rattle.serve_core.specs.Outside.{Sheet}
use Rattle.edge_traits.specs.Calls.{Store}
use Rattle.serve_core.specs.Stewarding.{AreTurns, HasTended, MayEnd}
use Rattle.serve_core.specs.Tending.{GivesQuiets, Tended, stand}
use Rattle.serve_turn.specs.Turns.{TurnsLast}
use Rattle.serve_core.proofs.Among.{in_map_from}
use Rattle.serve_core.proofs.Ending.{closes_unready, ends_by, short_made}
use Rattle.serve_core.proofs.Keeping.{kept_first, served_then}
use Rattle.serve_core.proofs.LastTurn.{last_home, last_is, last_joined, last_leaves, last_made, last_number, last_opening, last_seen, last_splits, own_last}
use Rattle.serve_core.proofs.Telling.{where_same, told_and, told_as, told_then}
use Rattle.serve_core.proofs.Tending.{looked_made, tended_looked, tended_same, tended_then}
use Rattle.serve_core.proofs.Turning.{may_end, turns_as}
use Rattle.serve_core.proofs.Writing.{says_unready}

-- ---- the table

-- a table that is told, and agreed, agrees with what was seen at the end, where no other session told orders as saved
told_agreed : (parts opening : List Part) (before after : Option Records) (old new : RunnerState)
    → StaysAgreed before after old new → IsWhole old.opening → NoOthersSave old new → state_seen old ≡ opening
    → state_seen new ≡ parts
    → IfSome before (λ table. AgreesIn table opening → TellsAgreed after parts)
told_agreed parts opening None after old new stays whole none was is = tt
told_agreed parts opening (Some before) None old new stays whole none was is = absurd stays
told_agreed parts opening (Some before) (Some after) old new stays whole none was is = λ agrees. (
  after,
  refl,
  subst (AgreesIn after) is (stays whole none (subst (AgreesIn before) (sym was) agrees)),
)

-- ---- the turns

-- what is known once all links were served: the first pass, with the passes that were joined into it, and the turns of
-- the steward that were made, from the opening on
module _ {C : Type 0} (shows : C → ℕ → Bool) (hall : TableId) (clock : C) (supply : Supply)
    (opens door : Option DoorTale) (opening : List Part) (pass new : PassState) (old mid after : Store)
    (last : StewardEnd) (made : Supply)
    (k : Underway shows hall clock supply door pass [])
    (tended : Tended (stand (first_pass hall opening) Enough opens old) (stand pass supply door mid))
    (unused : IfSome opens IsUnused) (whole : IsWhole opening)
    (t : TurnsLast last made mid after pass new) (fault : last ≡ steward.KeeperFault → Rose mid.faults after.faults)
    (counted : mid.faults ≤ after.faults) where
  abbrev start : RunnerState
  start = runs_of (first_pass hall opening)

  start_known : IsKnown start
  start_known = record { legal = tt; own = refl }

  in_joined : (m : ℕ) → In m (map joined_number pass.joined) ⊎ In m [] → In m (map joined_number pass.joined)
  in_joined m (inl p) = p
  in_joined m (inr p) = absurd p

  everyone : EveryoneJoined pass
  everyone m low high = in_joined m (k.numbers m low high)

  splits_are : new.splits ≡ pass.splits
  splits_are = last_splits last made mid after pass new t

  is_first : new.number ≡ 0
  is_first = last_number last made mid after pass new t ∙ k.first

  opening_is : new.opening ≡ opening
  opening_is =
      last_opening last made mid after pass new t ∙ ap (λ (s : RunnerState). s.opening) (tended.grew start_known).same

  opening_was : pass.opening ≡ opening
  opening_was = ap (λ (s : RunnerState). s.opening) (tended.grew start_known).same

  joined_are : new.joined ≡ pass.joined
  joined_are = last_joined last made mid after pass new t

  own_calls : calls_of 0 new.seen ≡ new.made
  own_calls = own_last last made mid after pass new t k.first everyone

  -- up to the look before the last turn
  ready : Tended (stand (first_pass hall opening) Enough opens old) (stand t.first supply door mid)
  ready =
      tended_then (stand (first_pass hall opening) Enough opens old) (stand pass supply door mid)
      (stand t.first supply door mid) tended (tended_looked pass t.first supply door mid t.looked)

  ready_made : t.first.made ≡ ready.entries
  ready_made = (ready.grew start_known).more

  made_is : calls_of 0 new.seen ≡ ready.entries ++ t.made.turn.entries
  made_is = own_calls ∙ last_made last made mid after pass new t ∙ ap (λ (l : Log). l ++ t.made.turn.entries) ready_made

  known_seen : AllByRecursion (IsNoOthers 0) new.seen → NoOthersSave start (runs_of new)
  known_seen none = record { gained = new.seen; is = refl; none = none }

  stays : StaysAgreed old.table after.table start (runs_of new)
  stays =
      let grew = ready.grew start_known in
      let turn = t.made.turn in
      let looks = looked_made t.mid new t.looked_again in
      let table = after.table in
      let one =
      agreed_then old.table mid.table table start (runs_of t.first) (runs_of t.mid) ready.entries turn.entries grew
      turn.grew (ready.agrees start_known) t.made.agrees in
      agreed_then old.table table table start (runs_of t.mid) (runs_of new) (ready.entries ++ turn.entries) []
      (made_then start (runs_of t.first) (runs_of t.mid) ready.entries turn.entries grew turn.grew) looks one
      (agreed_unsaved table (runs_of t.mid) (runs_of new) [] turn.grew.known looks tt)

  served_session : (lack : Type 0) → (supply ≡ Short → lack) → (m : ℕ) (j : Joined Timed Reply) → In j pass.joined
      → m ≡ j.number → HadSession (shows clock) lack door m (calls_of m new.seen)
  served_session lack short m j there is =
      let calls : calls_of j.number new.seen ≡ j.calls =
      t.looked_again.calls j (subst (λ (xs : List (Joined Timed Reply)). In j xs) (sym joined_are) there) in
      let same : HadSession (shows clock) lack door j.number j.calls =
      served_then (shows clock) j.number j.calls (supply ≡ Short) lack door door (λ a b. a ≡ b)
      (where_same door (λ a b. a ≡ b) (λ tale. refl)) (λ n link a b e p. subst (λ (x : DoorTale). CameAs n link x) e p)
      (λ n link a b e p. subst (λ (x : DoorTale). CameBack n link x) e p) short (k.served j there) in
      subst (λ n. HadSession (shows clock) lack door n (calls_of n new.seen)) (sym is)
      (subst (λ (l : Log). HadSession (shows clock) lack door j.number l) (sym calls) same)

  -- whether memory ran out is told
  module _ (b : Bool) (short : supply ≡ Short → b ≡ true) (short_last : made ≡ Short → b ≡ true) where
    sessions_served : (m : ℕ) → 0 < m → m ≤ new.splits
        → HadSession (shows clock) (b ≡ true) door m (calls_of m new.seen)
    sessions_served m low high =
        let found = in_map_from joined_number m pass.joined (everyone m low (omega (arith, high, splits_are))) in
        served_session (b ≡ true) short m found.0 found.1 found.2

    nobody_else : (m : ℕ) → new.splits < m → calls_of m new.seen ≡ []
    nobody_else = t.looked_again.no_others is_first

    others : OthersServe new.splits new.seen
    others = record {
      served = λ m low high.
          let p = sessions_served m low high in
          record {
            shows = shows clock;
            mark = true;
            end = p.end;
            came = record { tale = p.link; faults = 0 };
            back = p.returned;
            served = p.served;
          };
      none_after = nobody_else;
    }

    turns_before : AreTurns (MayEnd (b ≡ true)) ready.count old mid ready.entries
    turns_before =
        turns_as (MayEnd (supply ≡ Short)) (MayEnd (b ≡ true)) (may_end (supply ≡ Short) (b ≡ true) short) ready.count
        old mid ready.entries ready.turns

    quiets_then : IfSome door (λ tale. ready.count ≡ tale.quiets)
    quiets_then =
        told_then opens door (GivesQuiets ready.count) IsUnused (λ tale. ready.count ≡ tale.quiets)
        (λ a b gives none. omega (arith, gives, none.2)) ready.quiets unused

    one_history : HasOneHistory opening (pass_noted b new)
    one_history = record {
      first = is_first;
      opens = opening_is;
      opens_whole = subst IsWhole (sym opening_is) whole;
      legal = t.looked_again.known.legal;
      all_joined = λ m low high.
          subst (λ (xs : List (Joined Timed Reply)). In m (map joined_number xs)) (sym joined_are)
          (everyone m low (omega (arith, high, splits_are)));
      no_others = nobody_else;
    }

    each_session : EachHadSession (shows clock) door (pass_noted b new)
    each_session = record {
      sessions = sessions_served;
      came =
          told_as door (λ tale. length tale.came ≡ pass.splits) (λ tale. length tale.came ≡ new.splits)
          (λ tale n. n ∙ sym splits_are) k.came;
      back =
          told_and door (λ tale. length tale.came ≡ pass.splits) (λ tale. length tale.back + 0 ≡ length tale.came)
          (λ tale. length tale.back ≡ new.splits) (λ tale n m. omega (arith, n, m, splits_are)) k.came k.out;
    }

    tended_all : HasTended (b ≡ true) last door old after new.opening new.seen
    tended_all = record {
      count = ready.count;
      first = ready.entries;
      mid = mid;
      turn = last_is last made mid after pass new t;
      earlier = t.first.seen;
      turns = turns_before;
      quiets = quiets_then;
      counted = counted;
      ended = refl;
      ends = record {
        called = t.made.turn.called;
        fault = fault;
        memory = λ e. short_last (t.made.short e);
        clearing = λ e. short_last (t.made.short_first e);
        kept = t.made.turn.kept;
      };
      made_is = made_is;
      stands_last = last_seen last made mid after pass new t k.first everyone;
      orders = last_leaves last made mid after pass new t k.first everyone (subst IsWhole (sym opening_was) whole);
    }

    pub served_all : (end : ServeEnd) (before later : Sheet) → SaysText end b last door pass.splits before later
        → HasServedAll (shows clock) opening end door before later old after (pass_noted b new)
    served_all end before later leaves = record {
      last = last;
      hall = one_history;
      links = each_session;
      steward = tended_all;
      store =
          told_agreed (state house new.opening new.seen) new.opening old.table after.table start (runs_of new) stays
          whole (known_seen (others_never_save new.splits new.seen others)) (sym opening_is) refl;
      text = subst (λ n. SaysText end b last door n before later) (sym splits_are) leaves;
    }

  pub still_here : new.home ≡ hall
  still_here = last_home last made mid after pass new t ∙ k.here

pub all_served : {C : Type 0} (shows : C → ℕ → Bool) (hall : TableId) (clock : C) (supply : Supply)
    (opens door : Option DoorTale) (opening : List Part) (first pass new : PassState) (old mid after : Store)
    (last : StewardEnd) (made : Supply)
    → Underway shows hall clock supply door pass [] → first ≡ first_pass hall opening
    → Tended (stand first Enough opens old) (stand pass supply door mid) → IfSome opens IsUnused → IsWhole first.opening
    → TurnsLast last made mid after pass new → (last ≡ steward.KeeperFault → Rose mid.faults after.faults)
    → mid.faults ≤ after.faults
    → (b : Bool) → (supply ≡ Short → b ≡ true) → (made ≡ Short → b ≡ true) → (end : ServeEnd) (before later : Sheet)
    → SaysText end b last door pass.splits before later
    → HasServedAll (shows clock) first.opening end door before later old after (pass_noted b new)
all_served shows hall clock supply opens door opening first pass new old mid after last made k is tended unused whole t
    fault counted b short short_last end before later leaves =
    let at : first.opening ≡ opening = ap (λ (p : PassState). p.opening) is in
    subst (λ (parts : List Part). HasServedAll (shows clock) parts end door before later old after (pass_noted b new))
    (sym at)
    (served_all shows hall clock supply opens door opening pass new old mid after last made k
    (subst (λ (p : PassState). Tended (stand p Enough opens old) (stand pass supply door mid)) is tended) unused
    (subst IsWhole at whole) t fault counted b short short_last end before later leaves)

-- `ready` couldn't be written, so no link was taken
pub unready_served : {C : Type 0} (shows : C → ℕ → Bool) (clock : C) (door : Option DoorTale) (s : Sent)
    (before later : Sheet) {hall : TableId} {opening : List Part} {first new : PassState} {old after : Store}
    {last : StewardEnd} {made : Supply}
    → first ≡ first_pass hall opening → IfSome door IsUnused → IsWhole first.opening
    → TurnsLast last made old after first new → (last ≡ steward.KeeperFault → Rose old.faults after.faults)
    → old.faults ≤ after.faults → s ≢ sent.All → Says ready_text s before later
    → HasServedAll (shows clock) first.opening (end_of door_end.Closed s last made) door before later old after
    (pass_noted (is_short made s) new)
unready_served shows clock door s before later {hall} {opening} {first} {new} {old} {after} {last} {made} is unused
    whole t fault counted unwritten ready =
    all_served shows hall clock Enough door door opening first first new old old after last made
    (kept_first shows hall clock door opening first is unused) is (tended_same (stand first Enough door old)) unused
    whole t fault counted (is_short made s) (λ e. absurd cc) (λ e. short_made made s e)
    (end_of door_end.Closed s last made) before later
    (closes_unready s last made door first.splits before later (ap (λ (p : PassState). p.splits) is) unwritten ready)

pub unready_ends : (s : Sent) (last : StewardEnd) (made : Supply) (door : ℕ) (before later : Sheet) (old after : Store)
    → s ≢ sent.All → Says ready_text s before later → (last ≡ steward.KeeperFault → Rose old.faults after.faults)
    → EndsServing (end_of door_end.Closed s last made) door door before later old after
unready_ends s last made door before later old after unwritten ready fault =
    ends_by door_end.Closed s last made door door before later old old after (λ e. absurd cc)
    (says_unready s before later unwritten ready) (omega arith) fault
