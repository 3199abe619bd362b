-- A table that agrees with what a session has seen still agrees once the session has made acts.
use Rattle.std.proofs.Common.{◌≡◌, ℕ, ◌<◌, ◌≤◌, ◌==◌, true, false, cond, List, [], ◌∷◌, ◌++◌, Option, None, Some, filter, map, inl, inr, set, slice_get, refl, sym, ap, subst, ◌∙◌, append_assoc, append-nil, arith}
use Rattle.std.specs.Prelude.{nat_lt}
use Rattle.std.specs.List.{AllByRecursion}
use Rattle.std.proofs.lemmas.Bool.{eqb-false, lt-ltb, le-ltb}
use Rattle.std.proofs.lemmas.List.{append_cancel_left}
use Rattle.edge_traits.specs.Calls.{Calls, Store}
use Rattle.edge_traits.specs.Pairs.{Records}
use Rattle.edge_traits.specs.declared.keeper.Kept.{Kept}
use Rattle.edge_traits.specs.declared.keeper.Kept.TheVariants as kept
use Rattle.fics_words.proofs.Each.{each-back, each-front}
use Rattle.lobby_shelf.specs.Facts.{IsShelf, OrdersRise}
use Rattle.lobby_shelf.specs.Shelf.{saved}
use Rattle.lobby_shelf.specs.Wanted.{StoreMap, table_with}
use Rattle.lobby_shelf.specs.declared.order.Order.{Order}
use Rattle.lobby_shelf.proofs.Leading.{orders-lead}
use Rattle.histories.specs.declared.entry.Entry.{Entry}
use Rattle.histories.specs.Core.{after}
use Rattle.histories.specs.History.{IsPrefix, Legal, calls_of, entry, state}
use Rattle.histories.proofs.Histories.{calls-append, calls_own, legal_front, state-append, stays_whole, steps_once, legal_back}
use Rattle.histories.proofs.Steps.{after_alone}
use Rattle.lobby_state.specs.Lobby.{LobbyState}
use Rattle.lobby_store.specs.Agreeing.{AgreesWith}
use Rattle.lobby_store.specs.Carrying.{CarriesPerhaps, held, in_doubt}
use Rattle.lobby_shelf.proofs.Leading.{same_table, table_with-append}
use Rattle.one_server.specs.declared.act.Timed.{Timed}
use Rattle.one_server.specs.declared.part.Part.{Part}
use Rattle.one_server.specs.declared.part.Part.TheVariants.{Lobby as TheLobby}
use Rattle.one_server.specs.declared.reply.Reply.{Reply}
use Rattle.one_server.specs.House.{house}
use Rattle.one_server.specs.LawfulProof.{house_lawful}
use Rattle.one_server.specs.Running.{IsKnown, Log, Made, ServerRan, RunnerState}
use Rattle.one_server.specs.Whole.{IsWhole}
use Rattle.steward_core.specs.Agreement.{AgreesSeen, IsNoOthers, NoOthersSave, SaysSaved, StaysAgreed, state_seen}
use Rattle.lobby_state.specs.declared.desk_in_use.DeskInUse.{DeskInUse}
use Rattle.steward_core.specs.Clearing.{AsksAndClears, IsClearing, IsPartOf, timed_acts_of, clears, rows_told}
use Rattle.steward_core.specs.declared.clearing.ClearingEnd.{ClearingEnd}
use Rattle.steward_core.specs.declared.clearing.ClearingEnd.TheVariants as clearing
use Rattle.steward_core.proofs.DesksCleared.{some_cleared}
use Rattle.steward_core.specs.Saving.{SavesTold, TellsUpTo, last_number, says_saved}
use Rattle.steward_core.specs.declared.saving.SaveRound.{SaveRound}
use Rattle.steward_core.specs.declared.saving.SavedTold.{SavedTold}
use Rattle.steward_core.specs.declared.saving.SavedTold.TheVariants as told
use Rattle.steward_core.proofs.OrdersTold.{StandFirst}
use Rattle.steward_core.proofs.StatesLead.{leads_log, one_lobby, put_lobby}

-- ---- lists

behind_first : {X : Type 0} → List X → List X
behind_first [] = []
behind_first (x ∷ xs) = xs

no_more : {X : Type 0} (xs : List X) (y : X) → xs ++ y ∷ [] ≡ y ∷ [] → xs ≡ []
unfolding behind_first
no_more [] y e = refl
no_more (x ∷ []) y e = let bad : y ∷ [] ≡ [] = ap behind_first e in cc
no_more (x ∷ (z ∷ xs)) y e = let bad : z ∷ (xs ++ y ∷ []) ≡ [] = ap behind_first e in cc

-- ---- histories

abbrev pub NotSaved : Entry Timed Reply → Type 0
NotSaved e = SaysSaved e.act.act → ⊥

-- neither the session nor another tells orders as saved
not_saved : (k : ℕ) (log : Log) → AllByRecursion NotSaved (calls_of k log) → AllByRecursion (IsNoOthers k) log
    → AllByRecursion NotSaved log
not_saved k [] own others = tt
not_saved k (e ∷ log) own others =
    elim (e.session == k)
    as (λ t.
    (e.session == k) ≡ t → AllByRecursion NotSaved (cond t (e ∷ calls_of k log) (calls_of k log))
    → AllByRecursion NotSaved (e ∷ log)) [
      | true ↦ λ is mine. (mine.0, not_saved k log mine.1 others.1)
      | false ↦ λ is mine. (others.0 (eqb-false e.session k is), not_saved k log mine others.1)
    ] refl own

module _ (old new : RunnerState) (entries : Log) (made : Made old entries new) where
  same_number : new.number ≡ old.number
  same_number = ap (λ (s : RunnerState). s.number) made.same

  pub same_opening : new.opening ≡ old.opening
  same_opening = ap (λ (s : RunnerState). s.opening) made.same

  calls_gained : IsKnown old → (gained : Log) → new.seen ≡ old.seen ++ gained → calls_of old.number gained ≡ entries
  calls_gained known gained is =
      append_cancel_left old.made (calls_of old.number gained) entries
      (ap (λ (l : Log). l ++ calls_of old.number gained) known.own
      ∙ sym (calls-append old.number old.seen gained)
      ∙ ap (λ (l : Log). calls_of old.number l) (sym is)
      ∙ ap (λ (n : ℕ). calls_of n new.seen) (sym same_number)
      ∙ sym made.known.own
      ∙ made.more)

  legal_gained : (gained : Log) → new.seen ≡ old.seen ++ gained → Legal house (state_seen old) gained
  legal_gained gained is =
      legal_back house old.opening old.seen gained
      (subst (λ (log : Log). Legal house old.opening log) is
      (subst (λ (parts : List Part). Legal house parts new.seen) same_opening made.known.legal))

  state_gained : (gained : Log) → new.seen ≡ old.seen ++ gained → state_seen new ≡ state house (state_seen old) gained
  state_gained gained is =
      ap (λ (parts : List Part). state house parts new.seen) same_opening
      ∙ ap (λ (log : Log). state house old.opening log) is
      ∙ state-append house old.opening old.seen gained

whole_seen : (it : RunnerState) → IsWhole it.opening → IsKnown it → IsWhole (state_seen it)
whole_seen it whole known = stays_whole house house_lawful it.opening it.seen whole known.legal

-- acts that tell no orders as saved
agrees_gained : (table : Records) (old new : RunnerState) (entries : Log) → IsWhole old.opening → IsKnown old
    → Made old entries new → AllByRecursion NotSaved entries
    → NoOthersSave old new → AgreesSeen table old → AgreesSeen table new
agrees_gained table old new entries whole known made unsaved none agreed lobby there =
    let quiet =
    not_saved old.number none.gained
    (subst (AllByRecursion NotSaved) (sym (calls_gained old new entries made known none.gained none.is)) unsaved)
    none.none in
    let r =
    (leads_log (state_seen old) none.gained (whole_seen old whole known)
    (legal_gained old new entries made none.gained none.is) quiet).0 in
    let same =
    one_lobby (state house (state_seen old) none.gained) lobby r.new
    (ap (λ (l : List Part). slice_get l 0) (sym (state_gained old new entries made none.gained none.is)) ∙ there)
    r.there_now in
    subst (AgreesWith (held table)) (sym same) (r.leads.agrees (held table) (agreed r.old r.there))

pub agreed_unsaved : (table : Option Records) (old new : RunnerState) (entries : Log) → IsKnown old
    → Made old entries new → AllByRecursion NotSaved entries
    → StaysAgreed table table old new
agreed_unsaved None old new entries known made unsaved = tt
agreed_unsaved (Some table) old new entries known made unsaved = λ whole none agreed.
    agrees_gained table old new entries whole known made unsaved none agreed

-- one thing after another
split_none : (old mid new : RunnerState) → mid.number ≡ old.number → IsPrefix old.seen mid.seen
    → IsPrefix mid.seen new.seen → NoOthersSave old new
    → NoOthersSave old mid × NoOthersSave mid new
split_none old mid new same p q none =
    let both : none.gained ≡ p.0 ++ q.0 = append_cancel_left old.seen none.gained (p.0 ++ q.0)
    (sym none.is ∙ sym q.1 ∙ ap (λ (l : Log). l ++ q.0) (sym p.1) ∙ append_assoc old.seen p.0 q.0) in
    let all = subst (AllByRecursion (IsNoOthers old.number)) both none.none in (
      record { gained = p.0; is = sym p.1; none = each-front (IsNoOthers old.number) p.0 q.0 all },
      record {
        gained = q.0;
        is = sym q.1;
        none =
            subst (λ (n : ℕ). AllByRecursion (IsNoOthers n) q.0) (sym same)
            (each-back (IsNoOthers old.number) p.0 q.0 all);
      },
    )

pub agreed_then : (t0 t1 t2 : Option Records) (s0 s1 s2 : RunnerState) (one two : Log) → Made s0 one s1 → Made s1 two s2
    → StaysAgreed t0 t1 s0 s1 → StaysAgreed t1 t2 s1 s2 → StaysAgreed t0 t2 s0 s2
agreed_then None t1 t2 s0 s1 s2 one two m n p q = tt
agreed_then (Some t0) None t2 s0 s1 s2 one two m n p q = absurd p
agreed_then (Some t0) (Some t1) None s0 s1 s2 one two m n p q = absurd q
agreed_then (Some t0) (Some t1) (Some t2) s0 s1 s2 one two m n p q = λ whole none agreed.
    let parts = split_none s0 s1 s2 (same_number s0 s1 one m) m.begins n.begins none in
    q (subst IsWhole (sym (same_opening s0 s1 one m)) whole) parts.1 (p whole parts.0 agreed)

-- ---- orders that were carried out and told as saved

-- carried out once, and to be carried out again, leads to the same
put_prefix : (t0 t1 : StoreMap) (lobby : LobbyState) (first rest : List Order) → lobby.shelf.orders ≡ first ++ rest
    → ((key : List ℕ) → t1 key ≡ table_with t0 first key)
    → AgreesWith t0 lobby → AgreesWith t1 lobby
put_prefix t0 t1 lobby first rest is holds agreed key =
    ap (λ (orders : List Order). table_with t1 orders key) is
    ∙ same_table t1 (table_with t0 first) (first ++ rest) key (holds key)
    ∙ orders-lead.again t0 first rest key
    ∙ ap (λ (orders : List Order). table_with t0 orders key) (sym is)
    ∙ agreed key

above : (upto low made : ℕ) (orders : List Order) → upto ≤ low → OrdersRise low made orders
    → filter (λ (o : Order). nat_lt upto o.number) orders ≡ orders
above upto low made [] le rise = refl
above upto low made (order ∷ orders) le rise =
    let less = rise.0 in
    ap (λ t.
    cond t (order ∷ filter (λ (o : Order). nat_lt upto o.number) orders)
    (filter (λ (o : Order). nat_lt upto o.number) orders))
    (lt-ltb upto order.number (omega (arith, less, le)))
    ∙ ap (λ (l : List Order). order ∷ l) (above upto order.number made orders (omega (arith, less, le)) rise.1)

below_last : (low made upto : ℕ) (order : Order) (first rest : List Order)
    → OrdersRise low made ((order ∷ first) ++ rest) → last_number (order ∷ first) ≡ Some upto → low < upto
below_last low made upto order [] rest rise last =
    let same : order.number ≡ upto = cc in let less = rise.0 in omega (arith, same, less)
below_last low made upto order (more ∷ first) rest rise last =
    let less = rise.0 in let later = below_last order.number made upto more first rest rise.1 last in
    omega (arith, less, later)

-- what is told as saved goes, and the rest stands
pub kept_behind : (low made upto : ℕ) (first rest : List Order) → OrdersRise low made (first ++ rest)
    → last_number first ≡ Some upto
    → filter (λ (o : Order). nat_lt upto o.number) (first ++ rest) ≡ rest
kept_behind low made upto [] rest rise last = cc
kept_behind low made upto (order ∷ []) rest rise last =
    let same : order.number ≡ upto = cc in
    ap (λ t.
    cond t (order ∷ filter (λ (o : Order). nat_lt upto o.number) rest)
    (filter (λ (o : Order). nat_lt upto o.number) rest))
    (le-ltb upto order.number (omega (arith, same)))
    ∙ above upto order.number made rest (omega (arith, same)) rise.1
kept_behind low made upto (order ∷ (more ∷ first)) rest rise last =
    let later = below_last order.number made upto more first rest rise.1 last in
    let left = filter (λ (o : Order). nat_lt upto o.number) ((more ∷ first) ++ rest) in
    ap (λ t. cond t (order ∷ left) left) (le-ltb upto order.number (omega (arith, later)))
    ∙ kept_behind order.number made upto (more ∷ first) rest rise.1 last

left_behind : (lobby : LobbyState) (first rest : List Order) (upto : ℕ) → IsShelf lobby.shelf
    → lobby.shelf.orders ≡ first ++ rest → last_number first ≡ Some upto
    → filter (λ (o : Order). nat_lt upto o.number) lobby.shelf.orders ≡ rest
left_behind lobby first rest upto shelf is last =
    ap (λ (orders : List Order). filter (λ (o : Order). nat_lt upto o.number) orders) is
    ∙ kept_behind 0 lobby.shelf.made upto first rest
    (subst (λ (orders : List Order). OrdersRise 0 lobby.shelf.made orders) is shelf.orders) last

saved_prefix : (t0 t1 : StoreMap) (lobby : LobbyState) (first rest : List Order) (upto : ℕ) → IsShelf lobby.shelf
    → lobby.shelf.orders ≡ first ++ rest → last_number first ≡ Some upto
    → ((key : List ℕ) → t1 key ≡ table_with t0 first key) → AgreesWith t0 lobby
    → AgreesWith t1 (record lobby { shelf = saved lobby.shelf upto })
saved_prefix t0 t1 lobby first rest upto shelf is last holds agreed key =
    ap (λ (orders : List Order). table_with t1 orders key) (left_behind lobby first rest upto shelf is last)
    ∙ same_table t1 (table_with t0 first) rest key (holds key)
    ∙ ap (λ (t : StoreMap). t key) (sym (table_with-append t0 first rest))
    ∙ ap (λ (orders : List Order). table_with t0 orders key) (sym is)
    ∙ agreed key

-- and where those behind the ones that were told as saved were carried out too, they are carried out once more
saved_doubt : (t0 t1 : StoreMap) (lobby : LobbyState) (first doubt rest : List Order) (upto : ℕ) → IsShelf lobby.shelf
    → lobby.shelf.orders ≡ first ++ (doubt ++ rest) → last_number first ≡ Some upto
    → ((key : List ℕ) → t1 key ≡ table_with t0 (first ++ doubt) key) → AgreesWith t0 lobby
    → AgreesWith t1 (record lobby { shelf = saved lobby.shelf upto })
saved_doubt t0 t1 lobby first doubt rest upto shelf is last holds agreed =
    put_prefix (table_with t0 first) t1 (record lobby { shelf = saved lobby.shelf upto }) doubt rest
    (left_behind lobby first (doubt ++ rest) upto shelf is last)
    (λ key. holds key ∙ ap (λ (t : StoreMap). t key) (table_with-append t0 first doubt))
    (saved_prefix t0 (table_with t0 first) lobby first (doubt ++ rest) upto shelf is last (λ key. refl) agreed)

-- the orders that a table was changed by: those carried out, and those in doubt that were carried out too
record IsPut (before after_all : Records) (carried left : List Order) : Type 0 where
  doubt : List Order
  rest : List Order
  all : left ≡ doubt ++ rest
  holds : (key : List ℕ) → held after_all key ≡ table_with (held before) (carried ++ doubt) key

put_carried : (before after_all : Records) (carried left : List Order)
    → ((key : List ℕ) → held after_all key ≡ table_with (held before) carried key)
    → IsPut before after_all carried left
put_carried before after_all carried left p = record {
  doubt = [];
  rest = left;
  all = refl;
  holds = λ key. p key ∙ ap (λ (l : List Order). table_with (held before) l key) (sym (append-nil carried));
}

is_put : (before after_all : Records) (carried left : List Order) (outcome : Kept)
    → CarriesPerhaps (Some before) (Some after_all) carried (in_doubt outcome left)
    → IsPut before after_all carried left
is_put before after_all carried left kept.Done p = put_carried before after_all carried left p
is_put before after_all carried left kept.Memory p = put_carried before after_all carried left p
is_put before after_all carried [] kept.Failed p = put_carried before after_all carried [] p
is_put before after_all carried (order ∷ left) kept.Failed (inl p) =
    put_carried before after_all carried (order ∷ left) p
is_put before after_all carried (order ∷ left) kept.Failed (inr p) =
    record { doubt = order ∷ []; rest = left; all = refl; holds = p }

-- a keeper that tells its table goes on telling it
goes_on_telling : (before : Records) (carried : List Order) (doubt : Option Order)
    → CarriesPerhaps (Some before) None carried doubt → ⊥
goes_on_telling before carried None p = p
goes_on_telling before carried (Some order) (inl p) = p
goes_on_telling before carried (Some order) (inr p) = p

module _ (moment : ℕ) (orders carried doubt left : List Order) (before after_all : Records) (old new : RunnerState)
    (known : IsKnown old) (whole : IsWhole old.opening)
    (all : orders ≡ carried ++ (doubt ++ left)) (first : StandFirst orders (state_seen old))
    (holds : (key : List ℕ) → held after_all key ≡ table_with (held before) (carried ++ doubt) key)
    (agreed : AgreesSeen before old) where
  more_behind : (one two : List Order) → (carried ++ (doubt ++ one)) ++ two ≡ carried ++ (doubt ++ (one ++ two))
  more_behind one two =
      append_assoc carried (doubt ++ one) two ∙ ap (λ (l : List Order). carried ++ l) (append_assoc doubt one two)

  stand : (lobby : LobbyState) → slice_get (state_seen old) 0 ≡ Some (TheLobby lobby)
      → (more : List Order) × (lobby.shelf.orders ≡ carried ++ (doubt ++ more))
  stand lobby there =
      let more = first.first lobby there in (
        left ++ more.0,
        more.1 ∙ ap (λ (l : List Order). l ++ more.0) all ∙ more_behind left more.0,
      )

  agreed_put : AgreesSeen after_all old
  agreed_put lobby there =
      let more = stand lobby there in
      put_prefix (held before) (held after_all) lobby (carried ++ doubt) more.0
      (more.1 ∙ sym (append_assoc carried doubt more.0)) holds (agreed lobby there)

  agreed_said : (upto : ℕ) (answer : Reply) → last_number carried ≡ Some upto
      → ServerRan old (says_saved moment upto) answer new → NoOthersSave old new → AgreesSeen after_all new
  agreed_said upto answer last ran none lobby there =
      let a = says_saved moment upto in
      let e : Entry Timed Reply = entry old.number a answer in
      let others = ran.others in
      let gained : none.gained ≡ others ++ e ∷ [] =
      append_cancel_left old.seen none.gained (others ++ e ∷ [])
      (sym none.is ∙ ran.ends ∙ append_assoc old.seen others (e ∷ [])) in
      let is : new.seen ≡ old.seen ++ (others ++ e ∷ []) = ran.ends ∙ append_assoc old.seen others (e ∷ []) in
      let mine = calls_gained old new (e ∷ []) ran.grew known (others ++ e ∷ []) is in
      let nobody = no_more (calls_of old.number others) e (sym (calls_own old.number others e refl) ∙ mine) in
      let unsaved = not_saved old.number others (subst (AllByRecursion NotSaved) (sym nobody) tt)
      (each-front (IsNoOthers old.number) others (e ∷ [])
      (subst (AllByRecursion (IsNoOthers old.number)) gained none.none)) in
      let legal =
      legal_front house (state_seen old) others (e ∷ [])
      (legal_gained old new (e ∷ []) ran.grew (others ++ e ∷ []) is) in
      let led = leads_log (state_seen old) others (whole_seen old whole known) legal unsaved in
      let r = led.0 in
      let parts = state house (state_seen old) others in
      let more = stand r.old r.there in
      let orders_now =
      r.leads.orders ∙ ap (λ (l : List Order). l ++ r.leads.more) more.1 ∙ more_behind more.0 r.leads.more in
      let same_lobby = one_lobby parts led.1.lobby r.new led.1.first r.there_now in
      let shelf = subst (λ (l : LobbyState). IsShelf l.shelf) same_lobby led.1.formed.shelf.sound in
      let after_it : LobbyState = record r.new { shelf = saved r.new.shelf upto } in
      let alone : after house parts old.number a ≡ set parts 0 (TheLobby after_it) =
      after_alone house parts old.number a (TheLobby r.new) r.there_now refl in
      let path : state_seen new ≡ after house parts old.number a =
      state_gained old new (e ∷ []) ran.grew (others ++ e ∷ []) is ∙ steps_once house (state_seen old) others e in
      let found =
      one_lobby (state_seen new) lobby after_it there
      (ap (λ (l : List Part). slice_get l 0) (path ∙ alone) ∙ put_lobby parts r.new after_it r.there_now) in
      subst (AgreesWith (held after_all)) (sym found)
      (saved_doubt (held before) (held after_all) r.new carried doubt (more.0 ++ r.leads.more) upto shelf orders_now
      last holds (r.leads.agrees (held before) (agreed r.old r.there)))

  agreed_tells : (upto : Option ℕ) (said : SavedTold) → last_number carried ≡ upto → TellsUpTo moment upto said old new
      → NoOthersSave old new → AgreesSeen after_all new
  agreed_tells None said last t none = subst (AgreesSeen after_all) (sym t.1) agreed_put
  agreed_tells (Some upto) told.Done last t none = agreed_said upto t.0 last t.1 none
  agreed_tells (Some upto) told.Memory last t none = agrees_gained after_all old new [] whole known t tt none agreed_put

-- orders that were told are carried out and told as saved, but for one in doubt, which still stands
told_agrees_at : (moment : ℕ) (end : SaveRound) (orders : List Order) (before after_all : Option Records)
    (faults faults' : ℕ) (calls calls' : Calls) (old new : RunnerState)
    → IsKnown old
    → SavesTold moment end orders (record {
      table = before;
      faults = faults;
      calls = calls;
    }) (record { table = after_all; faults = faults'; calls = calls' }) old new
    → StandFirst orders (state_seen old) → StaysAgreed before after_all old new
told_agrees_at moment end orders None after_all faults faults' calls calls' old new known s first = tt
told_agrees_at moment end orders (Some before) None faults faults' calls calls' old new known s first =
    absurd (goes_on_telling before s.carried (in_doubt s.outcome s.left) s.table)
told_agrees_at moment end orders (Some before) (Some after_all) faults faults' calls calls' old new known s
    first = λ whole none agreed.
    let put = is_put before after_all s.carried s.left s.outcome s.table in
    agreed_tells moment orders s.carried put.doubt put.rest before after_all old new known whole
    (s.all ∙ ap (λ (l : List Order). s.carried ++ l) put.all) first put.holds agreed
    (last_number s.carried) s.said refl s.tells none

pub told_agrees : (moment : ℕ) (end : SaveRound) (orders : List Order) (before after_all : Store)
    (old new : RunnerState)
    → IsKnown old
    → SavesTold moment end orders before after_all old new → StandFirst orders (state_seen old)
    → StaysAgreed before.table after_all.table old new
told_agrees moment end orders before after_all old new known s first =
    told_agrees_at moment end orders before.table after_all.table before.faults after_all.faults before.calls
    after_all.calls old new known s first

-- nothing at all
pub agreed_still : (table : Option Records) (it : RunnerState) → StaysAgreed table table it it
agreed_still None it = tt
agreed_still (Some table) it = λ whole none agreed. agreed

-- ---- clearing tells no orders as saved

unsaved_part : (moment : ℕ) (es : Log) (rows : List DeskInUse) → IsPartOf (timed_acts_of es) (map (clears moment) rows)
    → AllByRecursion NotSaved es
unsaved_part moment [] rows p = tt
unsaved_part moment (e ∷ es) [] p = absurd p
unsaved_part moment (e ∷ es) (row ∷ rows) (inl p) =
    (subst (λ (t : Timed). SaysSaved t.act → ⊥) (sym p.0) (λ bad. bad), unsaved_part moment es rows p.1)
unsaved_part moment (e ∷ es) (row ∷ rows) (inr p) = unsaved_part moment (e ∷ es) rows p

asks_unsaved : (moment : ℕ) (end : ClearingEnd) (entries : Log) → AsksAndClears end moment entries
    → AllByRecursion NotSaved entries
asks_unsaved moment end entries p =
    subst (AllByRecursion NotSaved) (sym p.all) (
      subst (λ (t : Timed). SaysSaved t.act → ⊥) (sym p.asks) (λ bad. bad),
      unsaved_part moment p.rest (rows_told p.first.reply)
          (some_cleared moment end (rows_told p.first.reply) p.rest p.clears),
    )

pub clearing_unsaved : (moment : ℕ) (end : ClearingEnd) (entries : Log) → IsClearing end moment entries
    → AllByRecursion NotSaved entries
clearing_unsaved moment clearing.Done entries p = asks_unsaved moment clearing.Done entries p
clearing_unsaved moment clearing.Memory entries (inl p) = subst (AllByRecursion NotSaved) (sym p) tt
clearing_unsaved moment clearing.Memory entries (inr p) = asks_unsaved moment clearing.Memory entries p
