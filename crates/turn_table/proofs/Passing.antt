-- Splitting a pass, joining two, and closing the table.
use Rattle.std.proofs.Common.{◌≡◌, ◌≢◌, ℕ, zero, suc, ◌+◌, ◌<◌, ◌≤◌, ◌⊎◌, Bool, true, false, cond, eqb, ltb, List, [], ◌∷◌, ◌++◌, map, length, set, refl, ap, sym, subst, ◌∙◌, inl, inr, ⊎_elim, arith, length-set, eq-eqb, ne_eqb}
use Rattle.std.proofs.lemmas.Bool.{ltb-true, ltb-false, lt-ltb, le-ltb, cases_Bool}
use Rattle.std.specs.Prelude.{slice_index, nat_lt}
use Rattle.std.specs.List.{slice_get}
use Rattle.std.specs.declared.option.Option.{Option}
use Rattle.std.specs.declared.option.Option.TheVariants.{None, Some}
use mathlib.Core.Option.{some, some-injective, some-ne-none}
use lib.ListN.{get_elem?}
use Rattle.atomic_table.specs.Table.{State, Splits, Joins, Final, Seen, opening as table_opening}
use Rattle.atomic_table.proofs.Lists.{at_set, set_here, set_else, at_longer}
use Rattle.histories.specs.Core.{Core, Lawful}
use Rattle.histories.specs.History.{IsPrefix, calls_of, state, Legal}
use Rattle.histories.proofs.Parts.{slice_get_length}
use Rattle.histories.proofs.Histories.{prefix_refl, prefix_whole, prefix_length, length_state}
use Rattle.turn_table.specs.declared.view.Joined.{Joined}
use Rattle.turn_table.specs.declared.view.View.{View}
use Rattle.turn_table.specs.Views.{In, Distinct, Holds, numbers_of, joined_number, divided, split_from, as_joined, merged, spent_view, new_view}
use Rattle.turn_table.specs.Rule.{RuleNames, Fits, Rule, Ruled}
use Rattle.turn_table.proofs.Among.{in_append, split_on, at_one, at_one_same, at_one_else, at_length}
use Rattle.turn_table.proofs.Beginning.{some_or_none, none_held}
use Rattle.std.proofs.lemmas.List.{map-append, length-map}

pub split_lt : (m n : ℕ) {X : Type 0} → (m < n → X) → (n ≤ m → X) → X
split_lt m n below else = ⊎_elim (λ e. below (ltb-true m n e)) (λ e. else (ltb-false m n e)) (cases_Bool (ltb m n))

at_end : {X : Type 0} (l : List X) (a b : X) (j : ℕ) → get_elem? (l ++ a ∷ []) j ≡ some b
    → (get_elem? l j ≡ some b) ⊎ ((j ≡ length l) × (a ≡ b))
at_end [] a b zero e = inr (refl, some-injective a b e)
at_end [] a b (suc j) e = inl e
at_end (x ∷ xs) a b zero e = inl e
at_end (x ∷ xs) a b (suc j) e = ⊎_elim inl (λ t. inr (ap suc t.0, t.1)) (at_end xs a b j e)

distinct_append : (xs ys : List ℕ) → Distinct xs → Distinct ys → ((m : ℕ) → In m xs → In m ys → ⊥) → Distinct (xs ++ ys)
distinct_append [] ys d e n = e
distinct_append (x ∷ xs) ys d e n =
    (λ h. ⊎_elim d.0 (n x (inl refl)) (in_append x xs ys h), distinct_append xs ys d.1 e (λ m i. n m (inr i)))

module _ {P A R : Type 0} (c : Core P A R) (law : Lawful c) (opening : List P) where
  -- two live views at different places have no number in common
  numbers_apart : (s : State (Option P) (View P A R)) (n : RuleNames A R) → Rule c opening s n
      → (i j : ℕ) (u v : View P A R) → get_elem? s.views i ≡ some u → get_elem? s.views j ≡ some v → u.live ≡ true
      → v.live ≡ true → (m : ℕ) → In m (numbers_of u) → In m (numbers_of v) → i ≡ j
  numbers_apart s n rule i j u v at_u at_v live_u live_v m hu hv =
      let a : n.owner m ≡ Some i = (rule.fits i u at_u live_u).has_numbers m hu in
      let b : n.owner m ≡ Some j = (rule.fits j v at_v live_v).has_numbers m hv in
      let d : Some i ≡ Some j = sym a ∙ b in cc

  -- split
  module _ (s : State (Option P) (View P A R)) (n : RuleNames A R) (id : ℕ) (v : View P A R) (rule : Rule c opening s n)
      (at : get_elem? s.views id ≡ some v) (live : v.live ≡ true) (first : v.number ≡ 0) where
    f : Fits c opening n id v
    f = rule.fits id v at live

    drawn_is : v.splits ≡ n.drawn
    drawn_is = f.counts_drawn first

    abbrev after : RuleNames A R
    after =
        record {
          log = n.log;
          holder = n.holder;
          owner = at_one n.owner (n.drawn + 1) (Some (length s.views));
          drawn = n.drawn + 1;
        }

    abbrev cut : State (Option P) (View P A R)
    cut = record { words = s.words; homes = s.homes; views = set s.views id (divided v) ++ split_from v ∷ [] }

    owner_stays : (m j : ℕ) → m ≤ n.drawn → n.owner m ≡ Some j → after.owner m ≡ Some j
    owner_stays m j le e = at_one_else n.owner (n.drawn + 1) (Some (length s.views)) m (λ d. omega arith) ∙ e

    old_fits : (j : ℕ) (u : View P A R) → Fits c opening n j u → (u.number ≡ 0 → ⊥) → Fits c opening after j u
    old_fits j u g not_first = record {
      same_opening = g.same_opening;
      seen_begins = g.seen_begins;
      shorter_begins = g.shorter_begins;
      own_calls = g.own_calls;
      may_fly = g.may_fly;
      holds_own = g.holds_own;
      named = g.named;
      allowed = g.allowed;
      few = g.few;
      there = g.there;
      first_alone = g.first_alone;
      only_parts = g.only_parts;
      all_held = g.all_held;
      has_numbers = λ m h. owner_stays m j (g.were_drawn m h) (g.has_numbers m h);
      were_drawn = λ m h. let d = g.were_drawn m h in omega arith;
      differ = g.differ;
      joined_calls = g.joined_calls;
      counts_drawn = λ e. absurd (not_first e);
    }

    own_fits : Fits c opening after id (divided v)
    own_fits = record {
      same_opening = f.same_opening;
      seen_begins = f.seen_begins;
      shorter_begins = f.shorter_begins;
      own_calls = f.own_calls;
      may_fly = f.may_fly;
      holds_own = f.holds_own;
      named = f.named;
      allowed = f.allowed;
      few = f.few;
      there = f.there;
      first_alone = f.first_alone;
      only_parts = f.only_parts;
      all_held = f.all_held;
      has_numbers = λ m h. owner_stays m id (f.were_drawn m h) (f.has_numbers m h);
      were_drawn = λ m h. let d = f.were_drawn m h in omega arith;
      differ = f.differ;
      joined_calls = f.joined_calls;
      counts_drawn = λ e. ap (λ k. k + 1) drawn_is;
    }

    only_number : (m : ℕ) → In m (numbers_of (split_from v)) → m ≡ n.drawn + 1
    only_number m (inl e) = e ∙ ap (λ k. k + 1) drawn_is
    only_number m (inr h) = absurd h

    new_fits : Fits c opening after (length s.views) (split_from v)
    new_fits = record {
      same_opening = f.same_opening;
      seen_begins = f.seen_begins;
      shorter_begins = (n.log, refl);
      own_calls = rule.undrawn (v.splits + 1) (let d = drawn_is in omega arith);
      may_fly = λ a e. absurd cc;
      holds_own = λ k p h. absurd h;
      named = λ k p h. absurd h;
      allowed = λ k p h. absurd h;
      few = omega arith;
      there = λ k h. absurd h;
      first_alone = λ a e. absurd cc;
      only_parts = λ a p e. absurd cc;
      all_held = λ e. absurd cc;
      has_numbers = λ m h. at_one_same n.owner (n.drawn + 1) (Some (length s.views)) m (only_number m h);
      were_drawn = λ m h. let e = only_number m h in omega arith;
      differ = (λ h. h, tt);
      joined_calls = λ j h. absurd h;
      counts_drawn = λ e. absurd (omega arith);
    }

    id_there : id < length s.views
    id_there = at_length s.views id v at

    own_at : get_elem? (set s.views id (divided v) ++ split_from v ∷ []) id ≡ some (divided v)
    own_at =
        at_longer (set s.views id (divided v)) (split_from v ∷ []) id (divided v)
        (set_here s.views id (divided v) id_there)

    else_at : (j : ℕ) (u : View P A R) → j ≢ id → get_elem? s.views j ≡ some u
        → get_elem? (set s.views id (divided v) ++ split_from v ∷ []) j ≡ some u
    else_at j u ne there =
        at_longer (set s.views id (divided v)) (split_from v ∷ []) j u (set_else s.views id j (divided v) ne ∙ there)

    here : (j : ℕ) (u : View P A R) → j ≡ id → get_elem? s.views j ≡ some u → u ≡ v
    here j u e there = some-injective u v (sym there ∙ (ap (get_elem? s.views) e ∙ at))

    -- what a view of the table after the split is
    cases : (j : ℕ) (u : View P A R) → get_elem? (set s.views id (divided v) ++ split_from v ∷ []) j ≡ some u
        → ((j ≡ id) × (divided v ≡ u))
        ⊎ (((j ≢ id) × (get_elem? s.views j ≡ some u)) ⊎ ((j ≡ length s.views) × (split_from v ≡ u)))
    cases j u there = ⊎_elim
        (λ e. ⊎_elim inl (λ t. inr (inl t)) (at_set s.views id j (divided v) u e))
        (λ t. inr (inr (t.0 ∙ length-set s.views id (divided v), t.1)))
        (at_end (set s.views id (divided v)) (split_from v) u j there)

    split_kept : Rule c opening cut after
    split_kept = record {
      words_there = rule.words_there;
      slots_there = rule.slots_there;
      opens_whole = rule.opens_whole;
      counted = rule.counted;
      legal = rule.legal;
      free = rule.free;
      held = λ k j r h. let old = rule.held k j r h in (
        old.0,
        split_on j id
            (λ e.
            let same : old.1.0 ≡ v = here j old.1.0 e old.1.1 in (
              divided v,
              ap (get_elem? (set s.views id (divided v) ++ split_from v ∷ [])) e ∙ own_at,
              subst (λ (x : View P A R). Holds x k) same old.1.2,
            ))
            (λ ne. (old.1.0, else_at j old.1.0 ne old.1.1, old.1.2)),
      );
      out = rule.out;
      fits = λ j u there alive. ⊎_elim
          (λ t.
          subst (λ (x : View P A R). Fits c opening after j x) t.1
          (subst (λ i. Fits c opening after i (divided v)) (sym t.0) own_fits))
          (⊎_elim
          (λ t.
          old_fits j u (rule.fits j u t.1 alive)
          (λ e. t.0 (numbers_apart s n rule j id u v t.1 at alive live 0 (inl (sym e)) (inl (sym first)))))
          (λ t.
          subst (λ (x : View P A R). Fits c opening after j x) t.1
          (subst (λ i. Fits c opening after i (split_from v)) (sym t.0) new_fits)))
          (cases j u there);
      spent_holds_none = λ j u there dead. ⊎_elim
          (λ t.
          absurd (let a : v.live ≡ u.live =
          ap (λ (x : View P A R). x.live) t.1 in let e : true ≡ false = sym live ∙ (a ∙ dead) in cc))
          (⊎_elim
          (λ t. rule.spent_holds_none j u t.1 dead)
          (λ t.
          absurd
          (let a : true ≡ u.live = ap (λ (x : View P A R). x.live) t.1 in let e : true ≡ false = a ∙ dead in cc)))
          (cases j u there);
      newest = let old = rule.newest in split_on old.0 id
          (λ e.
          let same : old.1 ≡ v = here old.0 old.1 e old.2 in
          (id, divided v, own_at, live, ap (λ (x : View P A R). x.seen) (sym same) ∙ old.4))
          (λ ne. (old.0, old.1, else_at old.0 old.1 ne old.2, old.3, old.4));
      undrawn = λ m far. rule.undrawn m (omega arith);
    }

  pub splits : (id : ℕ) (v : View P A R) → v.live ≡ true → v.number ≡ 0
      → Splits (Ruled c opening) id v (divided v) (split_from v)
  splits id v live first s ruled there =
      (after s ruled.0 id v ruled.1 there live first, split_kept s ruled.0 id v ruled.1 there live first)

  -- join
  module _ (s : State (Option P) (View P A R)) (n : RuleNames A R) (id : ℕ) (v : View P A R) (other : ℕ)
      (w : View P A R)
      (rule : Rule c opening s n) (at : get_elem? s.views id ≡ some v) (ne : other ≢ id)
      (at_w : get_elem? s.views other ≡ some w)
      (live : v.live ≡ true) (live_w : w.live ≡ true) (empty : v.held ≡ []) (empty_w : w.held ≡ []) where
    f1 : Fits c opening n id v
    f1 = rule.fits id v at live

    f2 : Fits c opening n other w
    f2 = rule.fits other w at_w live_w

    moved_to : Option ℕ → Option ℕ
    moved_to None = None
    moved_to (Some j) = cond (eqb j other) (Some id) (Some j)

    abbrev joint : RuleNames A R
    joint = record { log = n.log; holder = n.holder; owner = λ m. moved_to (n.owner m); drawn = n.drawn }

    abbrev both : View P A R
    both = merged v w

    abbrev met : State (Option P) (View P A R)
    met = record { words = s.words; homes = s.homes; views = set (set s.views id both) other spent_view }

    other_owner : (m j : ℕ) → n.owner m ≡ Some j → j ≢ other → moved_to (n.owner m) ≡ Some j
    unfolding moved_to
    other_owner m j e d = ap moved_to e ∙ ap (λ b. cond b (Some id) (Some j)) (ne_eqb j other d)

    new_owner : (m : ℕ) → n.owner m ≡ Some other → moved_to (n.owner m) ≡ Some id
    unfolding moved_to
    new_owner m e = ap moved_to e ∙ ap (λ b. cond b (Some id) (Some other)) (eq-eqb other other refl)

    numbers_both : numbers_of both ≡ numbers_of v ++ numbers_of w
    numbers_both = ap (λ ks. v.number ∷ ks) (map-append joined_number v.joined (as_joined w ∷ w.joined))

    number_cases : (m : ℕ) → In m (numbers_of both) → In m (numbers_of v) ⊎ In m (numbers_of w)
    number_cases m h = in_append m (numbers_of v) (numbers_of w) (subst (In m) numbers_both h)

    either_seen : (b : Bool) → IsPrefix (cond b w.seen v.seen) n.log
    either_seen true = f2.seen_begins
    either_seen false = f1.seen_begins

    either_shorter : (b : Bool) → IsPrefix (cond b v.seen w.seen) n.log
    either_shorter true = f1.seen_begins
    either_shorter false = f2.seen_begins

    both_fits : Fits c opening joint id both
    both_fits = record {
      same_opening = f1.same_opening;
      seen_begins = either_seen (nat_lt (length v.seen) (length w.seen));
      shorter_begins = either_shorter (nat_lt (length v.seen) (length w.seen));
      own_calls = f1.own_calls;
      may_fly = f1.may_fly;
      holds_own = f1.holds_own;
      named = f1.named;
      allowed = f1.allowed;
      few = f1.few;
      there = f1.there;
      first_alone = f1.first_alone;
      only_parts = f1.only_parts;
      all_held = f1.all_held;
      has_numbers = λ m h. ⊎_elim
          (λ i. other_owner m id (f1.has_numbers m i) (λ e. ne (sym e)))
          (λ i. new_owner m (f2.has_numbers m i))
          (number_cases m h);
      were_drawn = λ m h. ⊎_elim (f1.were_drawn m) (f2.were_drawn m) (number_cases m h);
      differ =
          subst Distinct (sym numbers_both)
          (distinct_append (numbers_of v) (numbers_of w) f1.differ f2.differ
          (λ m i j. ne (numbers_apart s n rule other id w v at_w at live_w live m j i)));
      joined_calls = λ j h. ⊎_elim
          (f1.joined_calls j)
          (⊎_elim
          (λ e.
          let d : j.number ≡ w.number = ap (λ (x : Joined A R). x.number) e in
          let g : j.calls ≡ w.made = ap (λ (x : Joined A R). x.calls) e in
          ap (λ m. calls_of m n.log) d ∙ (f2.own_calls ∙ sym g))
          (f2.joined_calls j))
          (in_append j v.joined (as_joined w ∷ w.joined) h);
      counts_drawn = f1.counts_drawn;
    }

    else_fits : (j : ℕ) (u : View P A R) → j ≢ other → Fits c opening n j u → Fits c opening joint j u
    else_fits j u d g = record {
      same_opening = g.same_opening;
      seen_begins = g.seen_begins;
      shorter_begins = g.shorter_begins;
      own_calls = g.own_calls;
      may_fly = g.may_fly;
      holds_own = g.holds_own;
      named = g.named;
      allowed = g.allowed;
      few = g.few;
      there = g.there;
      first_alone = g.first_alone;
      only_parts = g.only_parts;
      all_held = g.all_held;
      has_numbers = λ m h. other_owner m j (g.has_numbers m h) d;
      were_drawn = g.were_drawn;
      differ = g.differ;
      joined_calls = g.joined_calls;
      counts_drawn = g.counts_drawn;
    }

    join_cases : (j : ℕ) (u : View P A R) → get_elem? (set (set s.views id both) other spent_view) j ≡ some u
        → ((j ≡ other) × (spent_view ≡ u))
        ⊎ (((j ≡ id) × (both ≡ u)) ⊎ ((j ≢ other) × (j ≢ id) × (get_elem? s.views j ≡ some u)))
    join_cases j u there = ⊎_elim inl
        (λ t. ⊎_elim (λ r. inr (inl r)) (λ r. inr (inr (t.0, r.0, r.1))) (at_set s.views id j both u t.1))
        (at_set (set s.views id both) other j spent_view u there)

    both_at : get_elem? (set (set s.views id both) other spent_view) id ≡ some both
    both_at =
        set_else (set s.views id both) other id spent_view (λ e. ne (sym e))
        ∙ set_here s.views id both (at_length s.views id v at)

    third_at : (j : ℕ) (u : View P A R) → j ≢ other → j ≢ id → get_elem? s.views j ≡ some u
        → get_elem? (set (set s.views id both) other spent_view) j ≡ some u
    third_at j u d e there =
        set_else (set s.views id both) other j spent_view d ∙ (set_else s.views id j both e ∙ there)

    at_one_place : (j i : ℕ) (u x : View P A R) → j ≡ i → get_elem? s.views j ≡ some u → get_elem? s.views i ≡ some x
        → u ≡ x
    at_one_place j i u x e there here = some-injective u x (sym there ∙ (ap (get_elem? s.views) e ∙ here))

    longer_first : v.seen ≡ n.log → both.seen ≡ n.log
    longer_first e =
        let p : length w.seen ≤ length n.log = prefix_length w.seen n.log f2.seen_begins in
        let l : length v.seen ≡ length n.log = ap length e in
        ap (λ b. cond b w.seen v.seen) (le-ltb (length v.seen) (length w.seen) (omega arith)) ∙ e

    longer_second : w.seen ≡ n.log → both.seen ≡ n.log
    longer_second e = split_lt (length v.seen) (length w.seen)
        (λ lt. ap (λ b. cond b w.seen v.seen) (lt-ltb (length v.seen) (length w.seen) lt) ∙ e)
        (λ le.
        ap (λ b. cond b w.seen v.seen) (le-ltb (length v.seen) (length w.seen) le)
        ∙ prefix_whole v.seen n.log f1.seen_begins (let l : length w.seen ≡ length n.log = ap length e in omega arith))

    join_kept : Rule c opening met joint
    join_kept = record {
      words_there = rule.words_there;
      slots_there = rule.slots_there;
      opens_whole = rule.opens_whole;
      counted = rule.counted;
      legal = rule.legal;
      free = rule.free;
      held = λ k j r h. let old = rule.held k j r h in (
        old.0,
        split_on j other
            (λ e.
            absurd (none_held c w empty_w k
            (subst (λ (x : View P A R). Holds x k) (at_one_place j other old.1.0 w e old.1.1 at_w) old.1.2)))
            (λ d. split_on j id
            (λ e.
            absurd (none_held c v empty k
            (subst (λ (x : View P A R). Holds x k) (at_one_place j id old.1.0 v e old.1.1 at) old.1.2)))
            (λ e. (old.1.0, third_at j old.1.0 d e old.1.1, old.1.2))),
      );
      out = rule.out;
      fits = λ j u there alive. ⊎_elim
          (λ t.
          absurd
          (let a : false ≡ u.live = ap (λ (x : View P A R). x.live) t.1 in let e : false ≡ true = a ∙ alive in cc))
          (⊎_elim
          (λ t.
          subst (λ (x : View P A R). Fits c opening joint j x) t.1
          (subst (λ i. Fits c opening joint i both) (sym t.0) both_fits))
          (λ t. else_fits j u t.0 (rule.fits j u t.2 alive)))
          (join_cases j u there);
      spent_holds_none = λ j u there dead. ⊎_elim
          (λ t. ap (λ (x : View P A R). x.held) (sym t.1))
          (⊎_elim
          (λ t.
          absurd (let a : v.live ≡ u.live =
          ap (λ (x : View P A R). x.live) t.1 in let e : true ≡ false = sym live ∙ (a ∙ dead) in cc))
          (λ t. rule.spent_holds_none j u t.2 dead))
          (join_cases j u there);
      newest = let old = rule.newest in split_on old.0 other
          (λ e.
          let same : old.1 ≡ w = at_one_place old.0 other old.1 w e old.2 at_w in
          (id, both, both_at, live, longer_second (ap (λ (x : View P A R). x.seen) (sym same) ∙ old.4)))
          (λ d. split_on old.0 id
          (λ e.
          let same : old.1 ≡ v = at_one_place old.0 id old.1 v e old.2 at in
          (id, both, both_at, live, longer_first (ap (λ (x : View P A R). x.seen) (sym same) ∙ old.4)))
          (λ e. (old.0, old.1, third_at old.0 old.1 d e old.2, old.3, old.4)));
      undrawn = rule.undrawn;
    }

  pub joins : (id : ℕ) (v : View P A R) (other : ℕ) (w : View P A R) → v.live ≡ true → w.live ≡ true → v.held ≡ []
      → w.held ≡ [] → Joins (Ruled c opening) id v other w (merged v w) spent_view
  joins id v other w live live_w empty empty_w s ruled there ne at_w =
      let here : get_elem? s.views other ≡ some w = sym (set_else s.views id other (merged v w) ne) ∙ at_w in (
        joint s ruled.0 id v other w ruled.1 there ne here live live_w empty empty_w,
        join_kept s ruled.0 id v other w ruled.1 there ne here live live_w empty empty_w,
      )

  -- the table when it opens
  homes_of : (xs : List P) (k : ℕ) (p : P) → slice_get xs k ≡ Some p
      → get_elem? (map some (map Some xs)) k ≡ some (some (Some p))
  homes_of [] k p e = absurd cc
  homes_of (x ∷ xs) zero p e = ap (λ (y : Option P). some (some y)) e
  homes_of (x ∷ xs) (suc k) p e = homes_of xs k p e

  only_view : (v u : View P A R) (j : ℕ) → get_elem? (v ∷ []) j ≡ some u → (j ≡ 0) × (v ≡ u)
  only_view v u zero e = (refl, some-injective v u e)
  only_view v u (suc j) e = absurd (some-ne-none u (sym e))

  pub opens : (words : List ℕ) (slots : List (Option P)) → c.whole opening → length words ≡ length opening + 1
      → ((k : ℕ) → slice_index words k ≡ 0) → slots ≡ map Some opening
      → Ruled c opening (table_opening words slots (new_view opening))
  opens words slots whole long zeros is =
      let n : RuleNames A R = record { log = []; holder = λ k. None; owner = λ m. Some 0; drawn = 0 } in
      let first : Fits c opening n 0 (new_view opening) = record {
        same_opening = refl;
        seen_begins = prefix_refl [];
        shorter_begins = prefix_refl [];
        own_calls = refl;
        may_fly = λ a e. absurd cc;
        holds_own = λ k p h. absurd h;
        named = λ k p h. absurd h;
        allowed = λ k p h. absurd h;
        few = omega arith;
        there = λ k h. absurd h;
        first_alone = λ a e. absurd cc;
        only_parts = λ a p e. absurd cc;
        all_held = λ e. absurd cc;
        has_numbers = λ m h. ⊎_elim (λ e. refl) (λ i. absurd i) h;
        were_drawn = λ m h. ⊎_elim (λ e. omega arith) (λ i. absurd i) h;
        differ = (λ h. h, tt);
        joined_calls = λ j h. absurd h;
        counts_drawn = λ e. refl;
      } in (
        n,
        record {
          words_there = long;
          slots_there =
              ap (λ (xs : List (Option P)). length (map some xs)) is
              ∙ (length-map (map Some opening) some ∙ length-map opening Some);
          opens_whole = whole;
          counted = zeros (length opening);
          legal = tt;
          free = λ k r e.
              (zeros k, λ p h. ap (λ (xs : List (Option P)). get_elem? (map some xs) k) is ∙ homes_of opening k p h);
          held = λ k id r e. absurd cc;
          out = λ k id r e. absurd cc;
          fits = λ j u there alive.
              let t = only_view (new_view opening) u j there in
              subst (λ (x : View P A R). Fits c opening n j x) t.1
              (subst (λ i. Fits c opening n i (new_view opening)) (sym t.0) first);
          spent_holds_none = λ j u there dead.
              ap (λ (x : View P A R). x.held) (sym (only_view (new_view opening) u j there).1);
          newest = (0, new_view opening, refl, refl, refl);
          undrawn = λ m far. refl;
        },
      )

  -- the table when it closes, and only the first pass is live
  pub record Closes (v : View P A R) (slots : List (Option P)) : Type 0 where
    pub same_opening : v.opening ≡ opening
    pub legal : Legal c opening v.seen
    pub long : length slots ≡ length opening
    pub parts : (k : ℕ) (p : P) → slice_get (state c opening v.seen) k ≡ Some p → get_elem? slots k ≡ some (Some p)
    pub own : calls_of 0 v.seen ≡ v.made
    pub joined : (j : Joined A R) → In j v.joined → calls_of j.number v.seen ≡ j.calls
    pub others : (m : ℕ) → v.splits < m → calls_of m v.seen ≡ []

  pub closes : (id : ℕ) (v : View P A R) (words : List ℕ) (slots : List (Option P)) → v.live ≡ true → v.number ≡ 0
      → v.held ≡ [] → ((m : ℕ) → 0 < m → m ≤ v.splits → In m (map joined_number v.joined))
      → Final (Seen (Ruled c opening) id v) words slots → Closes v slots
  closes id v words slots live first empty all_joined last =
      let s : State (Option P) (View P A R) = last.0 in
      let n : RuleNames A R = last.1.0.0 in
      let rule : Rule c opening s n = last.1.0.1 in
      let at : get_elem? s.views id ≡ some v = last.1.1 in
      let g : Fits c opening n id v = rule.fits id v at live in
      let drawn : v.splits ≡ n.drawn = g.counts_drawn first in
      -- another live view's number was split, so it was joined
      let alone : (j : ℕ) (u : View P A R) → get_elem? s.views j ≡ some u → u.live ≡ true → j ≡ id = λ j u there alive.
      let h : u.number ≤ n.drawn = (rule.fits j u there alive).were_drawn u.number (inl refl) in
      split_on u.number 0
      (λ e. numbers_apart s n rule j id u v there at alive live 0 (inl (sym e)) (inl (sym first)))
      (λ ne.
      numbers_apart s n rule j id u v there at alive live u.number (inl refl)
      (inr (all_joined u.number (omega arith) (omega arith)))) in
      let seen_all : v.seen ≡ n.log =
      let old = rule.newest in
      let here : old.0 ≡ id = alone old.0 old.1 old.2 old.3 in
      let same : old.1 ≡ v = some-injective old.1 v (sym old.2 ∙ (ap (get_elem? s.views) here ∙ at)) in
      ap (λ (x : View P A R). x.seen) (sym same) ∙ old.4 in
      let nobody : (k : ℕ) → k < length opening → n.holder k ≡ None = λ k r. ⊎_elim (λ e. e)
      (λ t. absurd (let old = (rule.held k t.0 r t.1).1 in ⊎_elim
      (λ alive.
      let here : t.0 ≡ id = alone t.0 old.0 old.1 alive in
      let same : old.0 ≡ v = some-injective old.0 v (sym old.1 ∙ (ap (get_elem? s.views) here ∙ at)) in
      none_held c v empty k (subst (λ (x : View P A R). Holds x k) same old.2))
      (λ dead. none_held c old.0 (rule.spent_holds_none t.0 old.0 old.1 dead) k old.2)
      (cases_Bool old.0.live)))
      (some_or_none (n.holder k)) in
      record {
        same_opening = g.same_opening;
        legal = subst (Legal c opening) (sym seen_all) rule.legal;
        long = sym last.3 ∙ rule.slots_there;
        parts = λ k p e.
            let d : slice_get (state c opening n.log) k ≡ Some p =
            ap (λ es. slice_get (state c opening es) k) (sym seen_all) ∙ e in
            let r : k < length opening =
            let h = slice_get_length (state c opening n.log) k p d in
            let l : length (state c opening n.log) ≡ length opening = length_state c opening n.log in omega arith in
            last.4 k (Some p) ((rule.free k r (nobody k r)).1 p d);
        own = ap (calls_of 0) seen_all ∙ (ap (λ m. calls_of m n.log) (sym first) ∙ g.own_calls);
        joined = λ j h. ap (calls_of j.number) seen_all ∙ g.joined_calls j h;
        others = λ m far. ap (calls_of m) seen_all ∙ rule.undrawn m (omega arith);
      }
