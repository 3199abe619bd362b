-- What each step of a pass needs of the rule, and the beginning of an act.
use Rattle.std.proofs.Common.{◌≡◌, ◌≢◌, ℕ, ◌+◌, ◌%◌, ◌^◌, ◌<◌, ◌≤◌, ◌⊎◌, Bool, true, false, cond, eqb, List, [], ◌∷◌, length, set, get_or, refl, ap, sym, subst, ◌∙◌, inl, inr, ⊎_elim, arith, eq-eqb, ne_eqb}
use Rattle.std.proofs.lemmas.List.{set-get_or}
use Rattle.std.specs.Prelude.{slice_index}
use Rattle.std.specs.Option.{option_to_list}
use Rattle.std.specs.declared.option.Option.{Option}
use Rattle.std.specs.declared.option.Option.TheVariants.{None, Some}
use mathlib.Core.Option.{some, none, some-injective}
use lib.ListN.{get_elem?}
use Rattle.atomic_table.specs.Table.{State, step, keeps, Allows}
use Rattle.histories.specs.Core.{Core, Lawful}
use Rattle.histories.specs.History.{state, Legal}
use Rattle.histories.proofs.Histories.{prefix_refl, length_state, stays_whole}
use Rattle.turn_table.specs.declared.view.View.{View}
use Rattle.turn_table.specs.Views.{In, Holds, Looks, begun, second_by}
use Rattle.turn_table.specs.Rule.{RuleNames, Fits, Rule, Ruled}
use Rattle.turn_table.specs.Plays.{Sat, BeginsTurn}
use Rattle.turn_table.proofs.Among.{split_on}
use Rattle.turn_table.proofs.Owing.{renamed, moved, Owes, stays}

pub some_or_none : (o : Option ℕ) → (o ≡ None) ⊎ ((j : ℕ) × (o ≡ Some j))
some_or_none None = inl refl
some_or_none (Some j) = inr (j, refl)

pub one_more : (m : ℕ) → (m % 2 ^ 64 + 1) % 2 ^ 64 ≡ (m + 1) % 2 ^ 64
one_more m = omega arith

in_option : {T : Type 0} (j : T) (o : Option T) → In j (option_to_list o) → o ≡ Some j
in_option j None h = absurd h
in_option j (Some x) (inl e) = ap Some (sym e)
in_option j (Some x) (inr h) = absurd h

option_short : {T : Type 0} (o : Option T) → length (option_to_list o) ≤ 1
option_short None = omega arith
option_short (Some x) = omega arith

pub only_one : (x : ℕ) (xs : List ℕ) (k : ℕ) → xs ≡ x ∷ [] → In k xs → k ≡ x
only_one x xs k e h = ⊎_elim (λ d. d) (λ h. absurd h) (let g : In k (x ∷ []) = subst (In k) e h in g)

pub pair_second : {T U : Type 0} (a b : T) (x y : U) → ◌≡◌ {A = T × U} (a, x) (b, y) → x ≡ y
pair_second {T} {U} a b x y e = ap (λ (z : T × U). z.1) e

module _ {P A R : Type 0} (c : Core P A R) where
  -- what the second part is drawn from
  pub second_found : (j k : ℕ) (p : P) (flight : Option A) (number : ℕ) → In j (second_by c k p flight number)
      → (a : A) × (flight ≡ Some a) × (k ≡ c.first a) × (c.second p number a ≡ Some j)
  second_found j k p None number h = absurd h
  second_found j k p (Some a) number h = split_on k (c.first a)
      (λ e.
      let g : In j (option_to_list (c.second p number a)) =
      subst (λ b. In j (cond b (option_to_list (c.second p number a)) [])) (eq-eqb k (c.first a) e) h in
      (a, refl, e, in_option j (c.second p number a) g))
      (λ ne.
      absurd (let g : In j [] =
      subst (λ b. In j (cond b (option_to_list (c.second p number a)) [])) (ne_eqb k (c.first a) ne) h in g))

  short_on : (b : Bool) (o : Option ℕ) → length (cond b (option_to_list o) []) ≤ 1
  short_on true o = option_short o
  short_on false o = omega arith

  pub second_short : (k : ℕ) (p : P) (flight : Option A) (number : ℕ) → length (second_by c k p flight number) ≤ 1
  second_short k p None number = omega arith
  second_short k p (Some a) number = short_on (eqb k (c.first a)) (c.second p number a)

  -- a part that is not the first gives no second part
  pub second_none : (k : ℕ) (p : P) (flight : Option A) (number : ℕ) → ((a : A) → flight ≡ Some a → k ≢ c.first a)
      → second_by c k p flight number ≡ []
  second_none k p None number n = refl
  second_none k p (Some a) number n =
      ap (λ b. cond b (option_to_list (c.second p number a)) []) (ne_eqb k (c.first a) (n a refl))

  pub flight_cases : (flight : Option A) → (flight ≡ None) ⊎ ((a : A) × (flight ≡ Some a))
  flight_cases None = inl refl
  flight_cases (Some a) = inr (a, refl)

  -- the values of a view that holds nothing
  pub none_held : (v : View P A R) → v.held ≡ [] → (k : ℕ) → Holds v k → ⊥
  none_held v e k h = subst (In (k, h.0)) e h.1

  module _ (law : Lawful c) (opening : List P) where
    module _ (s : State (Option P) (View P A R)) (n : RuleNames A R) (id : ℕ) (v : View P A R)
        (rule : Rule c opening s n)
        (at : get_elem? s.views id ≡ some v) (live : v.live ≡ true) where
      pub fit : Fits c opening n id v
      fit = rule.fits id v at live

      pub whole : c.whole (state c opening n.log)
      whole = stays_whole c law opening n.log rule.opens_whole rule.legal

      pub count : length (state c opening n.log) ≡ length opening
      count = length_state c opening n.log

      pub look : Looks c v n.log
      look = record {
        on = fit.seen_begins;
        legal = subst (λ (xs : List P). Legal c xs n.log) (sym fit.same_opening) rule.legal;
        whole = subst (λ (xs : List P). c.whole (state c xs n.log)) (sym fit.same_opening) whole;
        own = fit.own_calls;
        joined = fit.joined_calls;
        no_others = λ e m far. rule.undrawn m (let d : v.splits ≡ n.drawn = fit.counts_drawn e in omega arith);
      }

      -- the view holds what the rule says that it holds
      pub holds_here : (k : ℕ) → k < length opening → n.holder k ≡ Some id → (slice_index s.words k ≡ 1) × Holds v k
      holds_here k r h =
          let old = rule.held k id r h in
          let same : old.1.0 ≡ v = some-injective old.1.0 v (sym old.1.1 ∙ at) in
          (old.0, subst (λ (u : View P A R). Holds u k) same old.1.2)

    -- begin
    pub begins : (a : A) → c.fits a → (id : ℕ) (me : Sat c) → me.0.live ≡ true → me.0.held ≡ [] → (slots word : ℕ)
        → Allows (Ruled c opening) slots id me word (λ n. n) (BeginsTurn c (Some a) (step slots word 0 0 none) me)
    begins a may id me live empty slots word s ruled there at bound =
        let n : RuleNames A R = ruled.0 in
        let rule : Rule c opening s n = ruled.1 in
        let v : View P A R = me.0 in
        let w : View P A R = begun c v a n.log in
        let f : Fits c opening n id v = fit s n id v rule at live in
        let first_there : c.first a < length opening =
        subst (λ m. c.first a < m) (count s n id v rule at live)
        (law.first_in (state c opening n.log) a (whole s n id v rule at live) may) in
        let g : Fits c opening (renamed c opening n n.log n.holder) id w = record {
          same_opening = f.same_opening;
          seen_begins = prefix_refl n.log;
          shorter_begins = f.shorter_begins;
          own_calls = f.own_calls;
          may_fly = λ b e. let d : a ≡ b = cc in subst c.fits d may;
          holds_own = f.holds_own;
          named = f.named;
          allowed = λ k p h. absurd (none_held v empty k (p, h));
          few = omega arith;
          there = λ k h.
              let e : k ≡ c.first a = only_one (c.first a) (c.first a ∷ []) k refl h in
              subst (λ m. m < length opening) (sym e) first_there;
          first_alone = λ b e pend i nh. let d : a ≡ b = cc in ap (λ (x : A). c.first x ∷ []) d;
          only_parts = λ b p e pend i k h. absurd (none_held v empty (c.first b) (p, i));
          all_held = λ e. absurd cc;
          has_numbers = f.has_numbers;
          were_drawn = f.were_drawn;
          differ = f.differ;
          joined_calls = f.joined_calls;
          counts_drawn = f.counts_drawn;
        } in
        let owes : Owes c opening s n id v s.words s.homes w n.log n.holder = record {
          alive = live;
          same_number = refl;
          words_there = refl;
          slots_there = refl;
          counted = rule.counted;
          legal = rule.legal;
          on = prefix_refl n.log;
          quiet = λ m ne. refl;
          frame = λ k ne. refl;
          others_keep = λ k j ne h. h;
          others_had = λ k j r ne h. (h, refl);
          free = rule.free;
          mine = λ k r h. holds_here s n id v rule at live k r h;
          out = rule.out;
          fits = g;
          newest = inl refl;
        } in
        let kept : Rule c opening (moved c opening s s.words s.homes id w) (renamed c opening n n.log n.holder) =
        stays c opening s n id v s.words s.homes w n.log n.holder rule at live owes in
        let same : set s.words word (get_or s.words word 0) ≡ s.words = set-get_or s.words word 0 in (
          w,
          keeps,
          tt,
          (
            renamed c opening n n.log n.holder,
            subst
                (λ (ws : List ℕ).
                Rule c opening (moved c opening s ws s.homes id w) (renamed c opening n n.log n.holder))
                (sym same) kept,
          ),
          (
            refl,
            refl,
            look s n id v rule at live,
            subst (λ (xs : List P). c.first a < length xs) (sym f.same_opening) first_there,
          ),
        )
