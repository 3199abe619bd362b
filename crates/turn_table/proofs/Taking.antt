-- A turn that is tried: it is taken with the part, or found busy.
use Rattle.std.proofs.Common.{◌≡◌, ◌≢◌, ℕ, ◌+◌, ◌<◌, ◌≤◌, ◌⊎◌, Bool, true, false, eqb, List, [], ◌∷◌, ◌++◌, length, set, get_or, refl, ap, sym, subst, ◌∙◌, inl, inr, ⊎_elim, arith, length-set, length-append, append-nil, eq-eqb, ne_eqb}
use Rattle.std.proofs.lemmas.List.{set-get_or, get_or-set_same, get_or-set_other}
use Rattle.std.specs.Prelude.{slice_index}
use Rattle.std.specs.Bool.{MatchBool}
use Rattle.std.specs.List.{slice_get}
use Rattle.std.specs.declared.option.Option.{Option}
use Rattle.std.specs.declared.option.Option.TheVariants.{None, Some}
use mathlib.Core.Option.{some, none}
use lib.ListN.{get_elem?}
use prog.Atomic.{either}
use Rattle.atomic_table.specs.Table.{State, Step, step, Act, keeps, takes, Allows}
use Rattle.atomic_table.proofs.Lists.{set_here, set_else}
use Rattle.histories.specs.Core.{Core, Lawful}
use Rattle.histories.specs.History.{state}
use Rattle.histories.proofs.Parts.{get_within}
use Rattle.histories.proofs.Histories.{prefix_refl, length_state}
use Rattle.turn_table.specs.declared.view.View.{View}
use Rattle.turn_table.specs.Views.{In, Holds, second_by, taken_out, tried}
use Rattle.turn_table.specs.Rule.{RuleNames, Fits, Rule, Ruled}
use Rattle.turn_table.specs.Plays.{Sat, TakesPart, TurnTakes, FindsBusy}
use Rattle.turn_table.proofs.Among.{in_append, in_front, pair_first, split_on, at_one, at_one_same, at_one_else}
use Rattle.turn_table.proofs.Owing.{renamed, moved, Owes, stays}
use Rattle.turn_table.proofs.Beginning.{some_or_none, pair_second, only_one, second_found, second_short, second_none, flight_cases, whole, count, look, holds_here}
use Rattle.std.proofs.lemmas.Bool.{cases_Bool}

module _ {P A R : Type 0} (c : Core P A R) (law : Lawful c) (opening : List P) where
  module _ (s : State (Option P) (View P A R)) (n : RuleNames A R) (id : ℕ) (v : View P A R) (rule : Rule c opening s n)
      (at : get_elem? s.views id ≡ some v) (live : v.live ≡ true) where
    f : Fits c opening n id v
    f = rule.fits id v at live

    -- a part whose turn word is 0 is held by nobody
    unheld : (k : ℕ) → k < length opening → slice_index s.words k ≡ 0 → n.holder k ≡ None
    unheld k r z =
        ⊎_elim (λ e. e) (λ t. absurd (let o = (rule.held k t.0 r t.1).0 in omega arith)) (some_or_none (n.holder k))

    -- and one whose turn word isn't 0 has it at 1
    busy_one : (k : ℕ) → k < length opening → slice_index s.words k ≢ 0 → slice_index s.words k ≡ 1
    busy_one k r nz =
        ⊎_elim (λ e. absurd (nz (rule.free k r e).0)) (λ t. (rule.held k t.0 r t.1).0) (some_or_none (n.holder k))

    module _ (k : ℕ) (p : P) (may : In k v.may) (unheld_here : Holds v k → ⊥) (nobody : n.holder k ≡ None)
        (value : slice_get (state c opening n.log) k ≡ Some p) where
      k_there : k < length opening
      k_there = f.there k may

      -- it isn't committed, since then all that may be taken is held
      pending : v.committed ≡ false
      pending = ⊎_elim (λ e. absurd (unheld_here (f.all_held e k may))) (λ e. e) (cases_Bool v.committed)

      -- where its first part may be taken, or is it, nothing else may be
      alone : (a : A) → v.flight ≡ Some a → k ≡ c.first a → v.may ≡ c.first a ∷ []
      alone a e d =
          f.first_alone a e pending (subst (λ m. In m v.may) d may) (λ h. unheld_here (subst (Holds v) (sym d) h))

      may_cases : (j : ℕ) → In j (taken_out c v k p n.log).may
          → In j v.may ⊎ ((a : A) × (v.flight ≡ Some a) × (k ≡ c.first a) × (c.second p v.number a ≡ Some j))
      may_cases j h =
          ⊎_elim inl (λ g. inr (second_found c j k p v.flight v.number g))
          (in_append j v.may (second_by c k p v.flight v.number) h)

      take_few : length (taken_out c v k p n.log).may ≤ 2
      take_few = ⊎_elim
          (λ none_flies.
          let e : second_by c k p v.flight v.number ≡ [] =
          second_none c k p v.flight v.number (λ a e d. let q : None ≡ Some a = sym none_flies ∙ e in cc) in
          subst (λ (ks : List ℕ). length ks ≤ 2) (sym (ap (λ (ks : List ℕ). v.may ++ ks) e ∙ append-nil v.may)) f.few)
          (λ t. split_on k (c.first t.0)
          (λ d.
          let e : v.may ≡ c.first t.0 ∷ [] = alone t.0 t.1 d in let l : length v.may ≡ 1 = ap length e in
          let m : length (second_by c k p v.flight v.number) ≤ 1 = second_short c k p v.flight v.number in
          let q : length (v.may ++ second_by c k p v.flight v.number)
          ≡ length v.may + length (second_by c k p v.flight v.number) =
          length-append v.may (second_by c k p v.flight v.number) in
          omega arith)
          (λ d.
          let e : second_by c k p v.flight v.number ≡ [] =
          second_none c k p v.flight v.number
          (λ a g h. let q : Some a ≡ Some t.0 = sym g ∙ t.1 in let z : a ≡ t.0 = cc in d (h ∙ ap c.first z)) in
          subst (λ (ks : List ℕ). length ks ≤ 2) (sym (ap (λ (ks : List ℕ). v.may ++ ks) e ∙ append-nil v.may)) f.few))
          (flight_cases c v.flight)

      take_allowed : (j : ℕ) (q : P) → In (j, q) (taken_out c v k p n.log).held → In j (taken_out c v k p n.log).may
      take_allowed j q (inl e) =
          in_front j v.may (second_by c k p v.flight v.number)
          (subst (λ m. In m v.may) (sym (pair_first j k q p e)) may)
      take_allowed j q (inr h) = in_front j v.may (second_by c k p v.flight v.number) (f.allowed j q h)

      take_there : (j : ℕ) → In j (taken_out c v k p n.log).may → j < length opening
      take_there j h = ⊎_elim (f.there j)
          (λ t.
          let at_first : slice_get (state c opening n.log) (c.first t.0) ≡ Some p =
          ap (slice_get (state c opening n.log)) (sym t.2) ∙ value in
          subst (λ m. j < m) (count c law opening s n id v rule at live)
          (law.second_in (state c opening n.log) v.number t.0 p j (whole c law opening s n id v rule at live)
          (f.may_fly t.0 t.1) at_first t.3).0)
          (may_cases j h)

      take_own : (j : ℕ) (q : P) → In (j, q) (taken_out c v k p n.log).held → at_one n.holder k (Some id) j ≡ Some id
      take_own j q (inl e) = at_one_same n.holder k (Some id) j (pair_first j k q p e)
      take_own j q (inr h) =
          split_on j k (λ e. at_one_same n.holder k (Some id) j e)
          (λ ne. at_one_else n.holder k (Some id) j ne ∙ f.holds_own j q h)

      take_named : (j : ℕ) (q : P) → In (j, q) (taken_out c v k p n.log).held
          → slice_get (state c opening n.log) j ≡ Some q
      take_named j q (inl e) =
          ap (slice_get (state c opening n.log)) (pair_first j k q p e)
          ∙ (value ∙ ap Some (sym (pair_second j k q p e)))
      take_named j q (inr h) = f.named j q h

      take_first_alone : (a : A) → v.flight ≡ Some a → In (c.first a) (taken_out c v k p n.log).may
          → (Holds (taken_out c v k p n.log) (c.first a) → ⊥) → k ≢ c.first a → ⊥
      take_first_alone a e i nh ne =
          let old : In (c.first a) v.may =
          ⊎_elim (λ h. h)
          (λ t.
          absurd (let q : Some a ≡ Some t.0 = sym e ∙ t.1 in let z : a ≡ t.0 = cc in ne (t.2 ∙ sym (ap c.first z))))
          (may_cases (c.first a) i) in
          ne (only_one (c.first a) v.may k (f.first_alone a e pending old (λ h. nh (h.0, inr h.1))) may)

      take_only_parts : (a : A) (q : P) → v.flight ≡ Some a → In (c.first a, q) (taken_out c v k p n.log).held → (j : ℕ)
          → In j (taken_out c v k p n.log).may → (j ≡ c.first a) ⊎ (c.second q v.number a ≡ Some j)
      take_only_parts a q e (inl d) j h =
          let kf : c.first a ≡ k = pair_first (c.first a) k q p d in
          let qp : q ≡ p = pair_second (c.first a) k q p d in
          ⊎_elim (λ old. inl (only_one (c.first a) v.may j (alone a e (sym kf)) old))
          (λ t.
          let z : a ≡ t.0 = let y : Some a ≡ Some t.0 = sym e ∙ t.1 in cc in
          inr ((λ i. c.second (qp i) v.number (z i)) ∙ t.3))
          (may_cases j h)
      take_only_parts a q e (inr d) j h =
          let ne : k ≢ c.first a = λ x. unheld_here (subst (Holds v) (sym x) (q, d)) in
          ⊎_elim (λ old. f.only_parts a q e pending d j old)
          (λ t.
          absurd (let y : Some a ≡ Some t.0 = sym e ∙ t.1 in let z : a ≡ t.0 = cc in ne (t.2 ∙ sym (ap c.first z))))
          (may_cases j h)

      take_fits : Fits c opening (renamed c opening n n.log (at_one n.holder k (Some id))) id (taken_out c v k p n.log)
      take_fits = record {
        same_opening = f.same_opening;
        seen_begins = prefix_refl n.log;
        shorter_begins = f.shorter_begins;
        own_calls = f.own_calls;
        may_fly = f.may_fly;
        holds_own = take_own;
        named = take_named;
        allowed = take_allowed;
        few = take_few;
        there = take_there;
        first_alone = λ a e pend i nh.
            absurd (split_on k (c.first a) (λ d. nh (p, inl (λ t. (sym d t, p)))) (take_first_alone a e i nh));
        only_parts = λ a q e pend. take_only_parts a q e;
        all_held = λ e. absurd (let d : true ≡ false = sym e ∙ pending in cc);
        has_numbers = f.has_numbers;
        were_drawn = f.were_drawn;
        differ = f.differ;
        joined_calls = f.joined_calls;
        counts_drawn = f.counts_drawn;
      }

      take_owes : Owes c opening s n id v (set s.words k 1) (set s.homes k none) (taken_out c v k p n.log) n.log
          (at_one n.holder k (Some id))
      take_owes = record {
        alive = live;
        same_number = refl;
        words_there = length-set s.words k 1;
        slots_there = length-set s.homes k none;
        counted = get_or-set_other s.words k (length opening) 1 0 (λ e. let r = k_there in omega arith) ∙ rule.counted;
        legal = rule.legal;
        on = prefix_refl n.log;
        quiet = λ m ne. refl;
        frame = λ m ne. refl;
        others_keep = λ m j ne h. split_on m k
            (λ e. absurd (let a : None ≡ Some j = sym nobody ∙ (ap n.holder (sym e) ∙ h) in cc))
            (λ d. at_one_else n.holder k (Some id) m d ∙ h);
        others_had = λ m j r ne h. split_on m k
            (λ e. absurd (let a : Some id ≡ Some j = sym (at_one_same n.holder k (Some id) m e) ∙ h in ne cc))
            (λ d. (sym (at_one_else n.holder k (Some id) m d) ∙ h, get_or-set_other s.words k m 1 0 d));
        free = λ m r h. split_on m k
            (λ e. absurd (let a : Some id ≡ None = sym (at_one_same n.holder k (Some id) m e) ∙ h in cc))
            (λ d.
            let old = rule.free m r (sym (at_one_else n.holder k (Some id) m d) ∙ h) in
            (get_or-set_other s.words k m 1 0 d ∙ old.0, λ q g. set_else s.homes k m none d ∙ old.1 q g));
        mine = λ m r h. split_on m k
            (λ e. (
              ap (λ i. get_or (set s.words k 1) i 0) e
                  ∙ get_or-set_same s.words k 1 0 (let t = k_there in let y = rule.words_there in omega arith),
              (p, inl (λ i. (e i, p))),
            ))
            (λ d.
            let old =
            holds_here c law opening s n id v rule at live m r (sym (at_one_else n.holder k (Some id) m d) ∙ h) in
            (get_or-set_other s.words k m 1 0 d ∙ old.0, (old.1.0, inr old.1.1)));
        out = λ m j r h. split_on m k
            (λ e.
            ap (get_elem? (set s.homes k none)) e
            ∙ set_here s.homes k none (let t = k_there in let y = rule.slots_there in omega arith))
            (λ d. set_else s.homes k m none d ∙ rule.out m j r (sym (at_one_else n.holder k (Some id) m d) ∙ h));
        fits = take_fits;
        newest = inl refl;
      }

    -- a turn word that isn't 0: the try is noted
    module _ (k : ℕ) where
      try_fits : Fits c opening (renamed c opening n n.log n.holder) id (tried v k)
      try_fits = record {
        same_opening = f.same_opening;
        seen_begins = f.seen_begins;
        shorter_begins = f.shorter_begins;
        own_calls = f.own_calls;
        may_fly = f.may_fly;
        holds_own = f.holds_own;
        named = f.named;
        allowed = f.allowed;
        few = f.few;
        there = f.there;
        first_alone = f.first_alone;
        only_parts = f.only_parts;
        all_held = f.all_held;
        has_numbers = f.has_numbers;
        were_drawn = f.were_drawn;
        differ = f.differ;
        joined_calls = f.joined_calls;
        counts_drawn = f.counts_drawn;
      }

      try_owes : Owes c opening s n id v s.words s.homes (tried v k) n.log n.holder
      try_owes = record {
        alive = live;
        same_number = refl;
        words_there = refl;
        slots_there = refl;
        counted = rule.counted;
        legal = rule.legal;
        on = prefix_refl n.log;
        quiet = λ m ne. refl;
        frame = λ m ne. refl;
        others_keep = λ m j ne h. h;
        others_had = λ m j r ne h. (h, refl);
        free = rule.free;
        mine = λ m r h. holds_here c law opening s n id v rule at live m r h;
        out = rule.out;
        fits = try_fits;
        newest = inr (refl, refl);
      }

  -- take a turn, and the part out of its slot
  module _ (id : ℕ) (me : Sat c) (live : me.0.live ≡ true) (k : ℕ) (may : In k me.0.may)
      (unheld_here : Holds me.0 k → ⊥) (slots : ℕ) (is : slots ≡ length opening) (s : State (Option P) (View P A R))
      (ruled : Ruled c opening s) (at : get_elem? s.views id ≡ some me.0) where
    abbrev TakeGoal : Bool → Type 0
    TakeGoal b = (w : View P A R) × (a : Act (Option P)) × Rattle.atomic_table.specs.Table.Valid s.homes me.1 a
        × Ruled c opening (Rattle.atomic_table.specs.Table.stepped s k (either b 1 (slice_index s.words k)) id me.1 w a)
        × MatchBool b ((p : P) × TakesPart c me k p (w, Rattle.atomic_table.specs.Table.carried_after me.1 a))
        ((slice_index s.words k ≡ 1) × FindsBusy c me k (w, Rattle.atomic_table.specs.Table.carried_after me.1 a))

    take_hit : slice_index s.words k ≡ 0 → TakeGoal true
    take_hit z =
        let n : RuleNames A R = ruled.0 in
        let rule : Rule c opening s n = ruled.1 in
        let v : View P A R = me.0 in
        let g : Fits c opening n id v = rule.fits id v at live in
        let r : k < length opening = g.there k may in
        let nobody : n.holder k ≡ None = unheld s n id v rule at live k r z in
        let found =
        get_within (state c opening n.log) k
        (let e : length (state c opening n.log) ≡ length opening = length_state c opening n.log in omega arith) in
        let p : P = found.0 in
        let value : slice_get (state c opening n.log) k ≡ Some p = found.1 in
        let home : get_elem? s.homes k ≡ some (some (Some p)) = (rule.free k r nobody).1 p value in
        let w : View P A R = taken_out c v k p n.log in
        let owes = take_owes s n id v rule at live k p may unheld_here nobody value in
        let kept =
        stays c opening s n id v (set s.words k 1) (set s.homes k none) w n.log (at_one n.holder k (Some id)) rule at
        live owes in (
          w,
          takes k (Some p),
          home,
          (renamed c opening n n.log (at_one n.holder k (Some id)), kept),
          (
            p,
            record {
              view = refl;
              slot = refl;
              looks = look c law opening s n id v rule at live;
              value = subst (λ (xs : List P). slice_get (state c xs n.log) k ≡ Some p) (sym g.same_opening) value;
              held =
                  subst (λ (xs : List P). (j : ℕ) (q : P) → In (j, q) w.held → slice_get (state c xs n.log) j ≡ Some q)
                  (sym g.same_opening) (take_named s n id v rule at live k p may unheld_here nobody value);
              few = take_few s n id v rule at live k p may unheld_here nobody value;
              allowed = take_allowed s n id v rule at live k p may unheld_here nobody value;
              there = λ j h.
                  subst (λ (xs : List P). j < length xs) (sym g.same_opening)
                  (take_there s n id v rule at live k p may unheld_here nobody value j h);
            },
          ),
        )

    take_miss : slice_index s.words k ≢ 0 → TakeGoal false
    take_miss nz =
        let n : RuleNames A R = ruled.0 in
        let rule : Rule c opening s n = ruled.1 in
        let v : View P A R = me.0 in
        let r : k < length opening = (rule.fits id v at live).there k may in
        let w : View P A R = tried v k in
        let kept =
        stays c opening s n id v s.words s.homes w n.log n.holder rule at live (try_owes s n id v rule at live k) in
        let same : set s.words k (get_or s.words k 0) ≡ s.words = set-get_or s.words k 0 in (
          w,
          keeps,
          tt,
          (
            renamed c opening n n.log n.holder,
            subst
                (λ (ws : List ℕ).
                Rule c opening (moved c opening s ws s.homes id w) (renamed c opening n n.log n.holder))
                (sym same) kept,
          ),
          (busy_one s n id v rule at live k r nz, (refl, refl)),
        )

    take_either : TakeGoal (eqb (slice_index s.words k) 0)
    take_either = split_on (slice_index s.words k) 0
        (λ e. subst TakeGoal (sym (eq-eqb (slice_index s.words k) 0 e)) (take_hit e))
        (λ ne. subst TakeGoal (sym (ne_eqb (slice_index s.words k) 0 ne)) (take_miss ne))

  pub takes_turn : (id : ℕ) (me : Sat c) → me.0.live ≡ true → (k : ℕ) → In k me.0.may → (Holds me.0 k → ⊥) → (slots : ℕ)
      → slots ≡ length opening
      → Allows (Ruled c opening) slots id me k (λ n. either (eqb n 0) 1 n) (TurnTakes c (step slots k 0 1 none) me)
  takes_turn id me live k may nh slots is s ruled there at bound = take_either id me live k may nh slots is s ruled at

module _ {P A R : Type 0} (c : Core P A R) where
  -- what a try told, by the number that it found
  pub took : (st : Step (Option P)) (m : Sat c) (found : ℕ) (m' : Sat c) → found ≡ 0 → TurnTakes c st m found m'
      → (p : P) × TakesPart c m st.word p m'
  took st m found m' e t =
      subst (λ b. MatchBool b ((p : P) × TakesPart c m st.word p m') ((found ≡ 1) × FindsBusy c m st.word m'))
      (eq-eqb found 0 e) t

  pub found_busy : (st : Step (Option P)) (m : Sat c) (found : ℕ) (m' : Sat c) → found ≢ 0 → TurnTakes c st m found m'
      → FindsBusy c m st.word m'
  found_busy st m found m' ne t =
      (subst (λ b. MatchBool b ((p : P) × TakesPart c m st.word p m') ((found ≡ 1) × FindsBusy c m st.word m'))
      (ne_eqb found 0 ne) t).1
