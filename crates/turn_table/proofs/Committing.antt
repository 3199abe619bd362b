-- A commit.
use Rattle.std.proofs.Common.{◌≡◌, ◌≢◌, ℕ, ◌+◌, ◌%◌, ◌^◌, ◌<◌, ◌⊎◌, true, cond, List, [], ◌∷◌, ◌++◌, map, length, set, refl, ap, sym, subst, ◌∙◌, inl, inr, ⊎_elim, arith, length-set, length-append, eq-eqb, ne_eqb}
use Rattle.std.proofs.lemmas.List.{get_or-set_same, get_or-set_other}
use Rattle.std.specs.Prelude.{slice_index}
use Rattle.std.specs.List.{slice_get}
use Rattle.std.specs.Option.{option_and_then}
use Rattle.std.specs.declared.option.Option.{Option}
use Rattle.std.specs.declared.option.Option.TheVariants.{None, Some}
use mathlib.Core.Option.{some, none}
use lib.ListN.{get_elem?}
use Rattle.atomic_table.specs.Table.{State, step, keeps, Allows}
use Rattle.histories.specs.declared.entry.Entry.{Entry}
use Rattle.histories.specs.Core.{Core, Lawful, second_of, reply, after}
use Rattle.histories.specs.History.{calls_of, state, Legal}
use Rattle.histories.proofs.Parts.{get_set_same, get_set_else, slice_get_length}
use Rattle.histories.proofs.Steps.{leaves_others, after_alone, after_together, reply_alone, reply_together}
use Rattle.histories.proofs.Histories.{prefix_refl, prefix_more, prefix_trans, grows_legally, steps_once, calls_own, calls_else}
use Rattle.turn_table.specs.declared.view.Joined.{Joined}
use Rattle.turn_table.specs.declared.view.View.{View}
use Rattle.turn_table.specs.Views.{In, Holds, AllOut, SecondOut, done, left_by, second_left, entry_by}
use Rattle.turn_table.specs.Rule.{RuleNames, Fits, Rule, Ruled}
use Rattle.turn_table.specs.Plays.{Sat, CommitsAct, Commits}
use Rattle.turn_table.proofs.Among.{in_map, map_in, pair_first, split_on}
use Rattle.turn_table.proofs.Owing.{renamed, Owes, stays}
use Rattle.turn_table.proofs.Beginning.{one_more, pair_second, whole, holds_here}

module _ {P A R : Type 0} (c : Core P A R) (law : Lawful c) (opening : List P) where
  -- a commit
  module _ (s : State (Option P) (View P A R)) (n : RuleNames A R) (id : ℕ) (v : View P A R) (rule : Rule c opening s n)
      (at : get_elem? s.views id ≡ some v) (live : v.live ≡ true) (a : A) (p : P) (o : Option P)
      (all_out : AllOut c v a p o) where
    now_f : Fits c opening n id v
    now_f = rule.fits id v at live

    abbrev now : List P
    now = state c opening n.log

    abbrev last_entry : Entry A R
    last_entry = entry_by c v a p o

    may_make : c.fits a
    may_make = now_f.may_fly a all_out.flies

    first_value : slice_get now (c.first a) ≡ Some p
    first_value = now_f.named (c.first a) p all_out.first

    second_is : second_of c now v.number a ≡ c.second p v.number a
    second_is = ap (option_and_then (λ (q : P). c.second q v.number a)) first_value

    -- the second part, if there is one, is out, and is another part than the first
    second_facts : (sec : Option ℕ) → c.second p v.number a ≡ sec → SecondOut sec o v.held
        → ((sec ≡ None) × (o ≡ None))
        ⊎ ((t : ℕ) × (q : P) × (sec ≡ Some t) × (o ≡ Some q) × In (t, q) v.held × (t ≢ c.first a))
    second_facts None e h = inl (refl, h)
    second_facts (Some t) e h =
        inr (
          t,
          h.0,
          refl,
          h.1,
          h.2,
          (law.second_in now v.number a p t (whole c law opening s n id v rule at live) may_make first_value e).1,
        )

    facts : ((c.second p v.number a ≡ None) × (o ≡ None))
        ⊎ ((t : ℕ) × (q : P) × (c.second p v.number a ≡ Some t) × (o ≡ Some q) × In (t, q) v.held × (t ≢ c.first a))
    facts = second_facts (c.second p v.number a) refl all_out.second

    replies : reply c now v.number a ≡ Some (c.answer p o v.number a)
    replies = ⊎_elim
        (λ t. reply_alone c now v.number a p first_value t.0 ∙ ap (λ x. Some (c.answer p x v.number a)) (sym t.1))
        (λ t.
        reply_together c now v.number a p t.1 t.0 first_value t.2 (now_f.named t.0 t.1 t.4)
        ∙ ap (λ x. Some (c.answer p x v.number a)) (sym t.3))
        facts

    abbrev log' : List (Entry A R)
    log' = n.log ++ last_entry ∷ []

    after_is : state c opening log' ≡ after c now v.number a
    after_is = steps_once c opening n.log last_entry

    -- a part that the view doesn't hold isn't touched
    others_stay : (k : ℕ) → (n.holder k ≡ Some id → ⊥) → slice_get (state c opening log') k ≡ slice_get now k
    others_stay k ne = ap (λ xs. slice_get xs k) after_is ∙ leaves_others c now v.number a k (⊎_elim
        (λ e. ne (ap n.holder e ∙ now_f.holds_own (c.first a) p all_out.first))
        (λ e. ⊎_elim
        (λ t. let d : None ≡ Some k = sym t.0 ∙ (sym second_is ∙ e) in absurd cc)
        (λ t.
        let d : Some t.0 ≡ Some k = sym t.2 ∙ (sym second_is ∙ e) in let z : t.0 ≡ k = cc in
        ne (ap n.holder (sym z) ∙ now_f.holds_own t.0 t.1 t.4))
        facts))

    -- each part that the view holds has the value that the act leaves
    held_value : (k : ℕ) (q : P) → In (k, q) v.held
        → slice_get (state c opening log') k ≡ Some (left_by c v.number a p o (k, q)).1
    held_value k q h =
        let among : (k ≡ c.first a) ⊎ (c.second p v.number a ≡ Some k) =
        now_f.only_parts a p all_out.flies all_out.pending all_out.first k (now_f.allowed k q h) in
        ap (λ xs. slice_get xs k) after_is ∙ ⊎_elim
        (λ t.
        let kf : k ≡ c.first a = ⊎_elim (λ e. e) (λ e. absurd (let d : None ≡ Some k = sym t.0 ∙ e in cc)) among in
        let there : c.first a < length now = slice_get_length now (c.first a) p first_value in
        ap (λ xs. slice_get xs k) (after_alone c now v.number a p first_value t.0)
        ∙ (ap (slice_get (set now (c.first a) (c.one p None v.number a))) kf
        ∙ (get_set_same now (c.first a) (c.one p None v.number a) there
        ∙ (ap (λ x. Some (c.one p x v.number a)) (sym t.1)
        ∙ ap (λ b. Some (cond b (c.one p o v.number a) (second_left c v.number a p o q)))
        (sym (eq-eqb k (c.first a) kf))))))
        (λ t.
        let there : c.first a < length now = slice_get_length now (c.first a) p first_value in
        let second_value : slice_get now t.0 ≡ Some t.1 = now_f.named t.0 t.1 t.4 in
        let second_there : t.0 < length now = slice_get_length now t.0 t.1 second_value in
        let x : P = c.one p (Some t.1) v.number a in
        let y : P = c.two p t.1 v.number a in
        let len : length (set now (c.first a) x) ≡ length now = length-set now (c.first a) x in
        ap (λ xs. slice_get xs k) (after_together c now v.number a p t.1 t.0 first_value t.2 second_value)
        ∙ split_on k (c.first a)
        (λ kf.
        ap (slice_get (set (set now (c.first a) x) t.0 y)) kf
        ∙ (get_set_else (set now (c.first a) x) t.0 (c.first a) y (λ e. t.5 (sym e))
        ∙ (get_set_same now (c.first a) x there
        ∙ (ap (λ z. Some (c.one p z v.number a)) (sym t.3)
        ∙ ap (λ b. Some (cond b (c.one p o v.number a) (second_left c v.number a p o q)))
        (sym (eq-eqb k (c.first a) kf))))))
        (λ ne.
        let ks : k ≡ t.0 = ⊎_elim (λ e. absurd (ne e)) (λ e. let d : Some t.0 ≡ Some k = sym t.2 ∙ e in cc) among in
        ap (slice_get (set (set now (c.first a) x) t.0 y)) ks
        ∙ (get_set_same (set now (c.first a) x) t.0 y (omega arith)
        ∙ (ap (λ z. Some (second_left c v.number a p z q)) (sym t.3)
        ∙ ap (λ b. Some (cond b (c.one p o v.number a) (second_left c v.number a p o q)))
        (sym (ne_eqb k (c.first a) ne))))))
        facts

    abbrev w : View P A R
    w = done c v a p o log'

    -- a part that is held afterwards was held before
    held_before : (k : ℕ) (q : P) → In (k, q) w.held
        → (u : P) × In (k, u) v.held × (q ≡ (left_by c v.number a p o (k, u)).1)
    held_before k q h =
        let r = in_map (left_by c v.number a p o) (k, q) v.held h in
        let e : k ≡ r.0.0 = pair_first k r.0.0 q (left_by c v.number a p o r.0).1 r.2 in
        let d : q ≡ (left_by c v.number a p o r.0).1 = pair_second k r.0.0 q (left_by c v.number a p o r.0).1 r.2 in (
          r.0.1,
          subst (λ m. In (m, r.0.1) v.held) (sym e) r.1,
          d ∙ ap (λ m. (left_by c v.number a p o (m, r.0.1)).1) (sym e),
        )

    -- a session of another number than the view's has no new entry
    none_else : (m : ℕ) → m ≢ v.number → calls_of m log' ≡ calls_of m n.log
    none_else m ne = calls_else m n.log last_entry (λ e. ne (sym e))

    made_all : calls_of v.number log' ≡ v.made ++ last_entry ∷ []
    made_all = calls_own v.number n.log last_entry refl ∙ ap (λ es. es ++ last_entry ∷ []) now_f.own_calls

    now_legal : Legal c opening log'
    now_legal = grows_legally c opening n.log last_entry rule.legal may_make replies

    not_joined : (j : Joined A R) → In j v.joined → j.number ≢ v.number
    not_joined j h e =
        now_f.differ.0 (subst (λ m. In m (map (λ (z : Joined A R). z.number) v.joined)) e
        (map_in (λ (z : Joined A R). z.number) j v.joined h))

    -- no other pass has an entry more
    drawn_only : v.number ≡ 0 → (m : ℕ) → v.splits < m → calls_of m log' ≡ []
    drawn_only e m far =
        let d : v.splits ≡ n.drawn = now_f.counts_drawn e in
        none_else m (λ x. omega arith) ∙ rule.undrawn m (omega arith)

    done_fits : Fits c opening (renamed c opening n log' n.holder) id w
    done_fits = record {
      same_opening = now_f.same_opening;
      seen_begins = prefix_refl log';
      shorter_begins = prefix_trans v.shorter n.log log' now_f.shorter_begins (prefix_more n.log (last_entry ∷ []));
      own_calls = made_all;
      may_fly = now_f.may_fly;
      holds_own = λ k q h. let b = held_before k q h in now_f.holds_own k b.0 b.1;
      named = λ k q h. let b = held_before k q h in held_value k b.0 b.1 ∙ ap Some (sym b.2);
      allowed = λ k q h. let b = held_before k q h in now_f.allowed k b.0 b.1;
      few = now_f.few;
      there = now_f.there;
      first_alone = λ b e pend. absurd cc;
      only_parts = λ b q e pend. absurd cc;
      all_held = λ e k h. ⊎_elim
          (λ d.
          let g : Holds w (c.first a) = (
            (left_by c v.number a p o (c.first a, p)).1,
            map_in (left_by c v.number a p o) (c.first a, p) v.held all_out.first,
          ) in
          subst (Holds w) (sym d) g)
          (λ d. ⊎_elim
          (λ t. absurd (let z : None ≡ Some k = sym t.0 ∙ d in cc))
          (λ t.
          let z : t.0 ≡ k = let y : Some t.0 ≡ Some k = sym t.2 ∙ d in cc in
          let g : Holds w t.0 =
          ((left_by c v.number a p o (t.0, t.1)).1, map_in (left_by c v.number a p o) (t.0, t.1) v.held t.4) in
          subst (Holds w) z g)
          facts)
          (now_f.only_parts a p all_out.flies all_out.pending all_out.first k h);
      has_numbers = now_f.has_numbers;
      were_drawn = now_f.were_drawn;
      differ = now_f.differ;
      joined_calls = λ j h. none_else j.number (not_joined j h) ∙ now_f.joined_calls j h;
      counts_drawn = now_f.counts_drawn;
    }

    abbrev words' : List ℕ
    words' = set s.words (length opening) ((slice_index s.words (length opening) + 1) % 2 ^ 64)

    done_counted : slice_index words' (length opening) ≡ length log' % 2 ^ 64
    done_counted =
        let t = rule.words_there in
        let l : length log' ≡ length n.log + 1 = length-append n.log (last_entry ∷ []) in
        get_or-set_same s.words (length opening) ((slice_index s.words (length opening) + 1) % 2 ^ 64) 0 (omega arith)
        ∙ (ap (λ m. (m + 1) % 2 ^ 64) rule.counted ∙ (one_more (length n.log) ∙ ap (λ m. m % 2 ^ 64) (sym l)))

    other_word : (k : ℕ) → k ≢ length opening → slice_index words' k ≡ slice_index s.words k
    other_word k ne =
        get_or-set_other s.words (length opening) k ((slice_index s.words (length opening) + 1) % 2 ^ 64) 0 ne

    done_owes : Owes c opening s n id v words' s.homes w log' n.holder
    done_owes = record {
      alive = live;
      same_number = refl;
      words_there = length-set s.words (length opening) ((slice_index s.words (length opening) + 1) % 2 ^ 64);
      slots_there = refl;
      counted = done_counted;
      legal = now_legal;
      on = prefix_more n.log (last_entry ∷ []);
      quiet = none_else;
      frame = others_stay;
      others_keep = λ k j ne h. h;
      others_had = λ k j r ne h. (h, other_word k (λ e. omega arith));
      free = λ k r h.
          let old = rule.free k r h in (
            other_word k (λ e. omega arith) ∙ old.0,
            λ q g. old.1 q (sym (others_stay k (λ e. let z : None ≡ Some id = sym h ∙ e in cc)) ∙ g),
          );
      mine = λ k r h.
          let old = holds_here c law opening s n id v rule at live k r h in (
            other_word k (λ e. omega arith) ∙ old.0,
            ((left_by c v.number a p o (k, old.1.0)).1, map_in (left_by c v.number a p o) (k, old.1.0) v.held old.1.1),
          );
      out = rule.out;
      fits = done_fits;
      newest = inl refl;
    }

    was_held : (k : ℕ) (q : P) → In (k, q) v.held
        → slice_get (state c v.opening (v.seen ++ now_f.seen_begins.0)) k ≡ Some q
    was_held k q h = (λ i. slice_get (state c (now_f.same_opening i) (now_f.seen_begins.1 i)) k) ∙ now_f.named k q h

    done_told : (cs : List (ℕ × Option P)) → CommitsAct c (v, cs) a p o (w, cs)
    done_told cs =
        record {
          view = refl;
          slots = refl;
          between = now_f.seen_begins.0;
          last = ap (λ es. es ++ last_entry ∷ []) (sym now_f.seen_begins.1);
          legal = subst (λ (xs : List P). Legal c xs log') (sym now_f.same_opening) now_legal;
          own = made_all;
          joined = done_fits.joined_calls;
          no_others = drawn_only;
          before = was_held;
          held =
              subst (λ (xs : List P). (k : ℕ) (q : P) → In (k, q) w.held → slice_get (state c xs log') k ≡ Some q)
              (sym now_f.same_opening) done_fits.named;
        }

    -- no other act is all out, and none with other values
    module _ (a' : A) (p' : P) (o' : Option P) (others : AllOut c v a' p' o') where
      same_act : a ≡ a'
      same_act = let e : Some a ≡ Some a' = sym all_out.flies ∙ others.flies in cc

      same_first : p ≡ p'
      same_first =
          let e : slice_get now (c.first a') ≡ Some p' = now_f.named (c.first a') p' others.first in
          let d : Some p ≡ Some p' = sym first_value ∙ (ap (λ (x : A). slice_get now (c.first x)) same_act ∙ e) in
          cc

      second_same : (sec : Option ℕ) → SecondOut sec o v.held → SecondOut sec o' v.held → o ≡ o'
      second_same None x y = x ∙ sym y
      second_same (Some t) x y =
          let d : Some x.0 ≡ Some y.0 = sym (now_f.named t x.0 x.2) ∙ now_f.named t y.0 y.2 in
          x.1 ∙ (d ∙ sym y.1)

      same_second : o ≡ o'
      same_second =
          second_same (c.second p v.number a) all_out.second
          (subst (λ (sec : Option ℕ). SecondOut sec o' v.held)
          (λ i. c.second (sym same_first i) v.number (sym same_act i)) others.second)

      other_told : (cs : List (ℕ × Option P)) → CommitsAct c (v, cs) a' p' o' (w, cs)
      other_told cs =
          subst (λ (x : A). CommitsAct c (v, cs) x p' o' (w, cs)) same_act
          (subst (λ (x : P). CommitsAct c (v, cs) a x o' (w, cs)) same_first
          (subst (λ (x : Option P). CommitsAct c (v, cs) a p x (w, cs)) same_second (done_told cs)))

  pub commits : (id : ℕ) (me : Sat c) → me.0.live ≡ true → (a : A) (p : P) (o : Option P) → AllOut c me.0 a p o
      → (slots : ℕ) → slots ≡ length opening
      → Allows (Ruled c opening) slots id me (length opening) (λ n. (n + 1) % 2 ^ 64)
      (Commits c (step slots (length opening) 1 0 none) me)
  commits id me live a p o all_out slots is s ruled there at bound =
      let n : RuleNames A R = ruled.0 in
      let rule : Rule c opening s n = ruled.1 in
      let v : View P A R = me.0 in
      let log : List (Entry A R) = n.log ++ entry_by c v a p o ∷ [] in
      let w : View P A R = done c v a p o log in
      let kept =
      stays c opening s n id v (set s.words (length opening) ((slice_index s.words (length opening) + 1) % 2 ^ 64))
      s.homes w log n.holder rule at live (done_owes s n id v rule at live a p o all_out) in (
        w,
        keeps,
        tt,
        (renamed c opening n log n.holder, kept),
        λ a' p' o' others. other_told s n id v rule at live a p o all_out a' p' o' others me.1,
      )
