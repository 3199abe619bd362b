-- A turn that is given back with its part.
use Rattle.std.proofs.Common.{◌≡◌, ◌≢◌, ℕ, ◌<◌, true, false, not, eqb, List, [], ◌∷◌, length, set, get_or, refl, ap, sym, ◌∙◌, inr, arith, length-set}
use Rattle.std.proofs.lemmas.List.{get_or-set_same, get_or-set_other}
use Rattle.std.specs.List.{slice_get}
use Rattle.std.specs.declared.option.Option.{Option}
use Rattle.std.specs.declared.option.Option.TheVariants.{None, Some}
use mathlib.Core.Option.{some, none}
use lib.ListN.{get_elem?}
use Rattle.atomic_table.specs.Table.{State, step, gives, Allows, rest}
use Rattle.atomic_table.proofs.Lists.{set_here, set_else}
use Rattle.histories.specs.Core.{Core, Lawful}
use Rattle.histories.specs.History.{state}
use Rattle.histories.proofs.Histories.{prefix_refl}
use Rattle.turn_table.specs.declared.view.View.{View}
use Rattle.turn_table.specs.Views.{In, Holds, given_back}
use Rattle.turn_table.specs.Rule.{RuleNames, Fits, Rule, Ruled}
use Rattle.turn_table.specs.Plays.{GivesTurn}
use Rattle.turn_table.proofs.Among.{kept_was, keeps as stays_in, filter_shorter, split_on, other_number, is_other, at_one, at_one_same, at_one_else}
use Rattle.turn_table.proofs.Owing.{renamed, Owes, stays}
use Rattle.turn_table.proofs.Beginning.{only_one, holds_here}

module _ {P A R : Type 0} (c : Core P A R) (law : Lawful c) (opening : List P) where
  -- give
  module _ (s : State (Option P) (View P A R)) (n : RuleNames A R) (id : ℕ) (v : View P A R) (rule : Rule c opening s n)
      (at : get_elem? s.views id ≡ some v) (live : v.live ≡ true) (k : ℕ) (p : P) (held_here : In (k, p) v.held) where
    give_f : Fits c opening n id v
    give_f = rule.fits id v at live

    mine_now : n.holder k ≡ Some id
    mine_now = give_f.holds_own k p held_here

    give_there : k < length opening
    give_there = give_f.there k (give_f.allowed k p held_here)

    still : (j : ℕ) (q : P) → In (j, q) (given_back v k).held → In (j, q) v.held × (j ≢ k)
    still j q h = let r = kept_was (λ x. not (eqb x.0 k)) (j, q) v.held h in (r.0, other_number j k r.1)

    stays_held : (j : ℕ) (q : P) → j ≢ k → In (j, q) v.held → In (j, q) (given_back v k).held
    stays_held j q ne h = stays_in (λ x. not (eqb x.0 k)) (j, q) v.held h (is_other j k ne)

    still_may : (j : ℕ) → In j (given_back v k).may → In j v.may × (j ≢ k)
    still_may j h = let r = kept_was (λ m. not (eqb m k)) j v.may h in (r.0, other_number j k r.1)

    give_first_alone : (a : A) → v.flight ≡ Some a → v.committed ≡ false → In (c.first a) (given_back v k).may
        → (Holds (given_back v k) (c.first a) → ⊥) → ⊥
    give_first_alone a e pend i nh =
        let m = still_may (c.first a) i in
        let alone : v.may ≡ c.first a ∷ [] =
        give_f.first_alone a e pend m.0 (λ h. nh (h.0, stays_held (c.first a) h.0 m.1 h.1)) in
        m.1 (sym (only_one (c.first a) v.may k alone (give_f.allowed k p held_here)))

    give_fits : Fits c opening (renamed c opening n n.log (at_one n.holder k None)) id (given_back v k)
    give_fits = record {
      same_opening = give_f.same_opening;
      seen_begins = give_f.seen_begins;
      shorter_begins = give_f.shorter_begins;
      own_calls = give_f.own_calls;
      may_fly = give_f.may_fly;
      holds_own = λ j q h. let r = still j q h in at_one_else n.holder k None j r.1 ∙ give_f.holds_own j q r.0;
      named = λ j q h. give_f.named j q (still j q h).0;
      allowed = λ j q h.
          let r = still j q h in stays_in (λ m. not (eqb m k)) j v.may (give_f.allowed j q r.0) (is_other j k r.1);
      few = let a = filter_shorter (λ m. not (eqb m k)) v.may in let b = give_f.few in omega arith;
      there = λ j h. give_f.there j (still_may j h).0;
      first_alone = λ a e pend i nh. absurd (give_first_alone a e pend i nh);
      only_parts = λ a q e pend h j i. give_f.only_parts a q e pend (still (c.first a) q h).0 j (still_may j i).0;
      all_held = λ e j h. let r = still_may j h in let g = give_f.all_held e j r.0 in (g.0, stays_held j g.0 r.1 g.1);
      has_numbers = give_f.has_numbers;
      were_drawn = give_f.were_drawn;
      differ = give_f.differ;
      joined_calls = give_f.joined_calls;
      counts_drawn = give_f.counts_drawn;
    }

    give_home : (q : P) → slice_get (state c opening n.log) k ≡ Some q
        → get_elem? (set s.homes k (some (Some p))) k ≡ some (some (Some q))
    give_home q e =
        let d : Some p ≡ Some q = sym (give_f.named k p held_here) ∙ e in
        set_here s.homes k (some (Some p)) (let t = give_there in let y = rule.slots_there in omega arith)
        ∙ ap (λ (x : Option P). some (some x)) d

    give_owes : Owes c opening s n id v (set s.words k 0) (set s.homes k (some (Some p))) (given_back v k) n.log
        (at_one n.holder k None)
    give_owes = record {
      alive = live;
      same_number = refl;
      words_there = length-set s.words k 0;
      slots_there = length-set s.homes k (some (Some p));
      counted = get_or-set_other s.words k (length opening) 0 0 (λ e. let r = give_there in omega arith) ∙ rule.counted;
      legal = rule.legal;
      on = prefix_refl n.log;
      quiet = λ m ne. refl;
      frame = λ m ne. refl;
      others_keep = λ m j ne h. split_on m k
          (λ e. absurd (let a : Some id ≡ Some j = sym mine_now ∙ (ap n.holder (sym e) ∙ h) in ne cc))
          (λ d. at_one_else n.holder k None m d ∙ h);
      others_had = λ m j r ne h. split_on m k
          (λ e. absurd (let a : None ≡ Some j = sym (at_one_same n.holder k None m e) ∙ h in cc))
          (λ d. (sym (at_one_else n.holder k None m d) ∙ h, get_or-set_other s.words k m 0 0 d));
      free = λ m r h. split_on m k
          (λ e. (
            ap (λ i. get_or (set s.words k 0) i 0) e
                ∙ get_or-set_same s.words k 0 0 (let t = give_there in let y = rule.words_there in omega arith),
            λ q g.
                ap (get_elem? (set s.homes k (some (Some p)))) e
                ∙ give_home q (ap (slice_get (state c opening n.log)) (sym e) ∙ g),
          ))
          (λ d.
          let old = rule.free m r (sym (at_one_else n.holder k None m d) ∙ h) in
          (get_or-set_other s.words k m 0 0 d ∙ old.0, λ q g. set_else s.homes k m (some (Some p)) d ∙ old.1 q g));
      mine = λ m r h. split_on m k
          (λ e. absurd (let a : None ≡ Some id = sym (at_one_same n.holder k None m e) ∙ h in cc))
          (λ d.
          let old = holds_here c law opening s n id v rule at live m r (sym (at_one_else n.holder k None m d) ∙ h) in
          (get_or-set_other s.words k m 0 0 d ∙ old.0, (old.1.0, stays_held m old.1.0 d old.1.1)));
      out = λ m j r h. split_on m k
          (λ e. absurd (let a : None ≡ Some j = sym (at_one_same n.holder k None m e) ∙ h in cc))
          (λ d. set_else s.homes k m (some (Some p)) d ∙ rule.out m j r (sym (at_one_else n.holder k None m d) ∙ h));
      fits = give_fits;
      newest = inr (refl, refl);
    }

  pub gives_turn : (id : ℕ) (v : View P A R) (rest : List (ℕ × Option P)) → v.live ≡ true → (k : ℕ) (p : P)
      → In (k, p) v.held → (slots : ℕ) → slots ≡ length opening
      → Allows (Ruled c opening) slots id (v, (k, Some p) ∷ rest) k (λ _. 0)
      (λ _. GivesTurn c (step slots k 0 0 none) (v, (k, Some p) ∷ rest) 0)
  gives_turn id v rest live k p h slots is s ruled there at bound =
      let n : RuleNames A R = ruled.0 in
      let rule : Rule c opening s n = ruled.1 in
      let kept =
      stays c opening s n id v (set s.words k 0) (set s.homes k (some (Some p))) (given_back v k) n.log
      (at_one n.holder k None) rule at live (give_owes s n id v rule at live k p h) in
      (given_back v k, gives, tt, (renamed c opening n n.log (at_one n.holder k None), kept), (refl, refl))
