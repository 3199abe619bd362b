-- A look at the history.
use Rattle.std.proofs.Common.{◌≡◌, ℕ, true, List, set, get_or, refl, sym, subst, inl}
use Rattle.std.proofs.lemmas.List.{set-get_or}
use Rattle.std.specs.List.{slice_get}
use Rattle.std.specs.declared.option.Option.TheVariants.{Some}
use mathlib.Core.Option.{none}
use Rattle.atomic_table.specs.Table.{step, keeps, Allows}
use Rattle.histories.specs.Core.{Core, Lawful}
use Rattle.histories.specs.History.{state}
use Rattle.histories.proofs.Histories.{prefix_refl}
use Rattle.turn_table.specs.declared.view.View.{View}
use Rattle.turn_table.specs.Views.{In, Looks, Knows, looked}
use Rattle.turn_table.specs.Rule.{RuleNames, Fits, Rule, Ruled}
use Rattle.turn_table.specs.Plays.{Sat, LooksOn, Sees}
use Rattle.turn_table.proofs.Owing.{renamed, moved, Owes, stays}
use Rattle.turn_table.proofs.Beginning.{fit, look, holds_here}

module _ {P A R : Type 0} (c : Core P A R) (law : Lawful c) (opening : List P) where
  pub sees : (id : ℕ) (me : Sat c) → me.0.live ≡ true → (slots word : ℕ)
      → Allows (Ruled c opening) slots id me word (λ n. n) (Sees c (step slots word 0 0 none) me)
  sees id me live slots word s ruled there at bound =
      let n : RuleNames A R = ruled.0 in
      let rule : Rule c opening s n = ruled.1 in
      let v : View P A R = me.0 in
      let w : View P A R = looked v n.log in
      let f : Fits c opening n id v = fit c law opening s n id v rule at live in
      let g : Fits c opening (renamed c opening n n.log n.holder) id w = record {
        same_opening = f.same_opening;
        seen_begins = prefix_refl n.log;
        shorter_begins = (n.log, refl);
        own_calls = f.own_calls;
        may_fly = f.may_fly;
        holds_own = f.holds_own;
        named = f.named;
        allowed = f.allowed;
        few = f.few;
        there = f.there;
        first_alone = f.first_alone;
        only_parts = f.only_parts;
        all_held = f.all_held;
        has_numbers = f.has_numbers;
        were_drawn = f.were_drawn;
        differ = f.differ;
        joined_calls = f.joined_calls;
        counts_drawn = f.counts_drawn;
      } in
      let owes : Owes c opening s n id v s.words s.homes w n.log n.holder = record {
        alive = live;
        same_number = refl;
        words_there = refl;
        slots_there = refl;
        counted = rule.counted;
        legal = rule.legal;
        on = prefix_refl n.log;
        quiet = λ m ne. refl;
        frame = λ k ne. refl;
        others_keep = λ k j ne h. h;
        others_had = λ k j r ne h. (h, refl);
        free = rule.free;
        mine = λ k r h. holds_here c law opening s n id v rule at live k r h;
        out = rule.out;
        fits = g;
        newest = inl refl;
      } in
      let kept : Rule c opening (moved c opening s s.words s.homes id w) (renamed c opening n n.log n.holder) =
      stays c opening s n id v s.words s.homes w n.log n.holder rule at live owes in
      let same : set s.words word (get_or s.words word 0) ≡ s.words = set-get_or s.words word 0 in
      let told : LooksOn c me (w, me.1) = record {
        view = refl;
        slots = refl;
        looks = look c law opening s n id v rule at live;
        shorter = f.shorter_begins;
        held =
            subst (λ (xs : List P). (k : ℕ) (q : P) → In (k, q) v.held → slice_get (state c xs n.log) k ≡ Some q)
            (sym f.same_opening) f.named;
      } in (
        w,
        keeps,
        tt,
        (
          renamed c opening n n.log n.holder,
          subst
              (λ (ws : List ℕ). Rule c opening (moved c opening s ws s.homes id w) (renamed c opening n n.log n.holder))
              (sym same) kept,
        ),
        told,
      )

module _ {P A R : Type 0} (c : Core P A R) (m : Sat c) (m' : Sat c) where
  -- what a pass knows that looked
  pub knows_seen : LooksOn c m m' → Knows c m'.0
  knows_seen told =
      let l : Looks c m.0 m'.0.seen = told.looks in
      subst (λ v. Knows c v) (sym told.view) (record {
        legal = l.legal;
        own = l.own;
        joined = l.joined;
        no_others = l.no_others;
      })
