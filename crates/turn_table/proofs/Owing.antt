-- What one step of a pass owes, and that the rule stays where it owes it.
use Rattle.std.proofs.Common.{◌≡◌, ◌≢◌, ℕ, ◌%◌, ◌^◌, ◌<◌, ◌≤◌, ◌⊎◌, true, false, List, length, set, refl, ap, sym, subst, ◌∙◌, inl, inr, ⊎_elim, arith}
use Rattle.std.specs.Prelude.{slice_index}
use Rattle.std.specs.List.{slice_get}
use Rattle.std.specs.declared.option.Option.{Option}
use Rattle.std.specs.declared.option.Option.TheVariants.{None, Some}
use mathlib.Core.Option.{some, some-injective}
use mathlib.Core.Option as maybe
use lib.ListN.{get_elem?}
use Rattle.atomic_table.specs.Table.{State}
use Rattle.atomic_table.proofs.Lists.{at_set, set_here, set_else}
use Rattle.histories.specs.declared.entry.Entry.{Entry}
use Rattle.histories.specs.Core.{Core}
use Rattle.histories.specs.History.{IsPrefix, calls_of, state, Legal}
use Rattle.histories.proofs.Histories.{prefix_trans}
use Rattle.turn_table.specs.declared.view.Joined.{Joined}
use Rattle.turn_table.specs.declared.view.View.{View}
use Rattle.turn_table.specs.Views.{In, Holds, numbers_of}
use Rattle.turn_table.specs.Rule.{RuleNames, IsHome, HoldsAt, Fits, Rule}
use Rattle.turn_table.proofs.Among.{split_on, map_in, at_length}

module _ {P A R : Type 0} (c : Core P A R) (opening : List P) where
  -- the names after a step: the history and the holders may be others
  abbrev pub renamed : RuleNames A R → List (Entry A R) → (ℕ → Option ℕ) → RuleNames A R
  renamed n log holder = record { log = log; holder = holder; owner = n.owner; drawn = n.drawn }

  -- the table after a step of the view at id
  abbrev pub moved : State (Option P) (View P A R) → List ℕ → List (maybe.Option (Option P)) → ℕ → View P A R
      → State (Option P) (View P A R)
  moved s words homes id w = record { words = words; homes = homes; views = set s.views id w }

  -- a step of the view v at id, which becomes w
  pub record Owes (s : State (Option P) (View P A R)) (n : RuleNames A R) (id : ℕ) (v : View P A R) (words : List ℕ)
      (homes : List (maybe.Option (Option P))) (w : View P A R) (log : List (Entry A R))
      (holder : ℕ → Option ℕ) : Type 0 where
    pub alive : w.live ≡ true
    pub same_number : w.number ≡ v.number
    pub words_there : length words ≡ length s.words
    pub slots_there : length homes ≡ length s.homes
    pub counted : slice_index words (length opening) ≡ length log % 2 ^ 64
    pub legal : Legal c opening log
    pub on : IsPrefix n.log log
    -- no other session has a new entry
    pub quiet : (m : ℕ) → m ≢ v.number → calls_of m log ≡ calls_of m n.log
    -- no part of another view changes
    pub frame : (k : ℕ) → (n.holder k ≡ Some id → ⊥)
        → slice_get (state c opening log) k ≡ slice_get (state c opening n.log) k
    -- the others hold what they held
    pub others_keep : (k j : ℕ) → j ≢ id → n.holder k ≡ Some j → holder k ≡ Some j
    pub others_had : (k j : ℕ) → k < length opening → j ≢ id → holder k ≡ Some j
        → (n.holder k ≡ Some j) × (slice_index words k ≡ slice_index s.words k)
    pub free : (k : ℕ) → k < length opening → holder k ≡ None
        → (slice_index words k ≡ 0) × IsHome c opening log (moved s words homes id w) k
    pub mine : (k : ℕ) → k < length opening → holder k ≡ Some id → (slice_index words k ≡ 1) × Holds w k
    pub out : (k j : ℕ) → k < length opening → holder k ≡ Some j → get_elem? homes k ≡ some maybe.none
    pub fits : Fits c opening (renamed n log holder) id w
    pub newest : (w.seen ≡ log) ⊎ ((w.seen ≡ v.seen) × (log ≡ n.log))

  module _ (s : State (Option P) (View P A R)) (n : RuleNames A R) (id : ℕ) (v : View P A R) (words : List ℕ)
      (homes : List (maybe.Option (Option P))) (w : View P A R) (log : List (Entry A R)) (holder : ℕ → Option ℕ)
      (rule : Rule c opening s n) (at : get_elem? s.views id ≡ some v) (live : v.live ≡ true)
      (owes : Owes s n id v words homes w log holder) where
    own_number : In v.number (numbers_of v)
    own_number = inl refl

    -- another view's number, and those joined into it, are not this one's
    other_numbers : (j : ℕ) (u : View P A R) → j ≢ id → get_elem? s.views j ≡ some u → u.live ≡ true → (m : ℕ)
        → In m (numbers_of u) → m ≢ v.number
    other_numbers j u ne there alive m h e =
        let a : n.owner m ≡ Some j = (rule.fits j u there alive).has_numbers m h in
        let b : n.owner v.number ≡ Some id = (rule.fits id v at live).has_numbers v.number own_number in
        let d : Some j ≡ Some id = sym a ∙ (ap n.owner e ∙ b) in
        ne cc

    fits_else : (j : ℕ) (u : View P A R) → j ≢ id → get_elem? s.views j ≡ some u → u.live ≡ true
        → Fits c opening (renamed n log holder) j u
    fits_else j u ne there alive =
        let f : Fits c opening n j u = rule.fits j u there alive in
        record {
          same_opening = f.same_opening;
          seen_begins = prefix_trans u.seen n.log log f.seen_begins owes.on;
          shorter_begins = prefix_trans u.shorter n.log log f.shorter_begins owes.on;
          own_calls = owes.quiet u.number (other_numbers j u ne there alive u.number (inl refl)) ∙ f.own_calls;
          may_fly = f.may_fly;
          holds_own = λ k p h. owes.others_keep k j ne (f.holds_own k p h);
          named = λ k p h.
              owes.frame k
              (λ e. let a : n.holder k ≡ Some j = f.holds_own k p h in let d : Some j ≡ Some id = sym a ∙ e in ne cc)
              ∙ f.named k p h;
          allowed = f.allowed;
          few = f.few;
          there = f.there;
          first_alone = f.first_alone;
          only_parts = f.only_parts;
          all_held = f.all_held;
          has_numbers = f.has_numbers;
          were_drawn = f.were_drawn;
          differ = f.differ;
          joined_calls = λ q h.
              owes.quiet q.number
              (other_numbers j u ne there alive q.number (inr (map_in (λ (z : Joined A R). z.number) q u.joined h)))
              ∙ f.joined_calls q h;
          counts_drawn = f.counts_drawn;
        }

    id_there : id < length s.views
    id_there = at_length s.views id v at

    held_after : (k j : ℕ) → k < length opening → holder k ≡ Some j
        → (slice_index words k ≡ 1) × HoldsAt (moved s words homes id w) j k
    held_after k j in_range h = split_on j id
        (λ e.
        let m = owes.mine k in_range (h ∙ ap Some e) in
        (m.0, (w, ap (get_elem? (set s.views id w)) e ∙ set_here s.views id w id_there, m.1)))
        (λ ne.
        let had = owes.others_had k j in_range ne h in let old = rule.held k j in_range had.0 in
        (had.1 ∙ old.0, (old.1.0, set_else s.views id j w ne ∙ old.1.1, old.1.2)))

    newest_after : (id' : ℕ) (u : View P A R) → get_elem? s.views id' ≡ some u → u.live ≡ true → u.seen ≡ n.log
        → ((w.seen ≡ log) ⊎ ((w.seen ≡ v.seen) × (log ≡ n.log)))
        → (j : ℕ) × (x : View P A R) × (get_elem? (set s.views id w) j ≡ some x) × (x.live ≡ true) × (x.seen ≡ log)
    newest_after id' u there alive whole (inl e) = (id, w, set_here s.views id w id_there, owes.alive, e)
    newest_after id' u there alive whole (inr e) = split_on id' id
        (λ d.
        let vu : some v ≡ some u = sym at ∙ (ap (get_elem? s.views) (sym d) ∙ there) in
        let same : v ≡ u = some-injective v u vu in (
          id,
          w,
          set_here s.views id w id_there,
          owes.alive,
          e.0 ∙ (ap (λ (z : View P A R). z.seen) same ∙ (whole ∙ sym e.1)),
        ))
        (λ ne. (id', u, set_else s.views id id' w ne ∙ there, alive, whole ∙ sym e.1))

    -- the rule stays
    pub stays : Rule c opening (moved s words homes id w) (renamed n log holder)
    stays = record {
      words_there = owes.words_there ∙ rule.words_there;
      slots_there = owes.slots_there ∙ rule.slots_there;
      opens_whole = rule.opens_whole;
      counted = owes.counted;
      legal = owes.legal;
      free = owes.free;
      held = held_after;
      out = owes.out;
      fits = λ j u there alive. ⊎_elim
          (λ t.
          subst (λ (x : View P A R). Fits c opening (renamed n log holder) j x) t.1
          (subst (λ i. Fits c opening (renamed n log holder) i w) (sym t.0) owes.fits))
          (λ t. fits_else j u t.0 t.1 alive)
          (at_set s.views id j w u there);
      spent_holds_none = λ j u there dead. ⊎_elim
          (λ t.
          absurd (let a : w.live ≡ true =
          owes.alive in let b : w.live ≡ u.live = ap (λ (x : View P A R). x.live) t.1 in
          let e : true ≡ false = sym a ∙ (b ∙ dead) in cc))
          (λ t. rule.spent_holds_none j u t.1 dead)
          (at_set s.views id j w u there);
      newest = newest_after rule.newest.0 rule.newest.1 rule.newest.2 rule.newest.3 rule.newest.4 owes.newest;
      undrawn = λ m far.
          owes.quiet m
          (λ e.
          let d : v.number ≤ n.drawn = (rule.fits id v at live).were_drawn v.number own_number in absurd (omega arith))
          ∙ rule.undrawn m far;
    }
