-- Every pass stays a pass.
use Rattle.std.proofs.Common.{◌≡◌, ◌≢◌, ℕ, ◌+◌, ◌<◌, ◌≤◌, cond, not, eqb, List, [], ◌∷◌, map, length, refl, ap, sym, subst, ◌∙◌, inl, inr, ⊎_elim, arith, eq-eqb, ne_eqb}
use Rattle.std.specs.declared.option.Option.{Option}
use Rattle.std.specs.declared.option.Option.TheVariants.{None, Some}
use Rattle.atomic_table.specs.Table.{Me, turned}
use Rattle.histories.specs.Core.{Core}
use Rattle.histories.specs.History.{calls_of}
use Rattle.turn_table.specs.declared.view.View.{View}
use Rattle.turn_table.specs.Views.{In, Holds, Looks, Knows, looked, begun, taken_out, tried, done, left_by, given_back, let_go, divided, split_from, merged, joined_with}
use Rattle.turn_table.specs.Plays.{Sat, LooksOn, BeginsAct, TakesPart, FindsBusy, CommitsAct}
use Rattle.turn_table.specs.Passes.{out, Topped, IsPass, Sound, TookPart, Committed}
use Rattle.turn_table.proofs.Among.{in_map, kept_was}

-- two places don't hold three numbers that differ
pigeon : (ks : List ℕ) (a b d : ℕ) → length ks ≤ 2 → In a ks → In b ks → In d ks → a ≢ b → a ≢ d → b ≢ d → ⊥
pigeon [] a b d n i j k ab ad bd = absurd i
pigeon (x ∷ []) a b d n (inl i) (inl j) k ab ad bd = ab (i ∙ sym j)
pigeon (x ∷ []) a b d n (inl i) (inr j) k ab ad bd = absurd j
pigeon (x ∷ []) a b d n (inr i) j k ab ad bd = absurd i
pigeon (x ∷ y ∷ []) a b d n (inl i) (inl j) k ab ad bd = ab (i ∙ sym j)
pigeon (x ∷ y ∷ []) a b d n (inl i) (inr (inl j)) (inl k) ab ad bd = ad (i ∙ sym k)
pigeon (x ∷ y ∷ []) a b d n (inl i) (inr (inl j)) (inr (inl k)) ab ad bd = bd (j ∙ sym k)
pigeon (x ∷ y ∷ []) a b d n (inl i) (inr (inl j)) (inr (inr k)) ab ad bd = absurd k
pigeon (x ∷ y ∷ []) a b d n (inl i) (inr (inr j)) k ab ad bd = absurd j
pigeon (x ∷ y ∷ []) a b d n (inr (inl i)) (inl j) (inl k) ab ad bd = bd (j ∙ sym k)
pigeon (x ∷ y ∷ []) a b d n (inr (inl i)) (inl j) (inr (inl k)) ab ad bd = ad (i ∙ sym k)
pigeon (x ∷ y ∷ []) a b d n (inr (inl i)) (inl j) (inr (inr k)) ab ad bd = absurd k
pigeon (x ∷ y ∷ []) a b d n (inr (inl i)) (inr (inl j)) k ab ad bd = ab (i ∙ sym j)
pigeon (x ∷ y ∷ []) a b d n (inr (inl i)) (inr (inr j)) k ab ad bd = absurd j
pigeon (x ∷ y ∷ []) a b d n (inr (inr i)) j k ab ad bd = absurd i
pigeon (x ∷ y ∷ z ∷ zs) a b d n i j k ab ad bd = absurd (omega arith)

module _ {P : Type 0} where
  -- a part that is taken comes on top
  topped_more : (last before k : ℕ) (p : P) (held : List (ℕ × P)) (may : List ℕ) → Topped last before held
      → length may ≤ 2 → ((j : ℕ) (q : P) → In (j, q) ((k, p) ∷ held) → In j may) → ((q : P) → In (k, q) held → ⊥)
      → Topped k last ((k, p) ∷ held)
  topped_more last before k p [] may t few allowed not_held = refl
  topped_more last before k p (x ∷ []) may t few allowed not_held =
      (refl, t, λ e. not_held x.1 (inl (λ i. ((e ∙ sym t) i, x.1))))
  topped_more last before k p (x ∷ y ∷ []) may t few allowed not_held =
      absurd (pigeon may k x.0 y.0 few (allowed k p (inl refl)) (allowed x.0 x.1 (inr (inl refl)))
      (allowed y.0 y.1 (inr (inr (inl refl))))
      (λ e. not_held x.1 (inl (λ i. (e i, x.1)))) (λ e. not_held y.1 (inr (inl (λ i. (e i, y.1)))))
      (λ e. t.2 (sym t.0 ∙ (e ∙ t.1))))
  topped_more last before k p (x ∷ y ∷ z ∷ zs) may t few allowed not_held = absurd t

  pub dropped : (k : ℕ) (x : ℕ × P) (xs : List (ℕ × P)) → x.0 ≡ k → let_go k (x ∷ xs) ≡ let_go k xs
  dropped k x xs e = ap (λ b. cond (not b) (x ∷ let_go k xs) (let_go k xs)) (eq-eqb x.0 k e)

  pub left_in : (k : ℕ) (x : ℕ × P) (xs : List (ℕ × P)) → x.0 ≢ k → let_go k (x ∷ xs) ≡ x ∷ let_go k xs
  left_in k x xs ne = ap (λ b. cond (not b) (x ∷ let_go k xs) (let_go k xs)) (ne_eqb x.0 k ne)

  -- the slot in front, and what is left once it is given
  pub front_last : (last before k : ℕ) (held : List (ℕ × P)) → Topped last before held → last ≡ k → (p : P)
      → In (k, p) held → (map out held ≡ (k, None) ∷ map out (let_go k held)) × Topped before before (let_go k held)
  front_last last before k [] t e p h = absurd h
  front_last last before k (x ∷ []) t e p h =
      let g : let_go k (x ∷ []) ≡ [] = dropped k x [] (t ∙ e) in
      (λ i. ((t ∙ e) i, None) ∷ map out (sym g i), subst (Topped before before) (sym g) tt)
  front_last last before k (x ∷ y ∷ []) t e p h =
      let g : let_go k (x ∷ y ∷ []) ≡ y ∷ [] =
      dropped k x (y ∷ []) (t.0 ∙ e) ∙ left_in k y [] (λ d. t.2 (e ∙ (sym d ∙ t.1))) in
      (λ i. ((t.0 ∙ e) i, None) ∷ map out (sym g i), subst (Topped before before) (sym g) t.1)
  front_last last before k (x ∷ y ∷ z ∷ zs) t e p h = absurd t

  pub front_other : (last before k : ℕ) (held : List (ℕ × P)) → Topped last before held → last ≢ k → (p : P)
      → In (k, p) held
      → (turned (map out held) ≡ (k, None) ∷ map out (let_go k held)) × Topped last before (let_go k held)
  front_other last before k [] t ne p h = absurd h
  front_other last before k (x ∷ []) t ne p (inl h) = absurd (ne (sym t ∙ ap (λ (z : ℕ × P). z.0) (sym h)))
  front_other last before k (x ∷ []) t ne p (inr h) = absurd h
  front_other last before k (x ∷ y ∷ []) t ne p (inl h) = absurd (ne (sym t.0 ∙ ap (λ (z : ℕ × P). z.0) (sym h)))
  front_other last before k (x ∷ y ∷ []) t ne p (inr (inl h)) =
      let yk : y.0 ≡ k = ap (λ (z : ℕ × P). z.0) (sym h) in
      let g : let_go k (x ∷ y ∷ []) ≡ x ∷ [] =
      left_in k x (y ∷ []) (λ d. ne (sym t.0 ∙ d)) ∙ ap (λ zs. x ∷ zs) (dropped k y [] yk) in
      (λ i. (yk i, None) ∷ map out (sym g i), subst (Topped last before) (sym g) t.0)
  front_other last before k (x ∷ y ∷ []) t ne p (inr (inr h)) = absurd h
  front_other last before k (x ∷ y ∷ z ∷ zs) t ne p h = absurd t

  -- values don't count
  topped_map : (last before : ℕ) (f : ℕ × P → ℕ × P) → ((x : ℕ × P) → (f x).0 ≡ x.0) → (held : List (ℕ × P))
      → Topped last before held → Topped last before (map f held)
  topped_map last before f same [] t = tt
  topped_map last before f same (x ∷ []) t = same x ∙ t
  topped_map last before f same (x ∷ y ∷ []) t = (same x ∙ t.0, same y ∙ t.1, t.2)
  topped_map last before f same (x ∷ y ∷ z ∷ zs) t = absurd t

  out_map : (f : ℕ × P → ℕ × P) → ((x : ℕ × P) → (f x).0 ≡ x.0) → (held : List (ℕ × P))
      → map out (map f held) ≡ map out held
  out_map f same [] = refl
  out_map f same (x ∷ xs) = λ i. (same x i, None) ∷ out_map f same xs i

module _ {P A R : Type 0} (c : Core P A R) (slots number splits : ℕ) where
  V : Type 0
  V = View P A R

  -- it is enough to look at a view and its slots by themselves
  along : (last before : ℕ) (v w : View P A R) (xs ys : List (ℕ × Option P)) → v ≡ w → xs ≡ ys
      → Sound c slots number splits last before (w, ys) → Sound c slots number splits last before (v, xs)
  along last before v w xs ys e d h =
      subst (λ (me : Me (Option P) (View P A R)). Sound c slots number splits last before me) (λ i. (sym e i, sym d i))
      h

  module _ (last before : ℕ) (m : Sat c) (sound : Sound c slots number splits last before m) where
    p0 : IsPass c slots last before m
    p0 = sound.0

    pub sound_begun : (a : A) (m' : Sat c) → m.0.held ≡ [] → BeginsAct c m a m'
        → Sound c slots number splits last before m'
    sound_begun a m' empty told =
        let w : View P A R = begun c m.0 a m'.0.seen in
        along last before m'.0 w m'.1 m.1 told.0 told.1 (
          record {
            alive = p0.alive;
            sized = p0.sized;
            slots_out = p0.slots_out;
            order = p0.order;
            may_there = λ k h.
                ⊎_elim (λ e. let d : c.first a < length m.0.opening = told.3 in let z = p0.sized in omega arith)
                (λ h. absurd h) h;
            held_there = p0.held_there;
            knows =
                let l = told.2 in record { legal = l.legal; own = l.own; joined = l.joined; no_others = l.no_others };
          },
          sound.1,
          sound.2,
        )

    pub sound_took : (k : ℕ) (p : P) (m' : Sat c) → In k m.0.may → (Holds m.0 k → ⊥) → TookPart c m k p m'
        → Sound c slots number splits k last m'
    sound_took k p m' may not_held told =
        let t : TakesPart c m k p (m'.0, (k, Some p) ∷ m.1) = told.0 in
        let w : View P A R = taken_out c m.0 k p m'.0.seen in
        let few : length w.may ≤ 2 = subst (λ (u : View P A R). length u.may ≤ 2) t.view t.few in
        let allowed : (j : ℕ) (q : P) → In (j, q) w.held → In j w.may =
        subst (λ (u : View P A R). (j : ℕ) (q : P) → In (j, q) u.held → In j u.may) t.view t.allowed in
        let there : (j : ℕ) → In j w.may → j < length m.0.opening =
        subst (λ (u : View P A R). (j : ℕ) → In j u.may → j < length m.0.opening) t.view t.there in
        along k last m'.0 w m'.1 ((k, None) ∷ m.1) t.view told.1 (
          record {
            alive = p0.alive;
            sized = p0.sized;
            slots_out = ap (λ zs. (k, None) ∷ zs) p0.slots_out;
            order = topped_more last before k p m.0.held w.may p0.order few allowed (λ q h. not_held (q, h));
            may_there = λ j h. let d = there j h in let z = p0.sized in omega arith;
            held_there = λ j q h. let d = there j (allowed j q h) in let z = p0.sized in omega arith;
            knows =
                let l = t.looks in record { legal = l.legal; own = l.own; joined = l.joined; no_others = l.no_others };
          },
          sound.1,
          sound.2,
        )

    pub sound_busy : (k : ℕ) (m' : Sat c) → FindsBusy c m k m' → Sound c slots number splits last before m'
    sound_busy k m' told =
        along last before m'.0 (tried m.0 k) m'.1 m.1 told.0 told.1 (
          record {
            alive = p0.alive;
            sized = p0.sized;
            slots_out = p0.slots_out;
            order = p0.order;
            may_there = p0.may_there;
            held_there = p0.held_there;
            knows =
                let l = p0.knows in record { legal = l.legal; own = l.own; joined = l.joined; no_others = l.no_others };
          },
          sound.1,
          sound.2,
        )

    -- a look
    pub sound_looked : (m' : Sat c) → LooksOn c m m' → Sound c slots number splits last before m'
    sound_looked m' told =
        let w : View P A R = looked m.0 m'.0.seen in
        along last before m'.0 w m'.1 m.1 told.view told.slots (
          record {
            alive = p0.alive;
            sized = p0.sized;
            slots_out = p0.slots_out;
            order = p0.order;
            may_there = p0.may_there;
            held_there = p0.held_there;
            knows =
                let l = told.looks in
                record { legal = l.legal; own = l.own; joined = l.joined; no_others = l.no_others };
          },
          sound.1,
          sound.2,
        )

    pub sound_done : (a : A) (p : P) (o : Option P) (m' : Sat c) → CommitsAct c m a p o m'
        → Sound c slots number splits last before m'
    sound_done a p o m' told =
        let f : ℕ × P → ℕ × P = left_by c m.0.number a p o in
        along last before m'.0 (done c m.0 a p o m'.0.seen) m'.1 m.1 told.view told.slots (
          record {
            alive = p0.alive;
            sized = p0.sized;
            slots_out = p0.slots_out ∙ sym (out_map f (λ x. refl) m.0.held);
            order = topped_map last before f (λ x. refl) m.0.held p0.order;
            may_there = p0.may_there;
            held_there = λ k q h.
                let r = in_map f (k, q) m.0.held h in let d : k ≡ r.0.0 = ap (λ (z : ℕ × P). z.0) r.2 in
                let b = p0.held_there r.0.0 r.0.1 r.1 in omega arith;
            knows =
                let own : calls_of m.0.number m'.0.seen ≡ (done c m.0 a p o m'.0.seen).made =
                told.own ∙ ap (λ (u : View P A R). u.made) told.view in
                record { legal = told.legal; own = own; joined = told.joined; no_others = told.no_others };
          },
          sound.1,
          sound.2,
        )

    pub sound_given : (next k : ℕ) (m' : Sat c) → Topped next before (let_go k m.0.held) → m'.0 ≡ given_back m.0 k
        → m'.1 ≡ map out (let_go k m.0.held) → Sound c slots number splits next before m'
    sound_given next k m' order e d =
        along next before m'.0 (given_back m.0 k) m'.1 (map out (let_go k m.0.held)) e d (
          record {
            alive = p0.alive;
            sized = p0.sized;
            slots_out = refl;
            order = order;
            may_there = λ j h. p0.may_there j (kept_was (λ x. not (eqb x k)) j m.0.may h).0;
            held_there = λ j q h. p0.held_there j q (kept_was (λ x. not (eqb x.0 k)) (j, q) m.0.held h).0;
            knows =
                let l = p0.knows in record { legal = l.legal; own = l.own; joined = l.joined; no_others = l.no_others };
          },
          sound.1,
          sound.2,
        )

    pub sound_divided : (more : ℕ) → more ≡ splits + 1 → Sound c slots number more last before (divided m.0, m.1)
    sound_divided more e =
        let k : Knows c m.0 = p0.knows in (
          record {
            alive = p0.alive;
            sized = p0.sized;
            slots_out = p0.slots_out;
            order = p0.order;
            may_there = p0.may_there;
            held_there = p0.held_there;
            knows =
                record {
                  legal = k.legal;
                  own = k.own;
                  joined = k.joined;
                  no_others = λ z n far. k.no_others z n (omega arith);
                };
          },
          sound.1,
          e ∙ ap (λ k. k + 1) sound.2,
        )

    -- the new pass has no entry in what was seen
    pub no_entry : m.0.number ≡ 0 → calls_of (m.0.splits + 1) m.0.seen ≡ []
    no_entry first = p0.knows.no_others first (m.0.splits + 1) (omega arith)

    pub sound_split : m.0.number ≡ 0 → (more : ℕ) → more ≡ splits + 1 → Sound c slots more 0 0 0 (split_from m.0, [])
    sound_split first more e = (
      record {
        alive = refl;
        sized = p0.sized;
        slots_out = refl;
        order = tt;
        may_there = λ k h. absurd h;
        held_there = λ k p h. absurd h;
        knows =
            record {
              legal = p0.knows.legal;
              own = no_entry first;
              joined = λ j h. absurd h;
              no_others = λ z n far. absurd (omega arith);
            };
      },
      e ∙ ap (λ k. k + 1) sound.2,
      refl,
    )

    -- a join, and the look after it
    pub sound_joined : (w : View P A R) (m' : Sat c) → LooksOn c (merged m.0 w, m.1) m'
        → Sound c slots number splits last before m'
    sound_joined w m' told =
        let l : Looks c (merged m.0 w) m'.0.seen = told.looks in
        along last before m'.0 (joined_with m.0 w m'.0.seen) m'.1 m.1 told.view told.slots (
          record {
            alive = p0.alive;
            sized = p0.sized;
            slots_out = p0.slots_out;
            order = p0.order;
            may_there = p0.may_there;
            held_there = p0.held_there;
            knows = record { legal = l.legal; own = l.own; joined = l.joined; no_others = l.no_others };
          },
          sound.1,
          sound.2,
        )

    -- a pass that holds nothing has no slot
    pub no_slot : m.0.held ≡ [] → m.1 ≡ []
    no_slot e = p0.slots_out ∙ ap (λ (xs : List (ℕ × P)). map out xs) e

-- what a caller is told of a commit
pub committed : {P A R : Type 0} (c : Core P A R) (m : Sat c) (a : A) (p : P) (o : Option P) (m' : Sat c)
    → CommitsAct c m a p o m' → Committed c m.0 a p o m'.0
committed c m a p o m' t =
    record {
      view = t.view;
      between = t.between;
      last = t.last;
      legal = t.legal;
      own = t.own;
      before = t.before;
      held = t.held;
    }
