-- The first half of an act, and what it adds to the second.
use Rattle.std.proofs.Common.{List, ◌≡◌, ◌≢◌, ℕ, ◌++◌, [], ◌∷◌, ⊎_elim, inl, inr, refl, ap, sym, subst, ◌∙◌}
use Rattle.std.proofs.lemmas.List.{append_assoc}
use Rattle.std.specs.List.{slice_get}
use Rattle.std.specs.declared.option.Option.TheVariants.{Some}
use Rattle.std.specs.declared.result.Result.{Result}
use Rattle.std.specs.declared.result.Result.TheVariants.{Ok, Err}
use Rattle.std.specs.Prelude.{OnOk, OnErr}
use Rattle.histories.specs.Core.{Core, Lawful}
use Rattle.histories.specs.History.{IsPrefix, calls_of, entry, state, Legal}
use Rattle.histories.proofs.Histories.{prefix_trans}
use Rattle.memory.specs.declared.NoMemory.{NoMemory}
use Rattle.turn_table.specs.declared.view.View.{View}
use Rattle.turn_table.specs.Views.{In, Holds, Looks, begun, given_back, let_go, taken_out, tried}
use Rattle.turn_table.specs.Passes.{with_busy}
use Rattle.turn_chain.specs.Chain.{fixed, CameTo, HasRun, HasNotRun}
use Rattle.turn_chain.specs.declared.tried.Tried.TheVariants.{Busy}
use Rattle.turn_table.proofs.Keeping.{dropped}
use Rattle.std.specs.Option.{option_and_then}

-- what a pass has become while it makes no entry
pub record Since {P A R : Type 0} (v w : View P A R) : Type 0 where
  pub begins : IsPrefix v.seen w.seen
  pub made : w.made ≡ v.made
  pub same : fixed w ≡ fixed v

module _ {P A R : Type 0} where
  since_trans : (u v w : View P A R) → Since u v → Since v w → Since u w
  since_trans u v w a b =
      record {
        begins = prefix_trans u.seen v.seen w.seen a.begins b.begins;
        made = b.made ∙ a.made;
        same = b.same ∙ a.same;
      }

pub on_err : {T E : Type 0} (r : Result T E) (P : Type 0) → P → OnErr r P
on_err (Ok x) P h = tt
on_err (Err e) P h = h

module _ {P A R : Type 0} (c : Core P A R) where
  since_begun : (v w : View P A R) (a : A) → w ≡ begun c v a w.seen → Looks c v w.seen → Since v w
  since_begun v w a e looks = record { begins = looks.on; made = ap (λ (x : View P A R). x.made) e; same = ap fixed e }

  since_taken : (v w : View P A R) (k : ℕ) (p : P) (tries : List ℕ) → w ≡ with_busy tries (taken_out c v k p w.seen)
      → Looks c v w.seen → Since v w
  since_taken v w k p tries e looks =
      record { begins = looks.on; made = ap (λ (x : View P A R). x.made) e; same = ap fixed e }

  -- what it has become once the first part is out, and once the second is
  module _ (v u w : View P A R) (a : A) (k : ℕ) (p : P) (tries : List ℕ) (e : u ≡ begun c v a u.seen)
      (begins : Looks c v u.seen) (takes : w ≡ with_busy tries (taken_out c u k p w.seen))
      (looks : Looks c u w.seen) where
    pub since_first : Since v w
    since_first = since_trans v u w (since_begun v u a e begins) (since_taken u w k p tries takes looks)

    pub since_second : (x : View P A R) (s : ℕ) (q : P) (more : List ℕ) → x ≡ with_busy more (taken_out c w s q x.seen)
        → Looks c w x.seen → Since v x
    since_second x s q more takes_more looks_on =
        since_trans v w x since_first (since_taken w x s q more takes_more looks_on)

  -- an act that was made after that
  pub ran_since : (v u w : View P A R) (a : A) (r : R) → Since v u → HasRun c u a r w → HasRun c v a r w
  ran_since v u w a r since ran =
      let number : u.number ≡ v.number = ap (λ (x : View P A R). x.number) since.same in
      let opening : u.opening ≡ v.opening = ap (λ (x : View P A R). x.opening) since.same in
      let more : w.made ≡ v.made ++ entry v.number a r ∷ [] =
      ran.more ∙ (λ i. since.made i ++ entry (number i) a r ∷ []) in
      record {
        others = since.begins.0 ++ ran.others;
        ends =
            ran.ends ∙ (λ i. (sym since.begins.1 i ++ ran.others) ++ entry (number i) a r ∷ [])
            ∙ ap (λ es. es ++ entry v.number a r ∷ []) (append_assoc v.seen since.begins.0 ran.others);
        legal = subst (λ xs. Legal c xs w.seen) opening ran.legal;
        own = ran.own ∙ ap (λ n. calls_of n w.seen) number;
        more = more;
      }

  pub unmade_since : (v u w : View P A R) → Since v u → HasNotRun c u w → HasNotRun c v w
  unmade_since v u w since unmade =
      let number : u.number ≡ v.number = ap (λ (x : View P A R). x.number) since.same in
      let opening : u.opening ≡ v.opening = ap (λ (x : View P A R). x.opening) since.same in
      record {
        begins = prefix_trans v.seen u.seen w.seen since.begins unmade.begins;
        legal = subst (λ xs. Legal c xs w.seen) opening unmade.legal;
        own = unmade.own ∙ ap (λ n. calls_of n w.seen) number;
        same = unmade.same ∙ since.made;
      }

  -- the second part isn't held yet
  pub second_free : Lawful c → (v u w : View P A R) (a : A) (k : ℕ) (p : P) (s : ℕ) (tries : List ℕ) → c.fits a
      → v.held ≡ [] → u ≡ begun c v a u.seen → w ≡ with_busy tries (taken_out c u k p w.seen) → Looks c u w.seen
      → slice_get (state c u.opening w.seen) k ≡ Some p → k ≡ c.first a → c.second p w.number a ≡ Some s → Holds w s → ⊥
  second_free law v u w a k p s tries fits idle e d looks value first second h =
      let held : w.held ≡ (k, p) ∷ [] =
      ap (λ (x : View P A R). x.held) d ∙ ap (λ xs. (k, p) ∷ xs) (ap (λ (x : View P A R). x.held) e ∙ idle) in
      let differs : s ≢ c.first a =
      (law.second_in (state c u.opening w.seen) w.number a p s looks.whole fits
      (subst (λ m. slice_get (state c u.opening w.seen) m ≡ Some p) first value) second).1 in
      let there : In (s, h.0) ((k, p) ∷ []) = subst (In (s, h.0)) held h.1 in
      ⊎_elim (λ g. differs (ap (λ (z : ℕ × P). z.0) g ∙ first)) (λ g. absurd g) there

  -- nothing was made where the turn of the first part was another pass's
  module _ (v u w : View P A R) (a : A) (k : ℕ) (e : u ≡ begun c v a u.seen) (looks : Looks c v u.seen)
      (busy : w ≡ tried u k) where
    pub same_busy : fixed w ≡ fixed v
    same_busy = ap fixed busy ∙ ap fixed e

    pub came_busy : (r : R) → k ≡ c.first a → CameTo c v a (Busy k a) r w
    came_busy r first =
        let seen : u.seen ≡ w.seen = ap (λ (x : View P A R). x.seen) (sym busy) in
        let made : w.made ≡ v.made = ap (λ (x : View P A R). x.made) busy ∙ ap (λ (x : View P A R). x.made) e in (
          record {
            begins = subst (IsPrefix v.seen) seen looks.on;
            legal = subst (Legal c v.opening) seen looks.legal;
            own = made ∙ sym looks.own ∙ ap (calls_of v.number) seen;
            same = made;
          },
          refl,
          record {
            part = inl first;
            last = ap (λ (x : View P A R). x.busy) busy ∙ ap (λ (x : View P A R). x.busy ++ k ∷ []) e;
          },
        )

  -- nor where that of the second part was, and the first one went back as it was
  module _ (v u w x y : View P A R) (a : A) (k : ℕ) (p : P) (s : ℕ) (e : u ≡ begun c v a u.seen)
      (begins : Looks c v u.seen)
      (takes : w ≡ taken_out c u k p w.seen) (looks : Looks c u w.seen) (busy : x ≡ tried w s)
      (back : y ≡ given_back x k) where
    once : Since v w
    once = since_first v u w a k p u.busy e begins takes looks

    pub idle_given : v.held ≡ [] → y.held ≡ []
    idle_given idle =
        ap (λ (z : View P A R). z.held) back
        ∙ ap (let_go k)
        (ap (λ (z : View P A R). z.held) busy ∙ ap (λ (z : View P A R). z.held) takes
        ∙ ap (λ zs. (k, p) ∷ zs) (ap (λ (z : View P A R). z.held) e ∙ idle))
        ∙ dropped k (k, p) [] refl

    pub same_given : fixed y ≡ fixed v
    same_given = ap fixed back ∙ ap fixed busy ∙ once.same

    pub came_given : (r : R) → k ≡ c.first a → slice_get (state c u.opening w.seen) k ≡ Some p
        → c.second p w.number a ≡ Some s → CameTo c v a (Busy s a) r y
    came_given r first value second =
        let number : w.number ≡ v.number = ap (λ (z : View P A R). z.number) once.same in
        let opening : u.opening ≡ v.opening = ap (λ (z : View P A R). z.opening) e in
        let seen : w.seen ≡ y.seen =
        ap (λ (z : View P A R). z.seen) (sym busy) ∙ ap (λ (z : View P A R). z.seen) (sym back) in
        let made : y.made ≡ w.made = ap (λ (z : View P A R). z.made) back ∙ ap (λ (z : View P A R). z.made) busy in
        let kept : w.made ≡ u.made = ap (λ (z : View P A R). z.made) takes in
        let there : slice_get (state c v.opening y.seen) (c.first a) ≡ Some p =
        sym (λ i. slice_get (state c (opening i) (seen i)) (first i)) ∙ value in (
          record {
            begins = subst (IsPrefix v.seen) seen once.begins;
            legal = subst (Legal c v.opening) seen (subst (λ xs. Legal c xs w.seen) opening looks.legal);
            own = made ∙ kept ∙ sym looks.own ∙ (λ i. calls_of (ap (λ (z : View P A R). z.number) e i) (seen i));
            same = made ∙ once.made;
          },
          refl,
          record {
            part =
                inr (ap (option_and_then (λ (q : P). c.second q v.number a)) there
                ∙ ap (λ n. c.second p n a) (sym number) ∙ second);
            last = ap (λ (z : View P A R). z.busy) back ∙ ap (λ (z : View P A R). z.busy) busy
                ∙ ap (λ ks. ks ++ s ∷ []) (ap (λ (z : View P A R). z.busy) takes ∙ ap (λ (z : View P A R). z.busy) e);
          },
        )

  -- what both halves came to
  module _ (v u w : View P A R) (a : A) (since : Since v u) where
    pub ok_since : (r : Result Unit NoMemory) (x : R) → OnOk r (HasRun c u a x w) → OnOk r (HasRun c v a x w)
    ok_since (Ok done) x ran = ran_since v u w a x since ran
    ok_since (Err e) x ran = ran

    pub err_since : (r : Result Unit NoMemory) → OnErr r (HasNotRun c u w) → OnErr r (HasNotRun c v w)
    err_since (Ok x) unmade = unmade
    err_since (Err e) unmade = unmade_since v u w since unmade
