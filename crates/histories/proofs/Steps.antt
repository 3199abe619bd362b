-- One act: what it leaves, what it reads, and two acts that touch no common part.
use Rattle.std.proofs.Common.{◌≡◌, ℕ, List, length, set, refl, ap, sym, subst, ◌∙◌, inl, inr, length-set}
use Rattle.std.specs.Prelude.{IfSome}
use Rattle.std.specs.List.{slice_get}
use Rattle.std.specs.Option.{option_map, option_and_then}
use Rattle.std.specs.declared.option.Option.{Option}
use Rattle.std.specs.declared.option.Option.TheVariants.{None, Some}
use Rattle.histories.specs.Core.{Core, second_of, part_at, other_of, Touches, reply, put, new_first, new_second, after}
use Rattle.histories.specs.Laws.{Apart, KeepsLength, LeavesOthers, AgreeAt, RepliesLocally, ChangesLocally, RepliesCommute, StatesCommute, FirstKeeps, SecondKeeps, EachPart}
use Rattle.histories.proofs.Parts.{get_set_else, get_set_cong, set_swap, get_has, each_set}

module _ {P A R : Type 0} (c : Core P A R) where
  length_put : (xs : List P) (o : Option ℕ) (v : Option P) → length (put c xs o v) ≡ length xs
  length_put xs None v = refl
  length_put xs (Some s) None = refl
  length_put xs (Some s) (Some y) = length-set xs s y

  get_put_else : (xs : List P) (o : Option ℕ) (v : Option P) (j : ℕ) → (o ≡ Some j → ⊥)
      → slice_get (put c xs o v) j ≡ slice_get xs j
  get_put_else xs None v j n = refl
  get_put_else xs (Some s) None j n = refl
  get_put_else xs (Some s) (Some y) j n = get_set_else xs s j y (λ e. n (ap Some (sym e)))

  get_put_cong : (xs ys : List P) (o : Option ℕ) (v : Option P) (j : ℕ) → length xs ≡ length ys
      → slice_get xs j ≡ slice_get ys j → slice_get (put c xs o v) j ≡ slice_get (put c ys o v) j
  get_put_cong xs ys None v j n e = e
  get_put_cong xs ys (Some s) None j n e = e
  get_put_cong xs ys (Some s) (Some y) j n e = get_set_cong xs ys s j y n e

  put_swap : (xs : List P) (o o' : Option ℕ) (v w : Option P) → ((s : ℕ) → o ≡ Some s → o' ≡ Some s → ⊥)
      → put c (put c xs o v) o' w ≡ put c (put c xs o' w) o v
  put_swap xs None o' v w n = refl
  put_swap xs (Some i) None v w n = refl
  put_swap xs (Some i) (Some j) None None n = refl
  put_swap xs (Some i) (Some j) None (Some y) n = refl
  put_swap xs (Some i) (Some j) (Some x) None n = refl
  put_swap xs (Some i) (Some j) (Some x) (Some y) n = set_swap xs i j x y (λ e. n i refl (ap Some (sym e)))

  -- the act as two writes
  writes : (xs : List P) (k : ℕ) (a : A)
      → after c xs k a
      ≡ put c (put c xs (Some (c.first a)) (new_first c xs k a)) (second_of c xs k a) (new_second c xs k a)
  unfolding after
  writes xs k a = refl

  pub keeps_length : KeepsLength c
  keeps_length xs k a =
      ap length (writes xs k a)
      ∙ (length_put (put c xs (Some (c.first a)) (new_first c xs k a)) (second_of c xs k a) (new_second c xs k a)
      ∙ length_put xs (Some (c.first a)) (new_first c xs k a))

  pub leaves_others : LeavesOthers c
  leaves_others xs k a s n =
      ap (λ zs. slice_get zs s) (writes xs k a)
      ∙ (get_put_else (put c xs (Some (c.first a)) (new_first c xs k a)) (second_of c xs k a) (new_second c xs k a) s
      (λ e. n (inr e))
      ∙ get_put_else xs (Some (c.first a)) (new_first c xs k a) s
      (λ e. n (inl (let q : Some (c.first a) ≡ Some s = e in cc))))

  -- what an act reads is the same where its footprint is
  module _ (xs ys : List P) (k : ℕ) (a : A) (agree : AgreeAt c xs ys k a) where
    first_same : slice_get ys (c.first a) ≡ slice_get xs (c.first a)
    first_same = agree (c.first a) (inl refl)

    pub second_same : second_of c ys k a ≡ second_of c xs k a
    second_same = ap (option_and_then (λ p. c.second p k a)) first_same

    part_same : (o : Option ℕ) → second_of c xs k a ≡ o → part_at c ys o ≡ part_at c xs o
    part_same None e = refl
    part_same (Some s) e = agree s (inr e)

    other_same : other_of c ys k a ≡ other_of c xs k a
    other_same = ap (part_at c ys) second_same ∙ part_same (second_of c xs k a) refl

    pub reply_same : reply c ys k a ≡ reply c xs k a
    reply_same = λ i. option_map (λ p. c.answer p (other_same i) k a) (first_same i)

    new_first_same : new_first c ys k a ≡ new_first c xs k a
    new_first_same = λ i. option_map (λ p. c.one p (other_same i) k a) (first_same i)

    new_second_same : new_second c ys k a ≡ new_second c xs k a
    new_second_same = λ i. option_and_then (λ p. option_map (λ q. c.two p q k a) (other_same i)) (first_same i)

    -- the same writes on the other state
    writes_same : after c ys k a
        ≡ put c (put c ys (Some (c.first a)) (new_first c xs k a)) (second_of c xs k a) (new_second c xs k a)
    writes_same =
        writes ys k a
        ∙ (λ i. put c (put c ys (Some (c.first a)) (new_first_same i)) (second_same i) (new_second_same i))

    pub changes_same : length ys ≡ length xs → (s : ℕ) → Touches c xs k a s
        → slice_get (after c ys k a) s ≡ slice_get (after c xs k a) s
    changes_same n s t =
        ap (λ zs. slice_get zs s) writes_same
        ∙ (get_put_cong (put c ys (Some (c.first a)) (new_first c xs k a))
        (put c xs (Some (c.first a)) (new_first c xs k a)) (second_of c xs k a) (new_second c xs k a) s
        (length_put ys (Some (c.first a)) (new_first c xs k a)
        ∙ (n ∙ sym (length_put xs (Some (c.first a)) (new_first c xs k a))))
        (get_put_cong ys xs (Some (c.first a)) (new_first c xs k a) s n (agree s t))
        ∙ ap (λ zs. slice_get zs s) (sym (writes xs k a)))

  pub replies_locally : RepliesLocally c
  replies_locally xs ys k a agree = reply_same xs ys k a agree

  pub changes_locally : ChangesLocally c
  changes_locally xs ys k a n agree s t = changes_same xs ys k a agree n s t

  -- an act that touches no part of another one leaves the other's footprint
  agree_after : (xs : List P) (k : ℕ) (a : A) (m : ℕ) (b : A) → Apart c xs k a m b → AgreeAt c xs (after c xs k a) m b
  agree_after xs k a m b apart s t = leaves_others xs k a s (λ u. apart s u t)

  apart_sym : (xs : List P) (k : ℕ) (a : A) (m : ℕ) (b : A) → Apart c xs k a m b → Apart c xs m b k a
  apart_sym xs k a m b apart s t u = apart s u t

  pub replies_commute : RepliesCommute c
  replies_commute xs k a m b apart = (
    reply_same xs (after c xs m b) k a (agree_after xs m b k a (apart_sym xs k a m b apart)),
    reply_same xs (after c xs k a) m b (agree_after xs k a m b apart),
  )

  pub states_commute : StatesCommute c
  states_commute xs k a m b apart =
      let f : Option ℕ = Some (c.first a) in
      let v : Option P = new_first c xs k a in
      let o : Option ℕ = second_of c xs k a in
      let w : Option P = new_second c xs k a in
      let g : Option ℕ = Some (c.first b) in
      let x : Option P = new_first c xs m b in
      let q : Option ℕ = second_of c xs m b in
      let y : Option P = new_second c xs m b in
      let fg : (s : ℕ) → f ≡ Some s → g ≡ Some s → ⊥ = λ s d e.
      apart s (inl (let h : f ≡ Some s = d in cc)) (inl (let h : g ≡ Some s = e in cc)) in
      let fq : (s : ℕ) → f ≡ Some s → q ≡ Some s → ⊥ = λ s d e. apart s (inl (let h : f ≡ Some s = d in cc)) (inr e) in
      let og : (s : ℕ) → o ≡ Some s → g ≡ Some s → ⊥ = λ s d e. apart s (inr d) (inl (let h : g ≡ Some s = e in cc)) in
      let oq : (s : ℕ) → o ≡ Some s → q ≡ Some s → ⊥ = λ s d e. apart s (inr d) (inr e) in
      let left : after c (after c xs k a) m b ≡ put c (put c (put c (put c xs f v) o w) g x) q y =
      writes_same xs (after c xs k a) m b (agree_after xs k a m b apart)
      ∙ ap (λ zs. put c (put c zs g x) q y) (writes xs k a) in
      let right : after c (after c xs m b) k a ≡ put c (put c (put c (put c xs g x) q y) f v) o w =
      writes_same xs (after c xs m b) k a (agree_after xs m b k a (apart_sym xs k a m b apart))
      ∙ ap (λ zs. put c (put c zs f v) o w) (writes xs m b) in
      let s1 : put c (put c (put c (put c xs f v) o w) g x) q y ≡ put c (put c (put c (put c xs f v) g x) o w) q y =
      ap (λ zs. put c zs q y) (put_swap (put c xs f v) o g w x og) in
      let s2 : put c (put c (put c (put c xs f v) g x) o w) q y ≡ put c (put c (put c (put c xs f v) g x) q y) o w =
      put_swap (put c (put c xs f v) g x) o q w y oq in
      let s3 : put c (put c (put c (put c xs f v) g x) q y) o w ≡ put c (put c (put c (put c xs g x) f v) q y) o w =
      ap (λ zs. put c (put c zs q y) o w) (put_swap xs f g v x fg) in
      let s4 : put c (put c (put c (put c xs g x) f v) q y) o w ≡ put c (put c (put c (put c xs g x) q y) f v) o w =
      ap (λ zs. put c zs o w) (put_swap (put c xs g x) f q v y fq) in
      left ∙ (s1 ∙ (s2 ∙ (s3 ∙ (s4 ∙ sym right))))

  -- the state after an act with one part
  pub after_alone : (xs : List P) (k : ℕ) (a : A) (p : P) → slice_get xs (c.first a) ≡ Some p → c.second p k a ≡ None
      → after c xs k a ≡ set xs (c.first a) (c.one p None k a)
  after_alone xs k a p e n =
      let so : second_of c xs k a ≡ None = ap (option_and_then (λ r. c.second r k a)) e ∙ n in
      let oo : other_of c xs k a ≡ None = ap (part_at c xs) so in
      writes xs k a
      ∙ ((λ i.
      put c (put c xs (Some (c.first a)) (option_map (λ r. c.one r (oo i) k a) (e i))) (so i) (new_second c xs k a)))

  -- the reply of an act with one part
  pub reply_alone : (xs : List P) (k : ℕ) (a : A) (p : P) → slice_get xs (c.first a) ≡ Some p → c.second p k a ≡ None
      → reply c xs k a ≡ Some (c.answer p None k a)
  reply_alone xs k a p e n =
      let so : second_of c xs k a ≡ None = ap (option_and_then (λ r. c.second r k a)) e ∙ n in
      let oo : other_of c xs k a ≡ None = ap (part_at c xs) so in
      λ i. option_map (λ r. c.answer r (oo i) k a) (e i)

  -- the state after an act with two parts
  pub after_together : (xs : List P) (k : ℕ) (a : A) (p q : P) (s : ℕ) → slice_get xs (c.first a) ≡ Some p
      → c.second p k a ≡ Some s → slice_get xs s ≡ Some q
      → after c xs k a ≡ set (set xs (c.first a) (c.one p (Some q) k a)) s (c.two p q k a)
  after_together xs k a p q s e n d =
      let so : second_of c xs k a ≡ Some s = ap (option_and_then (λ r. c.second r k a)) e ∙ n in
      let oo : other_of c xs k a ≡ Some q = ap (part_at c xs) so ∙ d in
      writes xs k a
      ∙ (λ i.
      put c (put c xs (Some (c.first a)) (option_map (λ r. c.one r (oo i) k a) (e i))) (so i)
      (option_and_then (λ r. option_map (λ t. c.two r t k a) (oo i)) (e i)))

  pub reply_together : (xs : List P) (k : ℕ) (a : A) (p q : P) (s : ℕ) → slice_get xs (c.first a) ≡ Some p
      → c.second p k a ≡ Some s → slice_get xs s ≡ Some q → reply c xs k a ≡ Some (c.answer p (Some q) k a)
  reply_together xs k a p q s e n d =
      let so : second_of c xs k a ≡ Some s = ap (option_and_then (λ r. c.second r k a)) e ∙ n in
      let oo : other_of c xs k a ≡ Some q = ap (part_at c xs) so ∙ d in
      λ i. option_map (λ r. c.answer r (oo i) k a) (e i)

  module _ (Q : P → Type 0) where
    each_put : (xs : List P) (o : Option ℕ) (v : Option P) → IfSome v Q → EachPart c Q xs → EachPart c Q (put c xs o v)
    each_put xs None v h q = q
    each_put xs (Some i) None h q = q
    each_put xs (Some i) (Some y) h q = each_set Q xs i y h q

    part_has : (xs : List P) (o : Option ℕ) → EachPart c Q xs → IfSome (part_at c xs o) Q
    part_has xs None q = tt
    part_has xs (Some s) q = get_has Q xs s q

    first_has : FirstKeeps c Q → (k : ℕ) (a : A) → c.fits a → (p o : Option P) → IfSome p Q → IfSome o Q
        → IfSome (option_map (λ r. c.one r o k a) p) Q
    first_has one k a f None o hp ho = tt
    first_has one k a f (Some p) o hp ho = one p o k a f hp ho

    second_has : SecondKeeps c Q → (k : ℕ) (a : A) → c.fits a → (p o : Option P) → IfSome p Q → IfSome o Q
        → IfSome (option_and_then (λ r. option_map (λ t. c.two r t k a) o) p) Q
    second_has two k a f None o hp ho = tt
    second_has two k a f (Some p) None hp ho = tt
    second_has two k a f (Some p) (Some q) hp ho = two p q k a f hp ho

    pub each_after : FirstKeeps c Q → SecondKeeps c Q → (xs : List P) (k : ℕ) (a : A) → c.fits a → EachPart c Q xs
        → EachPart c Q (after c xs k a)
    each_after one two xs k a f q =
        let hp : IfSome (slice_get xs (c.first a)) Q = get_has Q xs (c.first a) q in
        let ho : IfSome (other_of c xs k a) Q = part_has xs (second_of c xs k a) q in
        let G : List P → Type 0 = EachPart c Q in
        subst G (sym (writes xs k a))
        (each_put (put c xs (Some (c.first a)) (new_first c xs k a)) (second_of c xs k a) (new_second c xs k a)
        (second_has two k a f (slice_get xs (c.first a)) (other_of c xs k a) hp ho)
        (each_put xs (Some (c.first a)) (new_first c xs k a)
        (first_has one k a f (slice_get xs (c.first a)) (other_of c xs k a) hp ho) q))
