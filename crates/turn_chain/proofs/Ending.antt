-- The second half of an act: it is committed, and its parts are given back.
use Rattle.std.proofs.Common.{◌≡◌, ◌≢◌, ℕ, cond, List, [], ◌∷◌, map, refl, ap, sym, subst, ◌∙◌, inl, inr, eq-eqb, ne_eqb}
use Rattle.std.proofs.lemmas.Result.{IfOk-at_ok}
use Rattle.std.specs.List.{slice_get}
use Rattle.std.specs.declared.option.Option.{Option}
use Rattle.std.specs.declared.option.Option.TheVariants.{None, Some}
use Rattle.std.specs.declared.result.Result.{Result}
use Rattle.std.specs.declared.result.Result.TheVariants.{Ok, Err}
use Rattle.std.specs.Prelude.{OnOk}
use Rattle.histories.specs.Core.{Core, Lawful}
use Rattle.histories.specs.History.{state}
use Rattle.turn_table.specs.declared.view.View.{View}
use Rattle.turn_table.specs.Views.{In, AllOut, SecondOut, done, given_back, left_by, let_go}
use Rattle.turn_table.specs.Passes.{Committed}
use Rattle.turn_table.proofs.Keeping.{dropped, left_in}
use Rattle.turn_chain.specs.Lent.{IsFirst, AreBoth}
use Rattle.turn_chain.specs.Chain.{fixed, HasRun, Ready}

pub on_ok : {T E P : Type 0} (r : Result T E) → P → OnOk r P
on_ok (Ok x) h = h
on_ok (Err e) h = tt

-- what an act's answer says of the pass's number, said of the number that the pass has
module _ {T E X : Type 0} {r : Result T E} {x : T} {y : X} {m n : ℕ} (f : ℕ → X) where
  pub said_of : r ≡ Ok x → m ≡ n → OnOk r (y ≡ f m) → y ≡ f n
  said_of is e says = IfOk-at_ok (λ _. y ≡ f m) is says ∙ ap f e

module _ {P A R : Type 0} (c : Core P A R) where
  -- a commit, as the table says it
  abbrev Commits : View P A R → View P A R → Type 0
  Commits v w = (a : A) (p : P) (o : Option P) → AllOut c v a p o → Committed c v a p o w

module _ {P A R : Type 0} {c : Core P A R} {v : View P A R} {a : A} where
  -- an act of one part
  module _ {k : ℕ} {p : P} (ready : Ready c v a ((k, p) ∷ [])) (first : k ≡ c.first a) where
    in_front : In (k, p) v.held
    in_front = subst (In (k, p)) (sym ready.out) (inl refl)

    first_there : In (c.first a, p) v.held
    first_there = subst (λ m. In (m, p) v.held) first in_front

    pub lent_first : IsFirst c a p
    lent_first = (state c v.opening v.seen, ready.whole, ready.named (c.first a) p first_there)

    module _ (single : c.second p v.number a ≡ None) where
      pub out_alone : AllOut c v a p None
      out_alone =
          record {
            flies = ready.flies;
            pending = ready.pending;
            first = first_there;
            second = subst (λ o. SecondOut o None v.held) (sym single) refl;
          }

      module _ {w : View P A R} (commits : Commits c v w) where
        told : Committed c v a p None w
        told = commits a p None out_alone

        abbrev new : P
        new = c.one p None v.number a

        held_is : w.held ≡ (k, new) ∷ []
        held_is =
            ap (λ (x : View P A R). x.held) told.view
            ∙ (ap (map (left_by c v.number a p None)) ready.out
            ∙ ap (λ b. (k, cond b new p) ∷ []) (eq-eqb k (c.first a) first))

        pub named_alone : {q : P} → q ≡ new → In (k, q) w.held
        named_alone {q = q} e = subst (In (k, q)) (sym held_is) (inl (λ i. (k, e i)))

        module _ {u : View P A R} (back : u ≡ given_back w k) where
          pub idle_alone : u.held ≡ []
          idle_alone =
              ap (λ (x : View P A R). x.held) back
              ∙ (ap (let_go k) held_is ∙ dropped k (k, new) [] refl)

          pub same_alone : fixed u ≡ fixed v
          same_alone = ap fixed back ∙ ap fixed told.view

          pub ran_alone : {r : R} → r ≡ c.answer p None v.number a → HasRun c v a r u
          ran_alone e =
              let told_view : w ≡ done c v a p None w.seen = told.view in
              let at_end : HasRun c v a (c.answer p None v.number a) (given_back w k) = record {
                others = told.between;
                ends = told.last;
                legal = told.legal;
                own = sym told.own;
                more = ap (λ (x : View P A R). x.made) told_view;
              } in
              subst (λ x. HasRun c v a x u) (sym e)
              (subst (HasRun c v a (c.answer p None v.number a)) (sym back) at_end)

  -- an act of two parts
  module _ (law : Lawful c) (fits : c.fits a) {k : ℕ} {p : P} {s : ℕ} {q : P}
      (ready : Ready c v a ((s, q) ∷ (k, p) ∷ [])) (first : k ≡ c.first a)
      (second : c.second p v.number a ≡ Some s) where
    first_in_both : In (c.first a, p) v.held
    first_in_both = subst (λ m. In (m, p) v.held) first (subst (In (k, p)) (sym ready.out) (inr (inl refl)))

    second_in_both : In (s, q) v.held
    second_in_both = subst (In (s, q)) (sym ready.out) (inl refl)

    first_value : slice_get (state c v.opening v.seen) (c.first a) ≡ Some p
    first_value = ready.named (c.first a) p first_in_both

    pub lent_both : AreBoth c v.number a p q
    lent_both = (state c v.opening v.seen, s, ready.whole, first_value, second, ready.named s q second_in_both)

    pub second_differs : s ≢ k
    second_differs e =
        (law.second_in (state c v.opening v.seen) v.number a p s ready.whole fits first_value second).1 (e ∙ first)

    pub out_both : AllOut c v a p (Some q)
    out_both =
        record {
          flies = ready.flies;
          pending = ready.pending;
          first = first_in_both;
          second = subst (λ o. SecondOut o (Some q) v.held) (sym second) (q, refl, second_in_both);
        }

    -- a part that is given back stays out of the way of the other
    pub second_left_in : (x y : P) (held : List (ℕ × P)) → held ≡ (s, x) ∷ (k, y) ∷ [] → let_go k held ≡ (s, x) ∷ []
    second_left_in x y held e =
        ap (let_go k) e
        ∙ (left_in k (s, x) ((k, y) ∷ []) second_differs
        ∙ ap (λ zs. (s, x) ∷ zs) (dropped k (k, y) [] refl))

    pub none_left : (x y : P) (held : List (ℕ × P)) → held ≡ (s, x) ∷ (k, y) ∷ [] → let_go s (let_go k held) ≡ []
    none_left x y held e = ap (let_go s) (second_left_in x y held e) ∙ dropped s (s, x) [] refl

    -- after running out of memory
    pub named_again : {u : View P A R} → u ≡ given_back v k → {z : P} → z ≡ q → In (s, z) u.held
    named_again e {z = z} is =
        subst (In (s, z)) (sym (ap (λ (x : View P A R). x.held) e ∙ second_left_in q p v.held ready.out))
        (inl (λ i. (s, is i)))

    module _ {w : View P A R} (commits : Commits c v w) where
      told_both : Committed c v a p (Some q) w
      told_both = commits a p (Some q) out_both

      abbrev new_one : P
      new_one = c.one p (Some q) v.number a

      abbrev new_two : P
      new_two = c.two p q v.number a

      both_held : w.held ≡ (s, new_two) ∷ (k, new_one) ∷ []
      both_held =
          ap (λ (x : View P A R). x.held) told_both.view
          ∙ (ap (map (left_by c v.number a p (Some q))) ready.out
          ∙ (λ i.
          (s, cond (ne_eqb s (c.first a) (λ e. second_differs (e ∙ sym first)) i) new_one new_two)
          ∷ (k, cond (eq-eqb k (c.first a) first i) new_one (c.two p q v.number a)) ∷ []))

      pub named_first : {x : P} → x ≡ new_one → In (k, x) w.held
      named_first {x = x} e = subst (In (k, x)) (sym both_held) (inr (inl (λ i. (k, e i))))

      module _ {t : View P A R} (back : t ≡ given_back w k) where
        pub named_second : {y : P} → y ≡ new_two → In (s, y) t.held
        named_second {y = y} e =
            subst (In (s, y))
            (sym (ap (λ (x : View P A R). x.held) back ∙ second_left_in new_two new_one w.held both_held))
            (inl (λ i. (s, e i)))

        module _ {u : View P A R} (all_back : u ≡ given_back t s) where
          u_is : u ≡ given_back (given_back w k) s
          u_is = all_back ∙ ap (λ x. given_back x s) back

          pub idle_both : u.held ≡ []
          idle_both = ap (λ (x : View P A R). x.held) u_is ∙ none_left new_two new_one w.held both_held

          pub same_both : fixed u ≡ fixed v
          same_both = ap fixed u_is ∙ ap fixed told_both.view

          pub ran_both : {r : R} → r ≡ c.answer p (Some q) v.number a → HasRun c v a r u
          ran_both e =
              let at_end : HasRun c v a (c.answer p (Some q) v.number a) (given_back (given_back w k) s) = record {
                others = told_both.between;
                ends = told_both.last;
                legal = told_both.legal;
                own = sym told_both.own;
                more = ap (λ (x : View P A R). x.made) told_both.view;
              } in
              subst (λ x. HasRun c v a x u) (sym e)
              (subst (HasRun c v a (c.answer p (Some q) v.number a)) (sym u_is) at_end)
