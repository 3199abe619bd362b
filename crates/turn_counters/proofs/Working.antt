-- One act, step by step.
use Rattle.std.proofs.Common.{◌≡◌, ℕ, [], ◌∷◌, map, refl, ap, sym, subst, ◌∙◌, inl, inr, arith}
use Rattle.std.specs.declared.option.Option.{Option}
use Rattle.std.specs.declared.option.Option.TheVariants.{None, Some}
use Rattle.turn_table.specs.declared.view.View.{View}
use Rattle.turn_table.specs.Views.{In, Holds, AllOut, begun, taken_out, done, given_back, left_by, let_go}
use Rattle.turn_table.specs.Passes.{Committed, with_busy}
use Rattle.turn_counters.specs.declared.bump.Bump.{Bump}
use Rattle.turn_counters.specs.declared.bump.Bump.TheVariants.{First, Both}
use Rattle.turn_counters.specs.Counters.{counters, more}
use Rattle.turn_counters.specs.Worked.{MadeOne}

-- a commit, as the table says it
abbrev Commits : View ℕ Bump ℕ → View ℕ Bump ℕ → Type 0
Commits v w = (a : Bump) (p : ℕ) (o : Option ℕ) → AllOut counters v a p o → Committed counters v a p o w

-- an act on the first counter
module _ (v0 : View ℕ Bump ℕ) {v1 v2 : View ℕ Bump ℕ} (p : ℕ) (e1 : v1 ≡ begun counters v0 First v1.seen)
    (e2 : v2 ≡ with_busy v2.busy (taken_out counters v1 0 p v2.seen)) where
  abbrev alone : View ℕ Bump ℕ
  alone = with_busy v2.busy (taken_out counters (begun counters v0 First v1.seen) 0 p v2.seen)

  is_alone : v2 ≡ alone
  is_alone = e2 ∙ ap (λ v. with_busy v2.busy (taken_out counters v 0 p v2.seen)) e1

  pub first_out : AllOut counters v2 First p None
  first_out =
      subst (λ v. AllOut counters v First p None) (sym is_alone) (record {
        flies = refl;
        pending = refl;
        first = inl refl;
        second = refl;
      })

  module _ {v3 : View ℕ Bump ℕ} (commits : Commits v2 v3) where
    told : Committed counters v2 First p None v3
    told = commits First p None first_out

    is_done : v3 ≡ done counters alone First p None v3.seen
    is_done = told.view ∙ ap (λ v. done counters v First p None v3.seen) is_alone

    pub first_named : In (0, more p) v3.held
    first_named = subst (λ v. In (0, more p) v.held) (sym is_done) (inl refl)

    pub first_made : {v4 : View ℕ Bump ℕ} → v4 ≡ given_back v3 0 → v0.held ≡ [] → MadeOne First v0 v4
    first_made {v4} e4 empty =
        let whole : v4 ≡ given_back (done counters alone First p None v3.seen) 0 =
        e4 ∙ ap (λ v. given_back v 0) is_done in
        subst (λ v. MadeOne First v0 v) (sym whole)
        (record {
          keeps =
              record {
                number = refl;
                joined = refl;
                idle = ap (λ xs. let_go 0 (map (left_by counters v0.number First p None) xs)) empty;
              };
          reply = more p;
          made = refl;
        })

-- an act on both counters
module _ (v0 : View ℕ Bump ℕ) {v1 v2 : View ℕ Bump ℕ} (p : ℕ) (e1 : v1 ≡ begun counters v0 Both v1.seen)
    (e2 : v2 ≡ with_busy v2.busy (taken_out counters v1 0 p v2.seen)) where
  abbrev one_out : View ℕ Bump ℕ
  one_out = with_busy v2.busy (taken_out counters (begun counters v0 Both v1.seen) 0 p v2.seen)

  is_one : v2 ≡ one_out
  is_one = e2 ∙ ap (λ v. with_busy v2.busy (taken_out counters v 0 p v2.seen)) e1

  pub second_may : In 1 v2.may
  second_may = subst (λ v. In 1 v.may) (sym is_one) (inr (inl refl))

  second_free_here : v0.held ≡ [] → Holds one_out 1 → ⊥
  second_free_here empty (q, inl e) = let d : ◌≡◌ {A = ℕ} 1 0 = ap (λ (z : ℕ × ℕ). z.0) e in omega arith
  second_free_here empty (q, inr h) = subst (In (1, q)) empty h

  pub second_free : v0.held ≡ [] → Holds v2 1 → ⊥
  second_free empty h = second_free_here empty (subst (λ v. Holds v 1) is_one h)

  module _ {v3 : View ℕ Bump ℕ} (q : ℕ) (e3 : v3 ≡ with_busy v3.busy (taken_out counters v2 1 q v3.seen)) where
    abbrev two_out : View ℕ Bump ℕ
    two_out = with_busy v3.busy (taken_out counters one_out 1 q v3.seen)

    is_two : v3 ≡ two_out
    is_two = e3 ∙ ap (λ v. with_busy v3.busy (taken_out counters v 1 q v3.seen)) is_one

    pub both_out : AllOut counters v3 Both p (Some q)
    both_out =
        subst (λ v. AllOut counters v Both p (Some q)) (sym is_two) (record {
          flies = refl;
          pending = refl;
          first = inr (inl refl);
          second = (q, refl, inl refl);
        })

    module _ {v4 : View ℕ Bump ℕ} (commits : Commits v3 v4) where
      told_both : Committed counters v3 Both p (Some q) v4
      told_both = commits Both p (Some q) both_out

      is_made : v4 ≡ done counters two_out Both p (Some q) v4.seen
      is_made = told_both.view ∙ ap (λ v. done counters v Both p (Some q) v4.seen) is_two

      pub both_first_named : In (0, more p) v4.held
      both_first_named = subst (λ v. In (0, more p) v.held) (sym is_made) (inr (inl refl))

      module _ {v5 : View ℕ Bump ℕ} (e5 : v5 ≡ given_back v4 0) where
        is_left : v5 ≡ given_back (done counters two_out Both p (Some q) v4.seen) 0
        is_left = e5 ∙ ap (λ v. given_back v 0) is_made

        pub both_second_named : In (1, more q) v5.held
        both_second_named = subst (λ v. In (1, more q) v.held) (sym is_left) (inl refl)

        pub both_made : {v6 : View ℕ Bump ℕ} → v6 ≡ given_back v5 1 → v0.held ≡ [] → MadeOne Both v0 v6
        both_made {v6} e6 empty =
            let whole : v6 ≡ given_back (given_back (done counters two_out Both p (Some q) v4.seen) 0) 1 =
            e6 ∙ ap (λ v. given_back v 1) is_left in
            subst (λ v. MadeOne Both v0 v) (sym whole)
            (record {
              keeps =
                  record {
                    number = refl;
                    joined = refl;
                    idle = ap (λ xs. let_go 1 (let_go 0 (map (left_by counters v0.number Both p (Some q)) xs))) empty;
                  };
              reply = more p;
              made = refl;
            })
