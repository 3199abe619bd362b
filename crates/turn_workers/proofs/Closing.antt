-- What the table gives back, by what its workers did.
use Rattle.std.proofs.Common.{◌≡◌, ℕ, ◌+◌, ◌*◌, ◌%◌, ◌^◌, ◌<◌, List, [], ◌∷◌, ◌++◌, map, refl, ap, sym, subst, ◌∙◌, inl, arith}
use Rattle.histories.specs.declared.entry.Entry.{Entry}
use Rattle.histories.specs.History.{calls_of, state}
use Rattle.turn_table.specs.declared.view.Joined.{Joined}
use Rattle.turn_table.specs.declared.view.View.{View}
use Rattle.turn_table.specs.Views.{In, new_view, divided, split_from, joined_with, as_joined, joined_number}
use Rattle.turn_table.specs.Passes.{AllJoined}
use Rattle.turn_table.proofs.Among.{split_on, in_front, in_back, map_in}
use Rattle.turn_counters.specs.declared.bump.Bump.{Bump}
use Rattle.turn_counters.specs.declared.bump.Bump.TheVariants.{First, Both}
use Rattle.turn_counters.specs.Counters.{counters}
use Rattle.turn_workers.specs.Many.{weigh, MadeMany}
use Rattle.turn_workers.proofs.SeenOnce.{W}
use Rattle.turn_workers.proofs.Weighing.{each, both, counts, sums, weigh_sessions}

abbrev zeros : List ℕ
zeros = 0 ∷ 0 ∷ []

-- what the calls of a close say of the history that a pass has seen
pub record Closed (v : View ℕ Bump ℕ) : Type 0 where
  pub own : calls_of 0 v.seen ≡ v.made
  pub joined : (j : Joined Bump ℕ) → In j v.joined → calls_of j.number v.seen ≡ j.calls
  pub no_others : (m : ℕ) → v.splits < m → calls_of m v.seen ≡ []

-- the calls of a worker that was joined
worker_calls : (v w : W) (k : ℕ) → Closed v → In (as_joined w) v.joined → w.number ≡ k → calls_of k v.seen ≡ w.made
worker_calls v w k closed there is = ap (λ m. calls_of m v.seen) (sym is) ∙ closed.joined (as_joined w) there

abbrev pub first_two : W
first_two = divided (divided (new_view zeros))

module _ (n : ℕ) (w1 w2 : W) (s1 s2 : List (Entry Bump ℕ)) (m1 : MadeMany First n (split_from (new_view zeros)) w1)
    (m2 : MadeMany Both n (split_from (divided (new_view zeros))) w2) where
  abbrev both_joined : W
  both_joined = joined_with (joined_with first_two w1 s1) w2 s2

  one_in : In (as_joined w1) both_joined.joined
  one_in = inl refl

  two_in : In (as_joined w2) both_joined.joined
  two_in = in_back (as_joined w2) (as_joined w1 ∷ w1.joined) (as_joined w2 ∷ w2.joined) (inl refl)

  pub two_all : AllJoined both_joined
  two_all m low high = split_on m 1
      (λ e.
      subst (λ k. In k (map joined_number both_joined.joined)) (m1.keeps.number ∙ sym e)
      (map_in joined_number (as_joined w1) both_joined.joined one_in))
      (λ ne.
      let e : m ≡ 2 = omega arith in
      subst (λ k. In k (map joined_number both_joined.joined)) (m2.keeps.number ∙ sym e)
      (map_in joined_number (as_joined w2) both_joined.joined two_in))

  two_weight : (f : Bump → ℕ) → Closed both_joined → weigh f both_joined.seen ≡ n * f First + n * f Both
  two_weight f closed =
      let total : weigh f both_joined.seen ≡ sums f both_joined.seen 2 =
      weigh_sessions f both_joined.seen 2 closed.no_others in
      let a : weigh f (calls_of 0 both_joined.seen) ≡ 0 = ap (weigh f) closed.own in
      let b : weigh f (calls_of 1 both_joined.seen) ≡ 0 + n * f First =
      ap (weigh f) (worker_calls both_joined w1 1 closed one_in m1.keeps.number) ∙ m1.made f in
      let c : weigh f (calls_of 2 both_joined.seen) ≡ 0 + n * f Both =
      ap (weigh f) (worker_calls both_joined w2 2 closed two_in m2.keeps.number) ∙ m2.made f in
      omega arith

  pub two_counts : n < 2 ^ 32 → Closed both_joined → state counters zeros both_joined.seen ≡ 2 * n ∷ n ∷ []
  two_counts small closed =
      let h = counts both_joined.seen 0 0 (omega arith) (omega arith) in
      let a : weigh each both_joined.seen ≡ n * 1 + n * 1 = two_weight each closed in
      let b : weigh both both_joined.seen ≡ n * 0 + n * 1 = two_weight both closed in
      let x : (0 + weigh each both_joined.seen) % 2 ^ 64 ≡ 2 * n = omega arith in
      let y : (0 + weigh both both_joined.seen) % 2 ^ 64 ≡ n = omega arith in
      h ∙ (λ i. x i ∷ y i ∷ [])

abbrev pub first_three : W
first_three = divided first_two

module _ (n : ℕ) (w1 w2 w3 : W) (s1 s2 s3 : List (Entry Bump ℕ))
    (m1 : MadeMany First n (split_from (new_view zeros)) w1)
    (m2 : MadeMany Both n (split_from (divided (new_view zeros))) w2)
    (m3 : MadeMany Both n (split_from first_two) w3) where
  abbrev all_joined : W
  all_joined = joined_with (joined_with (joined_with first_three w1 s1) w2 s2) w3 s3

  three_one : In (as_joined w1) all_joined.joined
  three_one = inl refl

  abbrev front : List (Joined Bump ℕ)
  front = (as_joined w1 ∷ w1.joined) ++ as_joined w2 ∷ w2.joined

  three_two : In (as_joined w2) all_joined.joined
  three_two =
      in_front (as_joined w2) front (as_joined w3 ∷ w3.joined)
      (in_back (as_joined w2) (as_joined w1 ∷ w1.joined) (as_joined w2 ∷ w2.joined) (inl refl))

  three_three : In (as_joined w3) all_joined.joined
  three_three = in_back (as_joined w3) front (as_joined w3 ∷ w3.joined) (inl refl)

  pub three_all : AllJoined all_joined
  three_all m low high = split_on m 1
      (λ e.
      subst (λ k. In k (map joined_number all_joined.joined)) (m1.keeps.number ∙ sym e)
      (map_in joined_number (as_joined w1) all_joined.joined three_one))
      (λ n1. split_on m 2
      (λ e.
      subst (λ k. In k (map joined_number all_joined.joined)) (m2.keeps.number ∙ sym e)
      (map_in joined_number (as_joined w2) all_joined.joined three_two))
      (λ n2.
      let e : m ≡ 3 = omega arith in
      subst (λ k. In k (map joined_number all_joined.joined)) (m3.keeps.number ∙ sym e)
      (map_in joined_number (as_joined w3) all_joined.joined three_three)))

  three_weight : (f : Bump → ℕ) → Closed all_joined → weigh f all_joined.seen ≡ n * f First + (n * f Both + n * f Both)
  three_weight f closed =
      let total : weigh f all_joined.seen ≡ sums f all_joined.seen 3 =
      weigh_sessions f all_joined.seen 3 closed.no_others in
      let a : weigh f (calls_of 0 all_joined.seen) ≡ 0 = ap (weigh f) closed.own in
      let b : weigh f (calls_of 1 all_joined.seen) ≡ 0 + n * f First =
      ap (weigh f) (worker_calls all_joined w1 1 closed three_one m1.keeps.number) ∙ m1.made f in
      let c : weigh f (calls_of 2 all_joined.seen) ≡ 0 + n * f Both =
      ap (weigh f) (worker_calls all_joined w2 2 closed three_two m2.keeps.number) ∙ m2.made f in
      let d : weigh f (calls_of 3 all_joined.seen) ≡ 0 + n * f Both =
      ap (weigh f) (worker_calls all_joined w3 3 closed three_three m3.keeps.number) ∙ m3.made f in
      omega arith

  pub three_counts : n < 2 ^ 32 → Closed all_joined → state counters zeros all_joined.seen ≡ 3 * n ∷ 2 * n ∷ []
  three_counts small closed =
      let h = counts all_joined.seen 0 0 (omega arith) (omega arith) in
      let a : weigh each all_joined.seen ≡ n * 1 + (n * 1 + n * 1) = three_weight each closed in
      let b : weigh both all_joined.seen ≡ n * 0 + (n * 1 + n * 1) = three_weight both closed in
      let x : (0 + weigh each all_joined.seen) % 2 ^ 64 ≡ 3 * n = omega arith in
      let y : (0 + weigh both all_joined.seen) % 2 ^ 64 ≡ 2 * n = omega arith in
      h ∙ (λ i. x i ∷ y i ∷ [])

-- the whole run of two workers
pub two_end : (n : ℕ) (v0 v1 v2 v3 v4 u1 u2 w1 w2 : W) (items : List ℕ) → n < 2 ^ 32
    → v0 ≡ new_view zeros → v1 ≡ divided v0 → u1 ≡ split_from v0 → v2 ≡ divided v1 → u2 ≡ split_from v1
    → MadeMany First n u1 w1 → MadeMany Both n u2 w2 → v3 ≡ joined_with v2 w1 v3.seen → v4 ≡ joined_with v3 w2 v4.seen
    → Closed v4 → items ≡ state counters v4.opening v4.seen → items ≡ 2 * n ∷ n ∷ []
two_end n v0 v1 v2 v3 v4 u1 u2 w1 w2 items small e0 e1 d1 e2 d2 m1 m2 e3 e4 closed parts =
    let f1 : v1 ≡ divided (new_view zeros) = e1 ∙ ap divided e0 in
    let f2 : v2 ≡ first_two = e2 ∙ ap divided f1 in
    let f4 : v4 ≡ joined_with (joined_with first_two w1 v3.seen) w2 v4.seen =
    e4 ∙ ap (λ v. joined_with v w2 v4.seen) (e3 ∙ ap (λ v. joined_with v w1 v3.seen) f2) in
    let n1 : MadeMany First n (split_from (new_view zeros)) w1 =
    subst (λ u. MadeMany First n u w1) (d1 ∙ ap split_from e0) m1 in
    let n2 : MadeMany Both n (split_from (divided (new_view zeros))) w2 =
    subst (λ u. MadeMany Both n u w2) (d2 ∙ ap split_from f1) m2 in
    parts
    ∙ (ap (λ v. state counters v.opening v.seen) f4
    ∙ two_counts n w1 w2 v3.seen v4.seen n1 n2 small (subst Closed f4 closed))

-- the whole run of three workers
pub three_end : (n : ℕ) (v0 v1 v2 v3 v4 v5 v6 u1 u2 u3 w1 w2 w3 : W) (items : List ℕ) → n < 2 ^ 32
    → v0 ≡ new_view zeros → v1 ≡ divided v0 → u1 ≡ split_from v0 → v2 ≡ divided v1 → u2 ≡ split_from v1
    → v3 ≡ divided v2 → u3 ≡ split_from v2
    → MadeMany First n u1 w1 → MadeMany Both n u2 w2 → MadeMany Both n u3 w3 → v4 ≡ joined_with v3 w1 v4.seen
    → v5 ≡ joined_with v4 w2 v5.seen → v6 ≡ joined_with v5 w3 v6.seen
    → Closed v6 → items ≡ state counters v6.opening v6.seen → items ≡ 3 * n ∷ 2 * n ∷ []
three_end n v0 v1 v2 v3 v4 v5 v6 u1 u2 u3 w1 w2 w3 items small e0 e1 d1 e2 d2 e3 d3 m1 m2 m3 e4 e5 e6 closed parts =
    let f1 : v1 ≡ divided (new_view zeros) = e1 ∙ ap divided e0 in
    let f2 : v2 ≡ first_two = e2 ∙ ap divided f1 in
    let f3 : v3 ≡ first_three = e3 ∙ ap divided f2 in
    let f6 : v6 ≡ joined_with (joined_with (joined_with first_three w1 v4.seen) w2 v5.seen) w3 v6.seen =
    e6
    ∙ ap (λ v. joined_with v w3 v6.seen)
    (e5 ∙ ap (λ v. joined_with v w2 v5.seen) (e4 ∙ ap (λ v. joined_with v w1 v4.seen) f3)) in
    let n1 : MadeMany First n (split_from (new_view zeros)) w1 =
    subst (λ u. MadeMany First n u w1) (d1 ∙ ap split_from e0) m1 in
    let n2 : MadeMany Both n (split_from (divided (new_view zeros))) w2 =
    subst (λ u. MadeMany Both n u w2) (d2 ∙ ap split_from f1) m2 in
    let n3 : MadeMany Both n (split_from first_two) w3 = subst (λ u. MadeMany Both n u w3) (d3 ∙ ap split_from f2) m3 in
    parts
    ∙ (ap (λ v. state counters v.opening v.seen) f6
    ∙ three_counts n w1 w2 w3 v4.seen v5.seen v6.seen n1 n2 n3 small (subst Closed f6 closed))
