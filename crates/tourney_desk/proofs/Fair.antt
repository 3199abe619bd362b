-- The pairs of a round robin are fair: counts over the pairs are sums over the players, and these are known.
use Rattle.std.proofs.Common.{◌≡◌, ℕ, ◌+◌, ◌-◌, ◌%◌, ◌<◌, ◌≤◌, Bool, true, false, cond, eqb, ltb, refl, sym, ap, subst, ◌∙◌, inl, inr, arith}
use Rattle.std.specs.Prelude.{◌&&◌, ◌||◌, count_by}
use Rattle.std.specs.List.{filter, range_with_len, sum_by}
use Rattle.std.proofs.lemmas.Bool.{cases_eq, cases_order, cases_lt, eq-eqb, ne_eqb, eqb-true, lt-ltb, le-ltb, ltb-true}
use Rattle.std.proofs.Math.Nat.{mod-lt}
use Rattle.tourney_desk.specs.Pairing.{all_pairs, as_pair, first_is_white, meet, pairs_in, pairs_of, players, rounds_of, with_greater}
use Rattle.tourney_desk.specs.Fairness.{IsRoundFair, is_pair_of, stands_in}
use Rattle.tourney_desk.proofs.Rounds.{IsMet, InCircle, WithLast, OfLast, meets_one, rounds_are}
use Rattle.tourney_desk.proofs.Sums.{sum_by-filter, sum_by-flat_map, sum_by-map, sum_by-range, total, total-add, total-at_most_one, total-cross, total-same, total-single, total-swap, total-zero}
use Rattle.std.proofs.Math.Bool.{or-true, or-false}

-- what holds of both orders of two players holds of their pair
pub of_pair : (n : ℕ) (two : ℕ × ℕ) (P : ℕ × ℕ → Type 0) → P two → P (two.1, two.0) → P (as_pair n two)
of_pair n two P a b = elim (first_is_white n two) as (λ t. P (cond t two (two.1, two.0))) [ true ↦ a | false ↦ b ]

-- ---- sums over pairs

sum_by-players : (f : ℕ → ℕ) (n : ℕ) → sum_by f (players n) ≡ total n f
sum_by-players f n =
    sum_by-range f 0 n ∙ total-same n (λ k. f (0 + k)) f (λ k q. ap f (let e : 0 + k ≡ k = omega arith in e))

-- the value of a pair where its two players meet in the round, the lesser number first
abbrev pub met_value : (ℕ × ℕ → ℕ) → ℕ → ℕ → ℕ → ℕ → ℕ
met_value f n round i j = cond (ltb i j) (cond (meet n round (i, j)) (f (as_pair n (i, j))) 0) 0

sum_by-pairs_of : (f : ℕ × ℕ → ℕ) (n round i : ℕ)
    → sum_by f (pairs_of n round i) ≡ total n (λ j. met_value f n round i j)
unfolding pairs_of
sum_by-pairs_of f n round i =
    let value : ℕ × ℕ → ℕ = λ two. cond (meet n round two) (f (as_pair n two)) 0 in
    sum_by-map f (as_pair n) (filter (meet n round) (with_greater n i))
    ∙ sum_by-filter (λ two. f (as_pair n two)) (meet n round) (with_greater n i)
    ∙ sum_by-map value (λ j. (i, j)) (filter (ltb i) (players n))
    ∙ sum_by-filter (λ j. value (i, j)) (ltb i) (players n)
    ∙ sum_by-players (λ j. met_value f n round i j) n

sum_by-pairs_in : (f : ℕ × ℕ → ℕ) (n round : ℕ)
    → sum_by f (pairs_in n round) ≡ total n (λ i. total n (λ j. met_value f n round i j))
unfolding pairs_in
sum_by-pairs_in f n round =
    sum_by-flat_map f (pairs_of n round) (players n)
    ∙ sum_by-players (λ i. sum_by f (pairs_of n round i)) n
    ∙ total-same n (λ i. sum_by f (pairs_of n round i)) (λ i. total n (λ j. met_value f n round i j))
    (λ i q. sum_by-pairs_of f n round i)

-- the value of a pair, the lesser number first
abbrev pub pair_value : (ℕ × ℕ → ℕ) → ℕ → ℕ → ℕ → ℕ
pair_value f n i j = cond (ltb i j) (f (as_pair n (i, j))) 0

-- two players meet in one round
one_round : (f : ℕ × ℕ → ℕ) (n : ℕ) → 0 < n → (i j : ℕ)
    → total (rounds_of n) (λ c. met_value f n (1 + c) i j) ≡ pair_value f n i j
one_round f n some i j =
    let rounds = rounds_of n in
    let left = (i + cond (eqb j rounds) i j) % rounds in
    let are = rounds_are n some in
    let low : left < rounds = mod-lt (i + cond (eqb j rounds) i j) (let q : 0 < rounds = omega (arith, are.odd) in q) in
    let value = f (as_pair n (i, j)) in
    let hit : (c : ℕ) → eqb left (1 + c - 1) ≡ eqb left c = λ c.
    ap (eqb left) (let e : 1 + c - 1 ≡ c = omega arith in e) in
    elim (ltb i j) as (λ t. total rounds (λ c. cond t (cond (eqb left (1 + c - 1)) value 0) 0) ≡ cond t value 0) [
      | true ↦
          total-single rounds (λ c. cond (eqb left (1 + c - 1)) value 0) left low
          (λ c q apart. ap (λ t. cond t value 0) (hit c ∙ ne_eqb left c (λ e. apart (sym e))))
          ∙ ap (λ t. cond t value 0) (hit left ∙ eq-eqb left left refl)
      | false ↦ total-zero rounds (λ c. 0) (λ c q. refl)
    ]

pub sum_by-all_pairs : (f : ℕ × ℕ → ℕ) (n : ℕ) → 0 < n
    → sum_by f (all_pairs n) ≡ total n (λ i. total n (λ j. pair_value f n i j))
unfolding all_pairs
sum_by-all_pairs f n some =
    let rounds = rounds_of n in
    sum_by-flat_map f (pairs_in n) (range_with_len 1 rounds)
    ∙ sum_by-range (λ round. sum_by f (pairs_in n round)) 1 rounds
    ∙ total-same rounds (λ c. sum_by f (pairs_in n (1 + c)))
    (λ c. total n (λ i. total n (λ j. met_value f n (1 + c) i j))) (λ c q. sum_by-pairs_in f n (1 + c))
    ∙ total-swap rounds n (λ c i. total n (λ j. met_value f n (1 + c) i j))
    ∙ total-same n (λ i. total rounds (λ c. total n (λ j. met_value f n (1 + c) i j)))
    (λ i. total n (λ j. pair_value f n i j))
    (λ i q. total-swap rounds n (λ c j. met_value f n (1 + c) i j)
    ∙ total-same n (λ j. total rounds (λ c. met_value f n (1 + c) i j)) (λ j. pair_value f n i j)
    (λ j r. one_round f n some i j))

-- a value that is 0 but at pairs of one player
abbrev pub IsOfPlayer : ℕ → (ℕ × ℕ → ℕ) → Type 0
IsOfPlayer a f = (pair : ℕ × ℕ) → (pair.0 ≡ a → ⊥) → (pair.1 ≡ a → ⊥) → f pair ≡ 0

pub of_player : (n a : ℕ) (f : ℕ × ℕ → ℕ) → IsOfPlayer a f → (i j : ℕ) → (i ≡ a → ⊥) → (j ≡ a → ⊥)
    → f (as_pair n (i, j)) ≡ 0
of_player n a f off i j p q = of_pair n (i, j) (λ pair. f pair ≡ 0) (off (i, j) p q) (off (j, i) q p)

pub nothing : (t : Bool) (x : ℕ) → x ≡ 0 → cond t x 0 ≡ 0
nothing true x e = e
nothing false x e = refl

-- the sum over all pairs of a value of one player, as sums over the others
pub sum_of_player : (n a : ℕ) (f : ℕ × ℕ → ℕ) → a < n → IsOfPlayer a f
    → sum_by f (all_pairs n) ≡ total n (λ k. pair_value f n a k) + total n (λ k. pair_value f n k a)
sum_of_player n a f low off =
    sum_by-all_pairs f n (omega arith)
    ∙ total-cross n a (λ i j. pair_value f n i j) low
    (ap (λ t. cond t (f (as_pair n (a, a))) 0) (le-ltb a a (omega arith)))
    (λ i j p q. nothing (ltb i j) (f (as_pair n (i, j))) (of_player n a f off i j p q))

sum_in_round : (n a round : ℕ) (f : ℕ × ℕ → ℕ) → a < n → IsOfPlayer a f
    → sum_by f (pairs_in n round) ≡ total n (λ k. met_value f n round a k) + total n (λ k. met_value f n round k a)
sum_in_round n a round f low off =
    sum_by-pairs_in f n round
    ∙ total-cross n a (λ i j. met_value f n round i j) low
    (ap (λ t. cond t (cond (meet n round (a, a)) (f (as_pair n (a, a))) 0) 0) (le-ltb a a (omega arith)))
    (λ i j p q. nothing (ltb i j) (cond (meet n round (i, j)) (f (as_pair n (i, j))) 0)
    (nothing (meet n round (i, j)) (f (as_pair n (i, j))) (of_player n a f off i j p q)))

-- ---- every two meet exactly once

is_of-two : (i j k : ℕ) → (i ≡ j → ⊥) → (is_pair_of i j (i, k) ≡ eqb k j) × (is_pair_of i j (k, i) ≡ eqb k j)
is_of-two i j k apart =
    let same : eqb i i ≡ true = eq-eqb i i refl in
    let other : eqb i j ≡ false = ne_eqb i j apart in (
      ap (λ t. (t || eqb k i) && (eqb i j || eqb k j)) same ∙ ap (λ t. t || eqb k j) other,
      ap (λ t. (eqb k i || t) && (eqb k j || eqb i j)) same ∙ ap (λ t. t && (eqb k j || eqb i j)) (or-true (eqb k i))
          ∙ ap (λ t. eqb k j || t) other ∙ or-false (eqb k j),
    )

pub once : (n i j : ℕ) → i < n → j < n → (i ≡ j → ⊥) → count_by (is_pair_of i j) (all_pairs n) ≡ 1
once n i j low high apart =
    let f : ℕ × ℕ → ℕ = λ pair. cond (is_pair_of i j pair) 1 0 in
    let off : IsOfPlayer i f =
    λ pair p q.
    ap (λ t. cond ((t || eqb pair.1 i) && stands_in j pair) 1 0) (ne_eqb pair.0 i p)
    ∙ ap (λ t. cond (t && stands_in j pair) 1 0) (ne_eqb pair.1 i q) in
    let spike : ℕ → ℕ = λ k. cond (eqb k j) 1 0 in
    let value : (k : ℕ) → (f (as_pair n (i, k)) ≡ spike k) × (f (as_pair n (k, i)) ≡ spike k) =
    λ k. (
      of_pair n (i, k) (λ pair. f pair ≡ spike k) (ap (λ t. cond t 1 0) (is_of-two i j k apart).0)
          (ap (λ t. cond t 1 0) (is_of-two i j k apart).1),
      of_pair n (k, i) (λ pair. f pair ≡ spike k) (ap (λ t. cond t 1 0) (is_of-two i j k apart).1)
          (ap (λ t. cond t 1 0) (is_of-two i j k apart).0),
    ) in
    let each : (k : ℕ) → k < n → pair_value f n i k + pair_value f n k i ≡ spike k =
    λ k q.
    ap (λ v. cond (ltb i k) v 0 + pair_value f n k i) (value k).0
    ∙ ap (λ v. cond (ltb i k) (spike k) 0 + cond (ltb k i) v 0) (value k).1
    ∙ elim (cases_order i k) as (λ _. cond (ltb i k) (spike k) 0 + cond (ltb k i) (spike k) 0 ≡ spike k) [
      | inl same ↦
          let none : spike k ≡ 0 = ap (λ t. cond t 1 0) (ne_eqb k j (λ e. apart (same ∙ e))) in
          let first : cond (ltb i k) (spike k) 0 ≡ 0 = nothing (ltb i k) (spike k) none in
          let second : cond (ltb k i) (spike k) 0 ≡ 0 = nothing (ltb k i) (spike k) none in
          omega (arith, none, first, second)
      | inr differ ↦ elim differ as (λ _. cond (ltb i k) (spike k) 0 + cond (ltb k i) (spike k) 0 ≡ spike k) [
        | inl less ↦
            let first : cond (ltb i k) (spike k) 0 ≡ spike k = ap (λ t. cond t (spike k) 0) (lt-ltb i k less) in
            let second : cond (ltb k i) (spike k) 0 ≡ 0 = ap (λ t. cond t (spike k) 0) (le-ltb k i (omega arith)) in
            omega (arith, first, second)
        | inr more ↦
            let first : cond (ltb i k) (spike k) 0 ≡ 0 = ap (λ t. cond t (spike k) 0) (le-ltb i k (omega arith)) in
            let second : cond (ltb k i) (spike k) 0 ≡ spike k = ap (λ t. cond t (spike k) 0) (lt-ltb k i more) in
            omega (arith, first, second)
      ]
    ] in
    sum_of_player n i f low off
    ∙ sym (total-add n (λ k. pair_value f n i k) (λ k. pair_value f n k i))
    ∙ total-same n (λ k. pair_value f n i k + pair_value f n k i) spike each
    ∙ total-single n spike j high (λ k q other. ap (λ t. cond t 1 0) (ne_eqb k j other))
    ∙ ap (λ t. cond t 1 0) (eq-eqb j j refl)

-- ---- nobody stands in two pairs of a round

-- two who meet, the lesser number first, leave the remainder of the round
pub met_as : (n round i j : ℕ) → 0 < n → j < n → i < j → meet n round (i, j) ≡ true
    → IsMet (rounds_of n) (round - 1) i j × IsMet (rounds_of n) (round - 1) j i
met_as n round i j some high less is =
    let rounds = rounds_of n in
    let are = rounds_are n some in
    let left : (i + cond (eqb j rounds) i j) % rounds ≡ round - 1 =
    eqb-true ((i + cond (eqb j rounds) i j) % rounds) (round - 1) is in
    elim (cases_eq j rounds) as (λ _. IsMet rounds (round - 1) i j × IsMet rounds (round - 1) j i) [
      | inl last ↦
          let double : (i + i) % rounds ≡ round - 1 =
          sym (ap (λ t. (i + cond t i j) % rounds) (eq-eqb j rounds last)) ∙ left in
          let low : i < rounds = omega (arith, last, less) in
          (WithLast low last double, OfLast last low double)
      | inr circle ↦
          let sums : (i + j) % rounds ≡ round - 1 =
          sym (ap (λ t. (i + cond t i j) % rounds) (ne_eqb j rounds circle)) ∙ left in
          let low : j < rounds = omega (arith, circle, are.least, high) in
          let turned : (j + i) % rounds ≡ round - 1 =
          ap (λ s. s % rounds) (let e : j + i ≡ i + j = omega arith in e) ∙ sums in (
            InCircle (omega arith) low (λ e. omega (arith, e, less)) sums,
            InCircle low (omega arith) (λ e. omega (arith, e, less)) turned,
          )
    ]

-- a value that isn't 0 comes from two who meet
met_value-some : (f : ℕ × ℕ → ℕ) (n round i j : ℕ) → 0 < met_value f n round i j
    → (i < j) × (meet n round (i, j) ≡ true)
met_value-some f n round i j =
    elim (ltb i j)
    as (λ t.
    ltb i j ≡ t → 0 < cond t (cond (meet n round (i, j)) (f (as_pair n (i, j))) 0) 0
    → (i < j) × (meet n round (i, j) ≡ true)) [
      | true ↦ λ e.
          elim (meet n round (i, j))
          as (λ t.
          meet n round (i, j) ≡ t → 0 < cond t (f (as_pair n (i, j))) 0 → (i < j) × (meet n round (i, j) ≡ true)) [
            | true ↦ λ is h. (ltb-true i j e, is)
            | false ↦ λ is h. absurd (omega (arith, h))
          ] refl
      | false ↦ λ e h. absurd (omega (arith, h))
    ] refl

some_meets : (f : ℕ × ℕ → ℕ) (n round a k : ℕ) → a < n → k < n → 0 < met_value f n round a k + met_value f n round k a
    → IsMet (rounds_of n) (round - 1) a k
some_meets f n round a k low high h =
    elim (cases_lt 0 (met_value f n round a k)) as (λ _. IsMet (rounds_of n) (round - 1) a k) [
      | inl first ↦
          let is = met_value-some f n round a k first in
          (met_as n round a k (omega arith) high is.0 is.1).0
      | inr no_first ↦
          let second : 0 < met_value f n round k a = omega (arith, h, no_first) in
          let is = met_value-some f n round k a second in
          (met_as n round k a (omega arith) low is.0 is.1).1
    ]

small : (s t u : Bool) → cond s (cond t (cond u 1 0) 0) 0 ≤ 1
small false t u = omega arith
small true false u = omega arith
small true true false = omega arith
small true true true = omega arith

pub round_fair : (n round : ℕ) → IsRoundFair n round
round_fair n round a low =
    let f : ℕ × ℕ → ℕ = λ pair. cond (stands_in a pair) 1 0 in
    let off : IsOfPlayer a f =
    λ pair p q. ap (λ t. cond (t || eqb pair.1 a) 1 0) (ne_eqb pair.0 a p) ∙ ap (λ t. cond t 1 0) (ne_eqb pair.1 a q) in
    let are = rounds_are n (omega arith) in
    let both : ℕ → ℕ = λ k. met_value f n round a k + met_value f n round k a in
    let few : (k : ℕ) → k < n → both k ≤ 1 =
    λ k q.
    let first : met_value f n round a k ≤ 1 = small (ltb a k) (meet n round (a, k)) (stands_in a (as_pair n (a, k))) in
    let second : met_value f n round k a ≤ 1 = small (ltb k a) (meet n round (k, a)) (stands_in a (as_pair n (k, a))) in
    elim (cases_lt a k) as (λ _. both k ≤ 1) [
      | inl less ↦
          let none : met_value f n round k a ≡ 0 =
          ap (λ t. cond t (cond (meet n round (k, a)) (f (as_pair n (k, a))) 0) 0) (le-ltb k a (omega arith)) in
          omega (arith, first, none)
      | inr more ↦
          let none : met_value f n round a k ≡ 0 =
          ap (λ t. cond t (cond (meet n round (a, k)) (f (as_pair n (a, k))) 0) 0) (le-ltb a k more) in
          omega (arith, second, none)
    ] in
    let sums : count_by (stands_in a) (pairs_in n round) ≡ total n both =
    sum_in_round n a round f low off
    ∙ sym (total-add n (λ k. met_value f n round a k) (λ k. met_value f n round k a)) in
    let most : total n both ≤ 1 =
    total-at_most_one n both few
    (λ k l q r p s.
    meets_one (rounds_of n) are.half (round - 1) a k l are.odd (some_meets f n round a k low q p)
    (some_meets f n round a l low r s)) in
    subst (λ (t : ℕ). t ≤ 1) (sym sums) most
