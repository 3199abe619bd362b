-- Which two meet with which colours, from the rule of colours alone.
use Rattle.std.proofs.Common.{◌≡◌, ℕ, ◌+◌, ◌<◌, ◌≤◌, Bool, true, false, cond, eqb, ltb, List, [], ◌∷◌, refl, sym, ap, ◌∙◌, inl, inr, arith}
use Rattle.std.specs.Prelude.{◌⊎◌, ◌&&◌, ◌||◌, count_by}
use Rattle.std.specs.List.{list_any}
use Rattle.std.proofs.lemmas.Bool.{cases_eq, cases_lt, cases_order, eq-eqb, ne_eqb, eqb-true, lt-ltb, le-ltb, and_left, and_right}
use Rattle.std.proofs.lemmas.List.Sums.{sum_by-cons}
use Rattle.tourney_desk.specs.Pairing.{all_pairs, as_pair, is_paired}
use Rattle.tourney_desk.proofs.Fair.{IsOfPlayer, nothing, of_pair, of_player, pair_value, sum_by-all_pairs, sum_of_player}
use Rattle.tourney_desk.proofs.Sums.{total, total-single, total-zero}
use Rattle.std.proofs.Math.Bool.{and-true}

-- an element passes exactly where at least one is counted
any-count : {X : Type 0} (p : X → Bool) (xs : List X) → list_any p xs ≡ ltb 0 (count_by p xs)
any-count p [] = refl
any-count p (x ∷ xs) =
    let counted : count_by p (x ∷ xs) ≡ cond (p x) 1 0 + count_by p xs = sum_by-cons (λ y. cond (p y) 1 0) x xs in
    elim (p x) as (λ t. (t || list_any p xs) ≡ ltb 0 (cond t 1 0 + count_by p xs)) [
      | true ↦ sym (lt-ltb 0 (1 + count_by p xs) (omega arith))
      | false ↦ any-count p xs ∙ ap (ltb 0) (let e : count_by p xs ≡ 0 + count_by p xs = omega arith in e)
    ] ∙ ap (ltb 0) (sym counted)

-- the pair is of these two with these colours
abbrev is_game : ℕ → ℕ → ℕ × ℕ → Bool
is_game w b pair = eqb pair.0 w && eqb pair.1 b

abbrev value : ℕ → ℕ → ℕ × ℕ → ℕ
value w b pair = cond (is_game w b pair) 1 0

-- it is where White is that player, and Black that one
off_white : (w b : ℕ) → IsOfPlayer w (value w b)
off_white w b pair p q = ap (λ t. cond (t && eqb pair.1 b) 1 0) (ne_eqb pair.0 w p)

off_black : (w b : ℕ) → IsOfPlayer b (value w b)
off_black w b pair p q = ap (λ t. cond t 1 0) (and_right (eqb pair.0 w) (eqb pair.1 b) (ne_eqb pair.1 b q))

-- where two have such a pair, its first is White
pair_told : (n i j w b : ℕ) → ((i ≡ w) × (j ≡ b)) ⊎ ((i ≡ b) × (j ≡ w)) → (w ≡ b → ⊥)
    → is_game w b (as_pair n (i, j)) ≡ eqb (as_pair n (i, j)).0 w
pair_told n i j w b (inl e) apart =
    of_pair n (i, j) (λ pair. is_game w b pair ≡ eqb pair.0 w)
    (ap (λ t. eqb i w && t) (eq-eqb j b e.1) ∙ and-true (eqb i w))
    (ap (λ t. t && eqb i b) (ne_eqb j w (λ same. apart (sym same ∙ e.1)))
    ∙ sym (ne_eqb j w (λ same. apart (sym same ∙ e.1))))
pair_told n i j w b (inr e) apart =
    of_pair n (i, j) (λ pair. is_game w b pair ≡ eqb pair.0 w)
    (ap (λ t. t && eqb j b) (ne_eqb i w (λ same. apart (sym same ∙ e.0)))
    ∙ sym (ne_eqb i w (λ same. apart (sym same ∙ e.0))))
    (ap (λ t. eqb j w && t) (eq-eqb i b e.0) ∙ and-true (eqb j w))

bit_back : (t : Bool) → ltb 0 (cond t 1 0) ≡ t
bit_back true = refl
bit_back false = refl

-- the count of such pairs of two different players
count_is : (n w b : ℕ) → w < n → b < n → (w ≡ b → ⊥)
    → count_by (is_game w b) (all_pairs n) ≡ pair_value (value w b) n w b + pair_value (value w b) n b w
count_is n w b p q apart =
    let f = value w b in
    let other : b ≡ w → ⊥ = λ e. apart (sym e) in
    sum_of_player n w f p (off_white w b)
    ∙ ap (λ t. t + total n (λ k. pair_value f n k w))
    (total-single n (λ k. pair_value f n w k) b q
    (λ k r differs. nothing (ltb w k) (f (as_pair n (w, k))) (of_player n b f (off_black w b) w k apart differs)))
    ∙ ap (λ t. pair_value f n w b + t)
    (total-single n (λ k. pair_value f n k w) b q
    (λ k r differs. nothing (ltb k w) (f (as_pair n (k, w))) (of_player n b f (off_black w b) k w differs apart)))

-- two meet with these colours where White is the first of their pair
pub paired_less : (n w b : ℕ) → b < n → w < b → is_paired n w b ≡ eqb (as_pair n (w, b)).0 w
paired_less n w b q less =
    let f = value w b in
    let apart : w ≡ b → ⊥ = λ e. omega (arith, e, less) in
    let first : pair_value f n w b ≡ f (as_pair n (w, b)) =
    ap (λ t. cond t (f (as_pair n (w, b))) 0) (lt-ltb w b less) in
    let second : pair_value f n b w ≡ 0 = ap (λ t. cond t (f (as_pair n (b, w))) 0) (le-ltb b w (omega arith)) in
    let sums : pair_value f n w b + pair_value f n b w ≡ f (as_pair n (w, b)) = omega (arith, first, second) in
    any-count (is_game w b) (all_pairs n) ∙ ap (ltb 0) (count_is n w b (omega arith) q apart ∙ sums)
    ∙ bit_back (is_game w b (as_pair n (w, b))) ∙ pair_told n w b w b (inl (refl, refl)) apart

pub paired_more : (n w b : ℕ) → w < n → b < w → is_paired n w b ≡ eqb (as_pair n (b, w)).0 w
paired_more n w b p more =
    let f = value w b in
    let apart : w ≡ b → ⊥ = λ e. omega (arith, e, more) in
    let first : pair_value f n w b ≡ 0 = ap (λ t. cond t (f (as_pair n (w, b))) 0) (le-ltb w b (omega arith)) in
    let second : pair_value f n b w ≡ f (as_pair n (b, w)) =
    ap (λ t. cond t (f (as_pair n (b, w))) 0) (lt-ltb b w more) in
    let sums : pair_value f n w b + pair_value f n b w ≡ f (as_pair n (b, w)) = omega (arith, first, second) in
    any-count (is_game w b) (all_pairs n) ∙ ap (ltb 0) (count_is n w b p (omega arith) apart ∙ sums)
    ∙ bit_back (is_game w b (as_pair n (b, w))) ∙ pair_told n b w w b (inr (refl, refl)) apart

-- two who have no such pair don't meet so
unpaired : (n w b : ℕ) → 0 < n → ((i j : ℕ) → i < n → j < n → i < j → value w b (as_pair n (i, j)) ≡ 0)
    → is_paired n w b ≡ false
unpaired n w b some none =
    let f = value w b in
    let each : (i j : ℕ) → i < n → j < n → pair_value f n i j ≡ 0 =
    λ i j p q. elim (cases_lt i j) as (λ _. pair_value f n i j ≡ 0) [
      | inl less ↦ nothing (ltb i j) (f (as_pair n (i, j))) (none i j p q less)
      | inr more ↦ ap (λ t. cond t (f (as_pair n (i, j))) 0) (le-ltb i j more)
    ] in
    any-count (is_game w b) (all_pairs n)
    ∙ ap (ltb 0)
    (sum_by-all_pairs f n some
    ∙ total-zero n (λ i. total n (λ j. pair_value f n i j))
    (λ i p. total-zero n (λ j. pair_value f n i j) (λ j q. each i j p q)))

pub unpaired_white : (n w b : ℕ) → 0 < n → n ≤ w → is_paired n w b ≡ false
unpaired_white n w b some high =
    unpaired n w b some
    (λ i j p q less.
    of_player n w (value w b) (off_white w b) i j (λ e. omega (arith, e, p, high)) (λ e. omega (arith, e, q, high)))

pub unpaired_black : (n w b : ℕ) → 0 < n → n ≤ b → is_paired n w b ≡ false
unpaired_black n w b some high =
    unpaired n w b some
    (λ i j p q less.
    of_player n b (value w b) (off_black w b) i j (λ e. omega (arith, e, p, high)) (λ e. omega (arith, e, q, high)))

twice : (i j w : ℕ) → i < j → value w w (i, j) ≡ 0
twice i j w less =
    elim (cases_eq i w) as (λ _. value w w (i, j) ≡ 0) [
      | inl same ↦ ap (λ t. cond t 1 0) (and_right (eqb i w) (eqb j w) (ne_eqb j w (λ e. omega (arith, e, same, less))))
      | inr other ↦ ap (λ t. cond t 1 0) (and_left (eqb i w) (eqb j w) (ne_eqb i w other))
    ]

twice_turned : (i j w : ℕ) → i < j → value w w (j, i) ≡ 0
twice_turned i j w less =
    elim (cases_eq i w) as (λ _. value w w (j, i) ≡ 0) [
      | inl same ↦ ap (λ t. cond t 1 0) (and_left (eqb j w) (eqb i w) (ne_eqb j w (λ e. omega (arith, e, same, less))))
      | inr other ↦ ap (λ t. cond t 1 0) (and_right (eqb j w) (eqb i w) (ne_eqb i w other))
    ]

pub unpaired_same : (n w : ℕ) → 0 < n → is_paired n w w ≡ false
unpaired_same n w some =
    unpaired n w w some
    (λ i j p q less. of_pair n (i, j) (λ pair. value w w pair ≡ 0) (twice i j w less) (twice_turned i j w less))

-- what follows where two meet with these colours
pub record ArePaired (n w b : ℕ) : Type 0 where
  pub white : w < n
  pub black : b < n
  pub turned : is_paired n b w ≡ false

not_turned : (n i j w b : ℕ) → (w ≡ b → ⊥) → eqb (as_pair n (i, j)).0 w ≡ true → eqb (as_pair n (i, j)).0 b ≡ false
not_turned n i j w b apart is =
    let same : (as_pair n (i, j)).0 ≡ w = eqb-true ((as_pair n (i, j)).0) w is in
    ne_eqb ((as_pair n (i, j)).0) b (λ e. apart (sym same ∙ e))

pub are_paired : (n w b : ℕ) → 0 < n → is_paired n w b ≡ true → ArePaired n w b
are_paired n w b some is =
    elim (cases_lt w n) as (λ _. ArePaired n w b) [
      | inr high ↦ absurd (let no : false ≡ true = sym (unpaired_white n w b some high) ∙ is in cc)
      | inl white ↦ elim (cases_lt b n) as (λ _. ArePaired n w b) [
        | inr high ↦ absurd (let no : false ≡ true = sym (unpaired_black n w b some high) ∙ is in cc)
        | inl black ↦ elim (cases_order w b) as (λ _. ArePaired n w b) [
          | inl same ↦
              absurd (let no : false ≡ true = sym (unpaired_same n w some) ∙ ap (λ k. is_paired n w k) same ∙ is in cc)
          | inr differ ↦ elim differ as (λ _. ArePaired n w b) [
            | inl less ↦ record {
              white = white;
              black = black;
              turned =
                  paired_more n b w black less
                  ∙ not_turned n w b w b (λ e. omega (arith, e, less)) (sym (paired_less n w b black less) ∙ is);
            }
            | inr more ↦ record {
              white = white;
              black = black;
              turned =
                  paired_less n b w white more
                  ∙ not_turned n b w w b (λ e. omega (arith, e, more)) (sym (paired_more n w b white more) ∙ is);
            }
          ]
        ]
      ]
    ]
