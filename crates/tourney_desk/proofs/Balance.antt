-- The numbers of a player's White and Black games differ by at most 1.
use Rattle.std.proofs.Common.{◌≡◌, ℕ, suc, ◌+◌, ◌-◌, ◌/◌, ◌<◌, ◌≤◌, Bool, true, false, cond, eqb, ltb, refl, sym, ap, ◌∙◌, inl, inr, arith}
use Rattle.std.specs.Prelude.{not}
use Rattle.std.proofs.lemmas.Bool.{cases_lt, eq-eqb, ne_eqb, lt-ltb, le-ltb, ltb-true}
use Rattle.tourney_desk.specs.Pairing.{as_pair, first_is_white, is_odd, rounds_of}
use Rattle.tourney_desk.specs.Fairness.{IsFair, black_games, white_games}
use Rattle.tourney_desk.proofs.Colours.{even_above, even_below, even_numbers, odd_above, odd_below, odd_numbers, one_even, one_odd}
use Rattle.tourney_desk.proofs.Fair.{IsOfPlayer, nothing, once, pair_value, round_fair, sum_of_player}
use Rattle.tourney_desk.proofs.Rounds.{rounds_are}
use Rattle.tourney_desk.proofs.Sums.{total, total-same, total-zero}

-- ---- the colour of a player against another

abbrev whites : ℕ → ℕ × ℕ → ℕ
whites a = λ pair. cond (eqb pair.0 a) 1 0

abbrev blacks : ℕ → ℕ × ℕ → ℕ
blacks a = λ pair. cond (eqb pair.1 a) 1 0

white_off : (a : ℕ) → IsOfPlayer a (whites a)
white_off a pair p q = ap (λ t. cond t 1 0) (ne_eqb pair.0 a p)

black_off : (a : ℕ) → IsOfPlayer a (blacks a)
black_off a pair p q = ap (λ t. cond t 1 0) (ne_eqb pair.1 a q)

-- the value of the pair of the two, whether the first has White or not
pair_of : (n i j : ℕ) (f : ℕ × ℕ → ℕ) → f (as_pair n (i, j)) ≡ cond (first_is_white n (i, j)) (f (i, j)) (f (j, i))
pair_of n i j f =
    elim (first_is_white n (i, j)) as (λ t. f (cond t (i, j) (j, i)) ≡ cond t (f (i, j)) (f (j, i))) [
      | true ↦ refl
      | false ↦ refl
    ]

-- the value of two whose lesser number is the player's, and of two whose greater number is
white_first : (n a k : ℕ) → pair_value (whites a) n a k ≡ cond (ltb a k) (cond (first_is_white n (a, k)) 1 0) 0
white_first n a k =
    elim (ltb a k)
    as (λ t. ltb a k ≡ t → cond t (whites a (as_pair n (a, k))) 0 ≡ cond t (cond (first_is_white n (a, k)) 1 0) 0) [
      | true ↦ λ e.
          let less : a < k = ltb-true a k e in
          pair_of n a k (whites a)
          ∙ ap (λ t. cond (first_is_white n (a, k)) (cond t 1 0) (whites a (k, a))) (eq-eqb a a refl)
          ∙ ap (λ t. cond (first_is_white n (a, k)) 1 (cond t 1 0)) (ne_eqb k a (λ same. omega (arith, same, less)))
      | false ↦ λ e. refl
    ] refl

white_second : (n a k : ℕ) → pair_value (whites a) n k a ≡ cond (ltb k a) (cond (first_is_white n (k, a)) 0 1) 0
white_second n a k =
    elim (ltb k a)
    as (λ t. ltb k a ≡ t → cond t (whites a (as_pair n (k, a))) 0 ≡ cond t (cond (first_is_white n (k, a)) 0 1) 0) [
      | true ↦ λ e.
          let less : k < a = ltb-true k a e in
          pair_of n k a (whites a)
          ∙ ap (λ t. cond (first_is_white n (k, a)) (whites a (k, a)) (cond t 1 0)) (eq-eqb a a refl)
          ∙ ap (λ t. cond (first_is_white n (k, a)) (cond t 1 0) 1) (ne_eqb k a (λ same. omega (arith, same, less)))
      | false ↦ λ e. refl
    ] refl

black_first : (n a k : ℕ) → pair_value (blacks a) n a k ≡ cond (ltb a k) (cond (first_is_white n (a, k)) 0 1) 0
black_first n a k =
    elim (ltb a k)
    as (λ t. ltb a k ≡ t → cond t (blacks a (as_pair n (a, k))) 0 ≡ cond t (cond (first_is_white n (a, k)) 0 1) 0) [
      | true ↦ λ e.
          let less : a < k = ltb-true a k e in
          pair_of n a k (blacks a)
          ∙ ap (λ t. cond (first_is_white n (a, k)) (blacks a (a, k)) (cond t 1 0)) (eq-eqb a a refl)
          ∙ ap (λ t. cond (first_is_white n (a, k)) (cond t 1 0) 1) (ne_eqb k a (λ same. omega (arith, same, less)))
      | false ↦ λ e. refl
    ] refl

black_second : (n a k : ℕ) → pair_value (blacks a) n k a ≡ cond (ltb k a) (cond (first_is_white n (k, a)) 1 0) 0
black_second n a k =
    elim (ltb k a)
    as (λ t. ltb k a ≡ t → cond t (blacks a (as_pair n (k, a))) 0 ≡ cond t (cond (first_is_white n (k, a)) 1 0) 0) [
      | true ↦ λ e.
          let less : k < a = ltb-true k a e in
          pair_of n k a (blacks a)
          ∙ ap (λ t. cond (first_is_white n (k, a)) (cond t 1 0) (blacks a (a, k))) (eq-eqb a a refl)
          ∙ ap (λ t. cond (first_is_white n (k, a)) 1 (cond t 1 0)) (ne_eqb k a (λ same. omega (arith, same, less)))
      | false ↦ λ e. refl
    ] refl

-- in the circle the colours go by the difference
in_circle : (n i j : ℕ) → (j ≡ rounds_of n → ⊥) → first_is_white n (i, j) ≡ is_odd (j - i)
in_circle n i j circle = ap (λ t. cond t (not (is_odd i)) (is_odd (j - i))) (ne_eqb j (rounds_of n) circle)

against_last : (n i : ℕ) → first_is_white n (i, rounds_of n) ≡ not (is_odd i)
against_last n i =
    ap (λ t. cond t (not (is_odd i)) (is_odd (rounds_of n - i))) (eq-eqb (rounds_of n) (rounds_of n) refl)

-- ---- sums over the circle, with the last player or without

-- a sum over the players is one over the circle, and the last player's value where there is one
with_last : (n m : ℕ) (f : ℕ → ℕ) → m ≤ n → n ≤ m + 1 → total n f ≡ total m f + cond (ltb m n) (f m) 0
with_last n m f most least =
    elim (cases_lt m n) as (λ _. total n f ≡ total m f + cond (ltb m n) (f m) 0) [
      | inl more ↦
          let is : suc m ≡ n = omega arith in
          ap (λ k. total k f) (sym is) ∙ ap (λ t. total m f + cond t (f m) 0) (sym (lt-ltb m n more))
      | inr none ↦
          let is : m ≡ n = omega arith in
          let flat : cond (ltb m n) (f m) 0 ≡ 0 = ap (λ t. cond t (f m) 0) (le-ltb m n none) in
          let same : total n f ≡ total m f = ap (λ k. total k f) (sym is) in
          omega (arith, flat, same)
    ]

one_at_most : (s t u : Bool) → (cond s (cond t (cond u 1 0) 0) 0 ≤ 1) × (cond s (cond t (cond u 0 1) 0) 0 ≤ 1)
one_at_most false t u = (omega arith, omega arith)
one_at_most true false u = (omega arith, omega arith)
one_at_most true true false = (omega arith, omega arith)
one_at_most true true true = (omega arith, omega arith)

not_both : (t : Bool) (x y : ℕ) → cond (not t) x y ≡ cond t y x
not_both true x y = refl
not_both false x y = refl

-- a sum of a player of the circle over those with greater numbers, where the first of two counts so
above_circle : (n a x y : ℕ) → a < rounds_of n
    → total (rounds_of n) (λ k. cond (ltb a k) (cond (first_is_white n (a, k)) x y) 0)
    ≡ total (rounds_of n) (λ k. cond (ltb a k) (cond (is_odd (k - a)) x y) 0)
above_circle n a x y low =
    total-same (rounds_of n) (λ k. cond (ltb a k) (cond (first_is_white n (a, k)) x y) 0)
    (λ k. cond (ltb a k) (cond (is_odd (k - a)) x y) 0)
    (λ k q. ap (λ t. cond (ltb a k) (cond t x y) 0) (in_circle n a k (λ e. omega (arith, e, q))))

below_circle : (n a x y : ℕ) → a < rounds_of n
    → total (rounds_of n) (λ k. cond (ltb k a) (cond (first_is_white n (k, a)) x y) 0)
    ≡ total (rounds_of n) (λ k. cond (ltb k a) (cond (is_odd (a - k)) x y) 0)
below_circle n a x y low =
    total-same (rounds_of n) (λ k. cond (ltb k a) (cond (first_is_white n (k, a)) x y) 0)
    (λ k. cond (ltb k a) (cond (is_odd (a - k)) x y) 0)
    (λ k q. ap (λ t. cond (ltb k a) (cond t x y) 0) (in_circle n k a (λ e. omega (arith, e, low))))

-- two numbers differ by at most 1
abbrev AreClose : ℕ → ℕ → Type 0
AreClose w b = (w ≤ b + 1) × (b ≤ w + 1)

-- halves of a number's distances to 0 and to an odd bound
even_split : (m a half : ℕ) → m ≡ half + half + 1 → a < m → (m - a) / 2 + a / 2 ≡ (m - a - 1) / 2 + (a + 1) / 2
even_split m a half odd low = omega arith

halved : (x d y : ℕ) → d ≡ 0 → x + d / 2 ≡ y → x ≡ y
halved x d y none e = omega arith

halved_more : (x d y : ℕ) → d ≡ 0 → x + (d + 1) / 2 ≡ y → x ≡ y
halved_more x d y none e = omega arith

sides : (wu wd bu bd wl bl w b p q r s : ℕ) → w ≡ wu + wl + (wd + 0) → b ≡ bu + bl + (bd + 0) → wu ≡ p → bu ≡ r → wd ≡ q
    → bd ≡ s → p + q ≡ r + s
    → wl ≤ 1 → bl ≤ 1 → AreClose w b
sides wu wd bu bd wl bl w b p q r s e1 e2 e3 e4 e5 e6 e7 lw lb = (omega arith, omega arith)

close : (m a half : ℕ) → m ≡ half + half + 1 → a < m → (wu wd bu bd wu' wd' bu' bd' wl bl w b : ℕ)
    → w ≡ wu + wd → b ≡ bu + bd → wu' ≡ (m - a) / 2 → bu' ≡ (m - a - 1) / 2 → wd' + (a - m) / 2 ≡ a / 2
    → bd' + (a - m + 1) / 2 ≡ (a + 1) / 2
    → wu ≡ wu' + wl → bu ≡ bu' + bl → wd ≡ wd' + 0 → bd ≡ bd' + 0 → wl ≤ 1 → bl ≤ 1 → AreClose w b
close m a half odd low wu wd bu bd wu' wd' bu' bd' wl bl w b e1 e2 e3 e4 e5 e6 e7 e8 e9 e10 q r =
    let none : a - m ≡ 0 = omega (arith, low) in
    let split : (m - a) / 2 + a / 2 ≡ (m - a - 1) / 2 + (a + 1) / 2 = even_split m a half odd low in
    let wd_is : wd' ≡ a / 2 = halved wd' (a - m) (a / 2) none e5 in
    let bd_is : bd' ≡ (a + 1) / 2 = halved_more bd' (a - m) ((a + 1) / 2) none e6 in
    sides wu' wd' bu' bd' wl bl w b ((m - a) / 2) (a / 2) ((m - a - 1) / 2) ((a + 1) / 2)
    (e1 ∙ ap (λ x. x + wd) e7 ∙ ap (λ x. wu' + wl + x) e9) (e2 ∙ ap (λ x. x + bd) e8 ∙ ap (λ x. bu' + bl + x) e10) e3 e4
    wd_is bd_is split q r

halves : (m w b : ℕ) → w ≡ m / 2 → b ≡ (m + 1) / 2 → AreClose w b
halves m w b e f = (omega arith, omega arith)

circle_close : (n a : ℕ) → a < n → a < rounds_of n → AreClose (white_games n a) (black_games n a)
circle_close n a joined low =
    let m = rounds_of n in
    let are = rounds_are n (omega arith) in
    let w_up : ℕ → ℕ = λ k. cond (ltb a k) (cond (first_is_white n (a, k)) 1 0) 0 in
    let w_down : ℕ → ℕ = λ k. cond (ltb k a) (cond (first_is_white n (k, a)) 0 1) 0 in
    let b_up : ℕ → ℕ = λ k. cond (ltb a k) (cond (first_is_white n (a, k)) 0 1) 0 in
    let b_down : ℕ → ℕ = λ k. cond (ltb k a) (cond (first_is_white n (k, a)) 1 0) 0 in
    let w : white_games n a ≡ total n w_up + total n w_down =
    sum_of_player n a (whites a) joined (white_off a)
    ∙ ap (λ t. t + total n (λ k. pair_value (whites a) n k a))
    (total-same n (λ k. pair_value (whites a) n a k) w_up (λ k q. white_first n a k))
    ∙ ap (λ t. total n w_up + t) (total-same n (λ k. pair_value (whites a) n k a) w_down (λ k q. white_second n a k)) in
    let b : black_games n a ≡ total n b_up + total n b_down =
    sum_of_player n a (blacks a) joined (black_off a)
    ∙ ap (λ t. t + total n (λ k. pair_value (blacks a) n k a))
    (total-same n (λ k. pair_value (blacks a) n a k) b_up (λ k q. black_first n a k))
    ∙ ap (λ t. total n b_up + t) (total-same n (λ k. pair_value (blacks a) n k a) b_down (λ k q. black_second n a k)) in
    let w_up_is : total m w_up ≡ (m - a) / 2 = above_circle n a 1 0 low ∙ odd_above a m in
    let b_up_is : total m b_up ≡ (m - a - 1) / 2 = above_circle n a 0 1 low ∙ even_above a m in
    let w_down_is : total m w_down + (a - m) / 2 ≡ a / 2 =
    ap (λ t. t + (a - m) / 2) (below_circle n a 0 1 low) ∙ even_below a m in
    let b_down_is : total m b_down + (a - m + 1) / 2 ≡ (a + 1) / 2 =
    ap (λ t. t + (a - m + 1) / 2) (below_circle n a 1 0 low) ∙ odd_below a m in
    let w_up_all : total n w_up ≡ total m w_up + cond (ltb m n) (w_up m) 0 = with_last n m w_up are.most are.least in
    let b_up_all : total n b_up ≡ total m b_up + cond (ltb m n) (b_up m) 0 = with_last n m b_up are.most are.least in
    let w_down_all : total n w_down ≡ total m w_down + cond (ltb m n) (w_down m) 0 =
    with_last n m w_down are.most are.least in
    let b_down_all : total n b_down ≡ total m b_down + cond (ltb m n) (b_down m) 0 =
    with_last n m b_down are.most are.least in
    let w_last : cond (ltb m n) (w_up m) 0 ≤ 1 = (one_at_most (ltb m n) (ltb a m) (first_is_white n (a, m))).0 in
    let b_last : cond (ltb m n) (b_up m) 0 ≤ 1 = (one_at_most (ltb m n) (ltb a m) (first_is_white n (a, m))).1 in
    let flat : ltb m a ≡ false = le-ltb m a (omega arith) in
    let w_none : cond (ltb m n) (w_down m) 0 ≡ 0 =
    ap (λ t. cond (ltb m n) (cond t (cond (first_is_white n (m, a)) 0 1) 0) 0) flat ∙ nothing (ltb m n) 0 refl in
    let b_none : cond (ltb m n) (b_down m) 0 ≡ 0 =
    ap (λ t. cond (ltb m n) (cond t (cond (first_is_white n (m, a)) 1 0) 0) 0) flat ∙ nothing (ltb m n) 0 refl in
    close m a are.half are.odd low (total n w_up) (total n w_down) (total n b_up) (total n b_down) (total m w_up)
    (total m w_down) (total m b_up) (total m b_down)
    (cond (ltb m n) (w_up m) 0) (cond (ltb m n) (b_up m) 0) (white_games n a) (black_games n a) w b
    w_up_is b_up_is w_down_is b_down_is w_up_all b_up_all
    (w_down_all ∙ ap (λ t. total m w_down + t) w_none) (b_down_all ∙ ap (λ t. total m b_down + t) b_none) w_last b_last

last_close : (n a : ℕ) → a < n → a ≡ rounds_of n → AreClose (white_games n a) (black_games n a)
last_close n a joined last =
    let m = rounds_of n in
    let are = rounds_are n (omega arith) in
    let w : white_games n a ≡ total n (λ k. pair_value (whites a) n a k) + total n (λ k. pair_value (whites a) n k a) =
    sum_of_player n a (whites a) joined (white_off a) in
    let b : black_games n a ≡ total n (λ k. pair_value (blacks a) n a k) + total n (λ k. pair_value (blacks a) n k a) =
    sum_of_player n a (blacks a) joined (black_off a) in
    let none_above : (k : ℕ) → k < n → ltb a k ≡ false = λ k q. le-ltb a k (omega (arith, last, are.least, q)) in
    let w_none : total n (λ k. pair_value (whites a) n a k) ≡ 0 =
    total-zero n (λ k. pair_value (whites a) n a k)
    (λ k q. ap (λ t. cond t (whites a (as_pair n (a, k))) 0) (none_above k q)) in
    let b_none : total n (λ k. pair_value (blacks a) n a k) ≡ 0 =
    total-zero n (λ k. pair_value (blacks a) n a k)
    (λ k q. ap (λ t. cond t (blacks a (as_pair n (a, k))) 0) (none_above k q)) in
    let colour : (k x y : ℕ) → cond (first_is_white n (k, a)) x y ≡ cond (is_odd k) y x =
    λ k x y.
    ap (λ j. cond (first_is_white n (k, j)) x y) last ∙ ap (λ t. cond t x y) (against_last n k)
    ∙ not_both (is_odd k) x y in
    let below : (k : ℕ) → k < m → ltb k a ≡ true = λ k q. lt-ltb k a (omega (arith, last, q)) in
    let beside : (f : ℕ → ℕ) → f m ≡ 0 → total n f ≡ total m f =
    λ f e.
    let flat : cond (ltb m n) (f m) 0 ≡ 0 = ap (λ v. cond (ltb m n) v 0) e ∙ nothing (ltb m n) 0 refl in
    let all : total n f ≡ total m f + cond (ltb m n) (f m) 0 = with_last n m f are.most are.least in
    omega (arith, flat, all) in
    let own : ltb m a ≡ false = le-ltb m a (omega (arith, last)) in
    let w_is : total n (λ k. pair_value (whites a) n k a) ≡ m / 2 =
    beside (λ k. pair_value (whites a) n k a) (ap (λ t. cond t (whites a (as_pair n (m, a))) 0) own)
    ∙ total-same m (λ k. pair_value (whites a) n k a) one_odd
    (λ k q. white_second n a k ∙ ap (λ t. cond t (cond (first_is_white n (k, a)) 0 1) 0) (below k q) ∙ colour k 0 1)
    ∙ odd_numbers m in
    let b_is : total n (λ k. pair_value (blacks a) n k a) ≡ (m + 1) / 2 =
    beside (λ k. pair_value (blacks a) n k a) (ap (λ t. cond t (blacks a (as_pair n (m, a))) 0) own)
    ∙ total-same m (λ k. pair_value (blacks a) n k a) one_even
    (λ k q. black_second n a k ∙ ap (λ t. cond t (cond (first_is_white n (k, a)) 1 0) 0) (below k q) ∙ colour k 1 0)
    ∙ even_numbers m in
    let w' : white_games n a ≡ m / 2 =
    w ∙ ap (λ t. t + total n (λ k. pair_value (whites a) n k a)) w_none
    ∙ (let e : 0 + total n (λ k. pair_value (whites a) n k a) ≡ m / 2 = omega (arith, w_is) in e) in
    let b' : black_games n a ≡ (m + 1) / 2 =
    b ∙ ap (λ t. t + total n (λ k. pair_value (blacks a) n k a)) b_none
    ∙ (let e : 0 + total n (λ k. pair_value (blacks a) n k a) ≡ (m + 1) / 2 = omega (arith, b_is) in e) in
    halves m (white_games n a) (black_games n a) w' b'

colours_close : (n a : ℕ) → a < n → AreClose (white_games n a) (black_games n a)
colours_close n a joined =
    let are = rounds_are n (omega arith) in
    elim (cases_lt a (rounds_of n)) as (λ _. AreClose (white_games n a) (black_games n a)) [
      | inl low ↦ circle_close n a joined low
      | inr high ↦ last_close n a joined (omega (arith, high, are.least, joined))
    ]

-- the pairs of the rounds are fair
pub is_fair : (n : ℕ) → IsFair n
is_fair n = record {
  once = λ i j p q apart. once n i j p q apart;
  apart = λ round some within. round_fair n round;
  colours = λ player joined. colours_close n player joined;
}
