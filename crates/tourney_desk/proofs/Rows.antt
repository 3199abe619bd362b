-- The pairs of a round, player by player.
use Rattle.std.proofs.Common.{◌≡◌, ℕ, zero, suc, ◌+◌, ◌<◌, ◌≤◌, Bool, true, false, cond, ltb, List, [], ◌∷◌, ◌++◌, map, append-nil, refl, ap, ◌∙◌, inl, inr, arith}
use Rattle.std.specs.Prelude.{◌&&◌}
use Rattle.std.specs.List.{filter, flat_map, range_with_len}
use Rattle.std.proofs.lemmas.Bool.{cases_eq, and_left, and_right, lt-ltb, le-ltb, cases_lt, false_from_ne_true}
use Rattle.std.proofs.lemmas.Grind.{flat_map-append}
use Rattle.tourney_desk.specs.Pairing.{as_pair, meet, pairs_in, pairs_of, players}
use Rattle.tourney_desk.proofs.Opponents.{IsAlone, HasNone}
use Rattle.tourney_desk.proofs.Sums.{range-more}

-- the tests before and after a map, as one before it
filter-map-filter : {X Y : Type 0} (p : Y → Bool) (g : X → Y) (q : X → Bool) (xs : List X)
    → filter p (map g (filter q xs)) ≡ map g (filter (λ x. q x && p (g x)) xs)
filter-map-filter p g q [] = refl
filter-map-filter p g q (x ∷ xs) =
    let rest = filter-map-filter p g q xs in
    elim (q x)
    as (λ t.
    filter p (map g (cond t (x ∷ filter q xs) (filter q xs)))
    ≡ map g (cond (t && p (g x)) (x ∷ filter (λ y. q y && p (g y)) xs) (filter (λ y. q y && p (g y)) xs))) [
      | true ↦
          elim (p (g x))
          as (λ t.
          cond t (g x ∷ filter p (map g (filter q xs))) (filter p (map g (filter q xs)))
          ≡ map g (cond t (x ∷ filter (λ y. q y && p (g y)) xs) (filter (λ y. q y && p (g y)) xs))) [
            | true ↦ ap (λ l. g x ∷ l) rest
            | false ↦ rest
          ]
      | false ↦ rest
    ]

-- a range of which none passes, or one
filter-none : (p : ℕ → Bool) (a k : ℕ) → ((j : ℕ) → a ≤ j → j < a + k → p j ≡ false)
    → filter p (range_with_len a k) ≡ []
filter-none p a zero h = refl
filter-none p a (suc k) h =
    ap (λ t. cond t (a ∷ filter p (range_with_len (a + 1) k)) (filter p (range_with_len (a + 1) k)))
    (h a (omega arith) (omega arith))
    ∙ filter-none p (a + 1) k (λ j q r. h j (omega arith) (omega arith))

filter-one : (p : ℕ → Bool) (a k o : ℕ) → a ≤ o → o < a + k → p o ≡ true
    → ((j : ℕ) → a ≤ j → j < a + k → (j ≡ o → ⊥) → p j ≡ false) → filter p (range_with_len a k) ≡ o ∷ []
filter-one p a zero o low high hit h = absurd (omega arith)
filter-one p a (suc k) o low high hit h =
    let rest = filter p (range_with_len (a + 1) k) in
    elim (cases_eq a o) as (λ _. cond (p a) (a ∷ rest) rest ≡ o ∷ []) [
      | inl same ↦
          let passes : p a ≡ true = ap p same ∙ hit in
          let none : rest ≡ [] =
          filter-none p (a + 1) k (λ j q r. h j (omega arith) (omega arith) (λ e. omega (arith, e, same, q))) in
          ap (λ t. cond t (a ∷ rest) rest) passes ∙ ap (λ l. a ∷ l) none ∙ ap (λ j. j ∷ []) same
      | inr other ↦
          ap (λ t. cond t (a ∷ rest) rest) (h a (omega arith) (omega arith) other)
          ∙ filter-one p (a + 1) k o (let q : a + 1 ≤ o = omega (arith, other, low) in q) (omega arith) hit
          (λ j q r. h j (omega arith) (omega arith))
    ]

abbrev both : ℕ → ℕ → ℕ → ℕ → Bool
both n round i j = ltb i j && meet n round (i, j)

pub pairs_of-none : (n round i : ℕ) → HasNone n round i → pairs_of n round i ≡ []
unfolding pairs_of
pairs_of-none n round i none =
    ap (map (as_pair n)) (filter-map-filter (meet n round) (λ j. (i, j)) (ltb i) (players n)
    ∙ ap (map (λ j. (i, j))) (filter-none (both n round i) 0 n (λ j q r.
    elim (cases_lt i j) as (λ _. both n round i j ≡ false) [
      | inl above ↦ and_right (ltb i j) (meet n round (i, j)) (none j above (omega arith))
      | inr below ↦ and_left (ltb i j) (meet n round (i, j)) (le-ltb i j below)
    ])))

missed : (n round i o : ℕ) → IsAlone n round i o → (j : ℕ) → i < j → j < n → (j ≡ o → ⊥) → meet n round (i, j) ≡ false
missed n round i o alone j less there other =
    false_from_ne_true (meet n round (i, j)) (λ met. other (alone j less there met))

pub pairs_of-one : (n round i o : ℕ) → i < o → o < n → meet n round (i, o) ≡ true → IsAlone n round i o
    → pairs_of n round i ≡ as_pair n (i, o) ∷ []
unfolding pairs_of
pairs_of-one n round i o above joined met alone =
    let hit : both n round i o ≡ true = ap (λ t. t && meet n round (i, o)) (lt-ltb i o above) ∙ met in
    ap (map (as_pair n)) (filter-map-filter (meet n round) (λ j. (i, j)) (ltb i) (players n)
    ∙ ap (map (λ j. (i, j))) (filter-one (both n round i) 0 n o (omega arith) (omega arith) hit (λ j q r other.
    elim (cases_lt i j) as (λ _. both n round i j ≡ false) [
      | inl less ↦ and_right (ltb i j) (meet n round (i, j)) (missed n round i o alone j less (omega arith) other)
      | inr below ↦ and_left (ltb i j) (meet n round (i, j)) (le-ltb i j below)
    ])))

-- the pairs of the players below a bound, and of one more
pub pairs_below-more : (n round i : ℕ)
    → flat_map (pairs_of n round) (range_with_len 0 (i + 1))
    ≡ flat_map (pairs_of n round) (range_with_len 0 i) ++ pairs_of n round i
pairs_below-more n round i =
    let one : i + 1 ≡ suc i = omega arith in
    let last : 0 + i ≡ i = omega arith in
    ap (λ k. flat_map (pairs_of n round) (range_with_len 0 k)) one
    ∙ ap (flat_map (pairs_of n round)) (range-more 0 i ∙ ap (λ k. range_with_len 0 i ++ k ∷ []) last)
    ∙ flat_map-append (pairs_of n round) (range_with_len 0 i) (i ∷ [])
    ∙ ap (λ l. flat_map (pairs_of n round) (range_with_len 0 i) ++ l) (append-nil (pairs_of n round i))

pub pairs_in-is : (n round : ℕ) → flat_map (pairs_of n round) (range_with_len 0 n) ≡ pairs_in n round
unfolding pairs_in
pairs_in-is n round = refl
