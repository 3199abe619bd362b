-- Who is across from a player in a round, and that nobody else is.
use Rattle.std.proofs.Common.{◌≡◌, ℕ, ◌+◌, ◌-◌, ◌%◌, ◌<◌, ◌≤◌, true, false, cond, eqb, refl, sym, ap, subst, ◌∙◌, inl, inr, arith}
use Rattle.std.specs.Prelude.{◌⊎◌}
use Rattle.std.proofs.lemmas.Bool.{eq-eqb, ne_eqb, false_from_ne_true}
use Rattle.std.proofs.Math.Nat.{mod-lt}
use Rattle.tourney_desk.specs.Pairing.{meet, rounds_of}
use Rattle.tourney_desk.proofs.Fair.{met_as}
use Rattle.tourney_desk.proofs.Rounds.{IsMet, InCircle, WithLast, OfLast, meets_one, remainder_is, rounds_are}

-- the place across from a player's
abbrev pub across : ℕ → ℕ → ℕ → ℕ
across m c i = (c + m - i) % m

pub across_meets : (m c i : ℕ) → i < m → c < m → (across m c i < m) × ((i + across m c i) % m ≡ c)
across_meets m c i low least =
    let some : 0 < m = omega arith in
    let j = across m c i in
    let bound : j < m = mod-lt (c + m - i) some in
    let back : ((i + j) % m ≡ i + j) ⊎ ((i + j) % m + m ≡ i + j) = remainder_is (i + j) m (omega arith) in
    let low_back : (i + j) % m < m = mod-lt (i + j) some in
    elim (remainder_is (c + m - i) m (omega arith)) as (λ _. (j < m) × ((i + j) % m ≡ c)) [
      | inl plain ↦ elim back as (λ _. (j < m) × ((i + j) % m ≡ c)) [
        | inl same ↦ (bound, omega (arith, plain, same, low_back, low, least))
        | inr less ↦ (bound, omega (arith, plain, less, low_back, low, least))
      ]
      | inr wrapped ↦ elim back as (λ _. (j < m) × ((i + j) % m ≡ c)) [
        | inl same ↦ (bound, omega (arith, wrapped, same, low_back, low, least))
        | inr less ↦ (bound, omega (arith, wrapped, less, low_back, low, least))
      ]
    ]

-- two who leave the remainder of the round meet in it
pub met_from : (n round i j : ℕ) → i < j → IsMet (rounds_of n) (round - 1) i j → meet n round (i, j) ≡ true
met_from n round i j less (InCircle p q apart e) =
    ap (λ t. eqb ((i + cond t i j) % rounds_of n) (round - 1)) (ne_eqb j (rounds_of n) (λ same. omega (arith, same, q)))
    ∙ eq-eqb ((i + j) % rounds_of n) (round - 1) e
met_from n round i j less (WithLast p r e) =
    ap (λ t. eqb ((i + cond t i j) % rounds_of n) (round - 1)) (eq-eqb j (rounds_of n) r)
    ∙ eq-eqb ((i + i) % rounds_of n) (round - 1) e
met_from n round i j less (OfLast p q e) = absurd (omega (arith, p, q, less))

-- nobody but this one has a greater number and meets the player
abbrev pub IsAlone : ℕ → ℕ → ℕ → ℕ → Type 0
IsAlone n round i j = (other : ℕ) → i < other → other < n → meet n round (i, other) ≡ true → other ≡ j

-- nobody has a greater number and meets the player
abbrev pub HasNone : ℕ → ℕ → ℕ → Type 0
HasNone n round i = (other : ℕ) → i < other → other < n → meet n round (i, other) ≡ false

pub alone : (n round i j : ℕ) → 0 < n → IsMet (rounds_of n) (round - 1) i j → IsAlone n round i j
alone n round i j some is other less joined met =
    let are = rounds_are n some in
    meets_one (rounds_of n) are.half (round - 1) i other j are.odd (met_as n round i other some joined less met).0 is

pub none_if : (n round i j : ℕ) → 0 < n → IsMet (rounds_of n) (round - 1) i j → (j ≤ i) → HasNone n round i
none_if n round i j some is before other less joined =
    false_from_ne_true (meet n round (i, other))
    (λ met. let same : other ≡ j = alone n round i j some is other less joined met in omega (arith, same, less, before))

-- the last player, and any beyond the circle, has no greater number to meet
pub none_above_circle : (n round i : ℕ) → 0 < n → rounds_of n ≤ i → HasNone n round i
none_above_circle n round i some high other less joined =
    absurd (let are = rounds_are n some in omega (arith, are.least, high, less, joined))

-- and is free where there is no last player
pub free : (n round i : ℕ) → 0 < n → n ≤ rounds_of n → i < rounds_of n → (i + i) % rounds_of n ≡ round - 1
    → HasNone n round i
free n round i some no_last low e other less joined =
    false_from_ne_true (meet n round (i, other)) (λ met.
    let is : IsMet (rounds_of n) (round - 1) i other = (met_as n round i other some joined less met).0 in
    let same : other ≡ rounds_of n = alone n round i (rounds_of n) some (WithLast low refl e) other less joined met in
    omega (arith, same, no_last, joined))

-- ---- what the code finds, with the number of rounds as it computed it

abbrev place : ℕ → ℕ → ℕ → ℕ
place m round i = (round - 1 + m - i) % m

-- the place across leaves the remainder of the round
place_meets : (m round i : ℕ) → i < m → 0 < round → round ≤ m
    → (place m round i < m) × ((i + place m round i) % m ≡ round - 1)
place_meets m round i low some within = across_meets m (round - 1) i low (omega arith)

pub last_alone : (n round i m : ℕ) → m ≡ rounds_of n → 0 < n → 0 < round → round ≤ m → i < m → place m round i ≡ i
    → (meet n round (i, m) ≡ true) × IsAlone n round i m
last_alone n round i m e some first within low own =
    let double : (i + i) % m ≡ round - 1 =
    ap (λ j. (i + j) % m) (sym own) ∙ (place_meets m round i low first within).1 in
    let P : ℕ → Type 0 = λ k. i < k → (i + i) % k ≡ round - 1 → (meet n round (i, k) ≡ true) × IsAlone n round i k in
    let at : P (rounds_of n) =
    λ p d.
    let is : IsMet (rounds_of n) (round - 1) i (rounds_of n) = WithLast p refl d in
    (met_from n round i (rounds_of n) p is, alone n round i (rounds_of n) some is) in
    subst P (sym e) at low double

pub last_free : (n round i m : ℕ) → m ≡ rounds_of n → 0 < n → 0 < round → round ≤ m → i < m → place m round i ≡ i
    → n ≤ m → HasNone n round i
last_free n round i m e some first within low own no_last =
    let double : (i + i) % m ≡ round - 1 =
    ap (λ j. (i + j) % m) (sym own) ∙ (place_meets m round i low first within).1 in
    let P : ℕ → Type 0 = λ k. i < k → (i + i) % k ≡ round - 1 → n ≤ k → HasNone n round i in
    let at : P (rounds_of n) = λ p d q. free n round i some q p d in
    subst P (sym e) at low double no_last

pub across_alone : (n round i m : ℕ) → m ≡ rounds_of n → 0 < n → 0 < round → round ≤ m → i < m → i < place m round i
    → (place m round i < n) × (meet n round (i, place m round i) ≡ true) × IsAlone n round i (place m round i)
across_alone n round i m e some first within low above =
    let found = place_meets m round i low first within in
    let j = place m round i in
    let P : ℕ → Type 0 = λ k.
    i < k → j < k → (i + j) % k ≡ round - 1 → (j < n) × (meet n round (i, j) ≡ true) × IsAlone n round i j in
    let at : P (rounds_of n) =
    λ p q d.
    let is : IsMet (rounds_of n) (round - 1) i j = InCircle p q (λ same. omega (arith, same, above)) d in
    let are = rounds_are n some in
    (omega (arith, q, are.most), met_from n round i j above is, alone n round i j some is) in
    subst P (sym e) at low found.0 found.1

pub across_before : (n round i m : ℕ) → m ≡ rounds_of n → 0 < n → 0 < round → round ≤ m → i < m
    → (place m round i ≡ i → ⊥) → place m round i ≤ i → HasNone n round i
across_before n round i m e some first within low apart before =
    let found = place_meets m round i low first within in
    let j = place m round i in
    let P : ℕ → Type 0 = λ k. i < k → j < k → (i + j) % k ≡ round - 1 → HasNone n round i in
    let at : P (rounds_of n) =
    λ p q d.
    let is : IsMet (rounds_of n) (round - 1) i j = InCircle p q (λ same. apart (sym same)) d in
    none_if n round i j some is before in
    subst P (sym e) at low found.0 found.1
