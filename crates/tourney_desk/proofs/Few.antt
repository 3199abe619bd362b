-- Results of different games are few: no two are of the same two players, and all players have numbers below 64.
use Rattle.std.proofs.Common.{◌≡◌, ℕ, suc, ◌+◌, ◌*◌, ◌<◌, ◌≤◌, Bool, true, false, cond, eqb, List, [], ◌∷◌, map, length, refl, sym, ap, ◌∙◌, inl, inr, arith}
use Rattle.std.specs.Prelude.{◌||◌, All, count_by, sum_by}
use Rattle.std.specs.List.{AllByRecursion, AllPairs, IsDistinct, filter, list_any}
use Rattle.std.proofs.lemmas.Bool.{eq-eqb, ne_eqb, eqb-true, or_cases, or_left, or_right, and_from, both_ways}
use Rattle.std.proofs.lemmas.List.Elements.{All-head, All-tail}
use Rattle.std.proofs.lemmas.List.Sums.{length-filter, sum_by-cons}
use Rattle.std.proofs.lemmas.Map.Steps.{length-le_from_distinct_below}
use Rattle.std.proofs.lemmas.List.{length-map}
use Rattle.tourney_desk.specs.declared.score.Report.{Report}
use Rattle.tourney_desk.specs.declared.score.Score.{Score}
use Rattle.tourney_desk.specs.declared.score.Score.TheVariants.{White, Draw, Black}
use Rattle.tourney_desk.specs.Scores.{black_halves, halves_from, is_by_player, white_halves}
use Rattle.tourney_desk.specs.Tourney.{is_of_game, same_players}

-- the first of a list whose elements are apart in pairs is apart from the others, and these are too
pub pairs-head : {X : Type 0} (R : X → X → Type 0) (x : X) (xs : List X) → AllPairs R (x ∷ xs) → All (R x) xs
pairs-head R x xs h k d q = h 0 (suc k) d (omega arith) (omega arith)

pub pairs-tail : {X : Type 0} (R : X → X → Type 0) (x : X) (xs : List X) → AllPairs R (x ∷ xs) → AllPairs R xs
pairs-tail R x xs h i j d p q = h (suc i) (suc j) d (omega arith) (omega arith)

-- what sends the elements that are kept to different numbers below a bound
pub record Numbers {X : Type 0} (R : X → X → Type 0) (P : X → Type 0) (keep : X → Bool) (f : X → ℕ)
    (bound : ℕ) : Type 0 where
  pub below : (x : X) → P x → keep x ≡ true → f x < bound
  pub differ : (x y : X) → P x → P y → keep x ≡ true → keep y ≡ true → R x y → f x ≡ f y → ⊥

apart_from : {X : Type 0} {R : X → X → Type 0} {P : X → Type 0} {keep : X → Bool} {f : X → ℕ} {bound : ℕ}
    → Numbers R P keep f bound
    → (x : X) (xs : List X) → P x → keep x ≡ true → All (R x) xs → All P xs
    → AllByRecursion (λ y. eqb (f x) y ≡ false) (map f (filter keep xs))
apart_from n x [] p k r ps = tt
apart_from {X} {R} {P} {keep} {f} n x (y ∷ xs) p k r ps =
    let rest : AllByRecursion (λ z. eqb (f x) z ≡ false) (map f (filter keep xs)) =
    apart_from n x xs p k (All-tail (R x) y xs r) (All-tail P y xs ps) in
    elim (keep y)
    as (λ t.
    keep y ≡ t → AllByRecursion (λ z. eqb (f x) z ≡ false) (map f (cond t (y ∷ filter keep xs) (filter keep xs)))) [
      | true ↦ λ e. (ne_eqb (f x) (f y) (n.differ x y p (All-head P y xs ps) k e (All-head (R x) y xs r)), rest)
      | false ↦ λ e. rest
    ] refl

distinct : {X : Type 0} {R : X → X → Type 0} {P : X → Type 0} {keep : X → Bool} {f : X → ℕ} {bound : ℕ}
    → Numbers R P keep f bound
    → (xs : List X) → AllPairs R xs → All P xs → IsDistinct eqb (map f (filter keep xs))
unfolding IsDistinct
distinct n [] r ps = tt
distinct {X} {R} {P} {keep} {f} n (x ∷ xs) r ps =
    let rest : IsDistinct eqb (map f (filter keep xs)) = distinct n xs (pairs-tail R x xs r) (All-tail P x xs ps) in
    elim (keep x) as (λ t. keep x ≡ t → IsDistinct eqb (map f (cond t (x ∷ filter keep xs) (filter keep xs)))) [
      | true ↦ λ e. (apart_from n x xs (All-head P x xs ps) e (pairs-head R x xs r) (All-tail P x xs ps), rest)
      | false ↦ λ e. rest
    ] refl

bounded : {X : Type 0} {R : X → X → Type 0} {P : X → Type 0} {keep : X → Bool} {f : X → ℕ} {bound : ℕ}
    → Numbers R P keep f bound
    → (xs : List X) → All P xs → (q : ℕ) → list_any (eqb q) (map f (filter keep xs)) ≡ true → q < bound
bounded n [] ps q = λ e. absurd (let no : false ≡ true = e in cc)
bounded {X} {R} {P} {keep} {f} {bound} n (x ∷ xs) ps q =
    let rest : list_any (eqb q) (map f (filter keep xs)) ≡ true → q < bound = bounded n xs (All-tail P x xs ps) q in
    elim (keep x)
    as (λ t. keep x ≡ t → list_any (eqb q) (map f (cond t (x ∷ filter keep xs) (filter keep xs))) ≡ true → q < bound) [
      | true ↦ λ k e.
          elim (or_cases (eqb q (f x)) (list_any (eqb q) (map f (filter keep xs))) e) as (λ _. q < bound) [
            | inl here ↦
                let is : q ≡ f x = eqb-true q (f x) here in let low : f x < bound = n.below x (All-head P x xs ps) k in
                omega (arith, is, low)
            | inr there ↦ rest there
          ]
      | false ↦ λ k e. rest e
    ] refl

-- elements that are apart are no more than the numbers that they are sent to
pub few_kept : {X : Type 0} {R : X → X → Type 0} {P : X → Type 0} {keep : X → Bool} {f : X → ℕ} {bound : ℕ}
    → Numbers R P keep f bound
    → (xs : List X) → AllPairs R xs → All P xs → count_by keep xs ≤ bound
few_kept {X} {R} {P} {keep} {f} {bound} n xs r ps =
    let long : length (map f (filter keep xs)) ≡ count_by keep xs =
    length-map (filter keep xs) f ∙ length-filter keep xs in
    let most : length (map f (filter keep xs)) ≤ bound =
    length-le_from_distinct_below (map f (filter keep xs)) bound (distinct n xs r ps) (bounded n xs ps) in
    omega (arith, long, most)

-- ---- results

abbrev pub Apart : Report → Report → Type 0
Apart a b = same_players a b ≡ false

abbrev pub IsSmall : Report → Type 0
IsSmall report = (report.white < 64) × (report.black < 64)

same_if : (a b : Report) → a.white ≡ b.white → a.black ≡ b.black → same_players a b ≡ true
same_if a b e f =
    or_left (is_of_game a.white a.black b) (is_of_game a.black a.white b)
    (and_from (eqb b.white a.white) (eqb b.black a.black) (eq-eqb b.white a.white (sym e))
    (eq-eqb b.black a.black (sym f)))

turned_if : (a b : Report) → a.white ≡ b.black → a.black ≡ b.white → same_players a b ≡ true
turned_if a b e f =
    or_right (is_of_game a.white a.black b) (is_of_game a.black a.white b)
    (and_from (eqb b.white a.black) (eqb b.black a.white) (eq-eqb b.white a.black (sym f))
    (eq-eqb b.black a.white (sym e)))

-- a number for each game
abbrev code : Report → ℕ
code report = 64 * report.white + report.black

same_white : (a b c d : ℕ) → b < 64 → d < 64 → 64 * a + b ≡ 64 * c + d → a ≡ c
same_white a b c d p q e = omega arith

same_black : (a b c d : ℕ) → b < 64 → d < 64 → 64 * a + b ≡ 64 * c + d → b ≡ d
same_black a b c d p q e = omega arith

abbrev always : Report → Bool
always report = true

code_small : (a b : ℕ) → a < 64 → b < 64 → 64 * a + b < 4096
code_small a b p q = omega arith

codes_differ : Numbers Apart IsSmall always code 4096
codes_differ = record {
  below = λ x p k. code_small x.white x.black p.0 p.1;
  differ = λ x y p q k l r e.
      both_ways (same_players x y) r
      (same_if x y (same_white x.white x.black y.white y.black p.1 q.1 e)
      (same_black x.white x.black y.white y.black p.1 q.1 e));
}

count-always : {X : Type 0} (xs : List X) → count_by (λ x. true) xs ≡ length xs
count-always [] = refl
count-always (x ∷ xs) = let rest = count-always xs in omega (arith, rest, sum_by-cons (λ y. cond true 1 0) x xs)

-- there are at most 4,096 results
pub few_results : (reports : List Report) → AllPairs Apart reports → All IsSmall reports → length reports ≤ 4096
few_results reports r p =
    let most : count_by always reports ≤ 4096 = few_kept codes_differ reports r p in
    let all : count_by always reports ≡ length reports = count-always reports in omega (arith, most, all)

-- whom a player met
abbrev opponent : ℕ → Report → ℕ
opponent player report = cond (eqb report.white player) report.black report.white

opponent_small : (player : ℕ) (report : Report) → IsSmall report → opponent player report < 64
opponent_small player report p =
    elim (eqb report.white player) as (λ t. cond t report.black report.white < 64) [ true ↦ p.1 | false ↦ p.0 ]

-- the two players of a result, this one first
data Sides (player : ℕ) (report : Report) : Type 0 where
  AsWhite : report.white ≡ player → report.black ≡ opponent player report → Sides player report
  AsBlack : report.black ≡ player → report.white ≡ opponent player report → Sides player report

sides : (player : ℕ) (report : Report) → is_by_player player report ≡ true → Sides player report
sides player report has =
    elim (eqb report.white player) as (λ t. eqb report.white player ≡ t → Sides player report) [
      | true ↦ λ e. AsWhite (eqb-true report.white player e) (sym (ap (λ t. cond t report.black report.white) e))
      | false ↦ λ e.
          let black : eqb report.black player ≡ true = sym (ap (λ t. t || eqb report.black player) e) ∙ has in
          AsBlack (eqb-true report.black player black) (sym (ap (λ t. cond t report.black report.white) e))
    ] refl

same_opponent : (player : ℕ) (x y : Report) → Sides player x → Sides player y → opponent player x ≡ opponent player y
    → same_players x y ≡ true
same_opponent player x y (AsWhite w b) (AsWhite w' b') e = same_if x y (w ∙ sym w') (b ∙ e ∙ sym b')
same_opponent player x y (AsWhite w b) (AsBlack b' w') e = turned_if x y (w ∙ sym b') (b ∙ e ∙ sym w')
same_opponent player x y (AsBlack b w) (AsWhite w' b') e = turned_if x y (w ∙ e ∙ sym b') (b ∙ sym w')
same_opponent player x y (AsBlack b w) (AsBlack b' w') e = same_if x y (w ∙ e ∙ sym w') (b ∙ sym b')

opponents_differ : (player : ℕ) → Numbers Apart IsSmall (is_by_player player) (opponent player) 64
opponents_differ player = record {
  below = λ x p k. opponent_small player x p;
  differ = λ x y p q k l r e.
      both_ways (same_players x y) r (same_opponent player x y (sides player x k) (sides player y l) e);
}

-- a player has at most 64 results
pub few_games : (player : ℕ) (reports : List Report) → AllPairs Apart reports → All IsSmall reports
    → count_by (is_by_player player) reports ≤ 64
few_games player reports r p = few_kept (opponents_differ player) reports r p

white_most : (score : Score) → white_halves score ≤ 2
white_most White = omega arith
white_most Draw = omega arith
white_most Black = omega arith

black_most : (score : Score) → black_halves score ≤ 2
black_most White = omega arith
black_most Draw = omega arith
black_most Black = omega arith

one_most : (player : ℕ) (report : Report) → halves_from player report ≤ 2 * cond (is_by_player player report) 1 0
one_most player report =
    elim (eqb report.white player)
    as (λ s.
    cond s (white_halves report.score) (cond (eqb report.black player) (black_halves report.score) 0)
    ≤ 2 * cond (s || eqb report.black player) 1 0) [
      | true ↦ white_most report.score
      | false ↦
          elim (eqb report.black player) as (λ t. cond t (black_halves report.score) 0 ≤ 2 * cond t 1 0) [
            | true ↦ black_most report.score
            | false ↦ omega arith
          ]
    ]

bounds : (h hs g gs h' g' : ℕ) → h ≤ 2 * g → hs ≤ 2 * gs → h' ≡ h + hs → g' ≡ g + gs → h' ≤ 2 * g'
bounds h hs g gs h' g' p q e f = omega arith

-- and at most two half-points from each
pub halves_most : (player : ℕ) (reports : List Report)
    → sum_by (halves_from player) reports ≤ 2 * count_by (is_by_player player) reports
halves_most player [] = omega arith
halves_most player (report ∷ reports) =
    let rest : sum_by (halves_from player) reports ≤ 2 * count_by (is_by_player player) reports =
    halves_most player reports in
    let first : halves_from player report ≤ 2 * cond (is_by_player player report) 1 0 = one_most player report in
    let halves : sum_by (halves_from player) (report ∷ reports)
    ≡ halves_from player report + sum_by (halves_from player) reports =
    sum_by-cons (halves_from player) report reports in
    let games : count_by (is_by_player player) (report ∷ reports)
    ≡ cond (is_by_player player report) 1 0 + count_by (is_by_player player) reports =
    sum_by-cons (λ r. cond (is_by_player player r) 1 0) report reports in
    bounds (halves_from player report) (sum_by (halves_from player) reports) (cond (is_by_player player report) 1 0)
    (count_by (is_by_player player) reports)
    (sum_by (halves_from player) (report ∷ reports)) (count_by (is_by_player player) (report ∷ reports)) first rest
    halves
    games
