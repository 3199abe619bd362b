-- Squares of a board that is turned over: files stay, ranks go to the other end, lines stay lines.
use Rattle.std.proofs.Common.{arith, ◌≡◌, ◌≢◌, ℕ, ◌-◌, ◌<◌, ◌≤◌, Bool, true, false, cond, max, nat_lt, refl, sym, ap, ◌∙◌, inl, inr}
use Rattle.std.proofs.lemmas.Bool.Decides.{Decides-ltb}
use Rattle.std.proofs.lemmas.Bool.{cases_lt}
use Rattle.chess_model.specs.Squares.{file_of, rank_of, square_at, files_apart, ranks_apart, distance, toward, along}
use Rattle.rules_laws.specs.Mirror.{turned}

turned-choice : (q : Bool) (s : ℕ) → q ≡ true
    → cond q (square_at (file_of s) (7 - rank_of s)) s ≡ square_at (file_of s) (7 - rank_of s)
turned-choice true s e = refl
turned-choice false s e = cc

turned-else : (q : Bool) (s : ℕ) → (q ≡ true → s < 64) → 64 ≤ s → cond q (square_at (file_of s) (7 - rank_of s)) s ≡ s
turned-else true s on far = absurd (omega (arith, on refl, far))
turned-else false s on far = refl

pub turned-on : (s : ℕ) → s < 64 → turned s ≡ square_at (file_of s) (7 - rank_of s)
unfolding turned
turned-on s h = turned-choice (nat_lt s 64) s ((Decides-ltb s 64).1 h)

pub turned-off : (s : ℕ) → 64 ≤ s → turned s ≡ s
unfolding turned
turned-off s far = turned-else (nat_lt s 64) s ((Decides-ltb s 64).0) far

pub turned-lt : (s : ℕ) → s < 64 → turned s < 64
turned-lt s h = omega (arith, h, turned-on s h)

pub file-turned : (s : ℕ) → s < 64 → file_of (turned s) ≡ file_of s
file-turned s h = omega (arith, h, turned-on s h)

pub rank-turned : (s : ℕ) → s < 64 → rank_of (turned s) ≡ 7 - rank_of s
rank-turned s h = omega (arith, h, turned-on s h)

pub turned-turned : (s : ℕ) → turned (turned s) ≡ s
turned-turned s = elim (cases_lt s 64) [
  | inl h ↦ omega (arith, h, turned-on s h, turned-lt s h, turned-on (turned s) (turned-lt s h))
  | inr far ↦ ap turned (turned-off s far) ∙ turned-off s far
]

pub turned-same : (a b : ℕ) → turned a ≡ turned b → a ≡ b
turned-same a b e = sym (turned-turned a) ∙ ap turned e ∙ turned-turned b

pub turned-differs : (a b : ℕ) → a ≢ b → turned a ≢ turned b
turned-differs a b differ e = differ (turned-same a b e)

pub files-turned : (a b : ℕ) → a < 64 → b < 64 → files_apart (turned a) (turned b) ≡ files_apart a b
files-turned a b ha hb = omega (arith, file-turned a ha, file-turned b hb)

pub ranks-turned : (a b : ℕ) → a < 64 → b < 64 → ranks_apart (turned a) (turned b) ≡ ranks_apart a b
ranks-turned a b ha hb = omega (arith, ha, hb, rank-turned a ha, rank-turned b hb)

pub distance-turned : (a b : ℕ) → a < 64 → b < 64 → distance (turned a) (turned b) ≡ distance a b
distance-turned a b ha hb = λ i. max (files-turned a b ha hb i) (ranks-turned a b ha hb i)

toward-turned : (x y k : ℕ) → x ≤ 7 → y ≤ 7 → toward (7 - x) (7 - y) k ≡ 7 - toward x y k
toward-turned x y k hx hy = omega arith

toward-le : (x y k : ℕ) → x ≤ 7 → y ≤ 7 → toward x y k ≤ 7
toward-le x y k hx hy = omega arith

pub file-le : (s : ℕ) → file_of s ≤ 7
file-le s = omega arith

pub rank-le : (s : ℕ) → s < 64 → rank_of s ≤ 7
rank-le s h = omega (arith, h)

square-lt : (f r : ℕ) → f ≤ 7 → r ≤ 7 → square_at f r < 64
square-lt f r hf hr = omega arith

pub turned-square : (f r : ℕ) → f ≤ 7 → r ≤ 7 → turned (square_at f r) ≡ square_at f (7 - r)
turned-square f r hf hr = omega (arith, turned-on (square_at f r) (square-lt f r hf hr))

pub along-turned : (a b k : ℕ) → a < 64 → b < 64 → along (turned a) (turned b) k ≡ turned (along a b k)
along-turned a b k ha hb =
    let f : ℕ = toward (file_of a) (file_of b) k in
    let r : ℕ = toward (rank_of a) (rank_of b) k in
    let file : toward (file_of (turned a)) (file_of (turned b)) k ≡ f =
    (λ i. toward (file-turned a ha i) (file-turned b hb i) k) in
    let rank : toward (rank_of (turned a)) (rank_of (turned b)) k ≡ 7 - r =
    (λ i. toward (rank-turned a ha i) (rank-turned b hb i) k) ∙
    toward-turned (rank_of a) (rank_of b) k (rank-le a ha) (rank-le b hb) in
    (λ i. square_at (file i) (rank i)) ∙
    sym (turned-square f r (toward-le (file_of a) (file_of b) k (file-le a) (file-le b))
    (toward-le (rank_of a) (rank_of b) k (rank-le a ha) (rank-le b hb)))
