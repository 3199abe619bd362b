-- Squares along a line from a king.
use Rattle.std.proofs.Common.{arith, ◌≡◌, ◌≢◌, ℕ, ◌<◌, ◌≤◌, ◌⊎◌, inl, inr, min, max, refl, sym, ap, subst, ◌∙◌, None}
use Rattle.std.specs.Int.{abs_diff}
use Rattle.std.proofs.lemmas.Bool.{cases_eq}
use Rattle.chess_model.specs.declared.man.Colour.{Colour}
use Rattle.chess_model.specs.declared.man.Kind.{Kind}
use Rattle.chess_model.specs.declared.man.Kind.TheVariants.{Pawn, Knight, Bishop, Rook, Queen, King}
use Rattle.chess_model.specs.Squares.{file_of, rank_of, square_at, files_apart, ranks_apart, distance, toward, along}
use Rattle.chess_model.specs.Placement.{Placement, man_at, opposite}
use Rattle.chess_model.specs.Reach.{IsStep, Clear, IsOpen, Strikes}
use Rattle.bitboard_core.proofs.RayLemmas.{file_of-square_at, rank_of-square_at}
use Rattle.chess_model.proofs.Captures.{forward-near}
use Rattle.chess_model.proofs.ChessLaws.{Clear-near, Strikes-back, opposite-opposite}
use Rattle.chess_model.proofs.Squares.{along-lt, file-lt, toward-lt}

-- the coordinates of a square along the way

file-along : (s x k : ℕ) → file_of (along s x k) ≡ toward (file_of s) (file_of x) k
file-along s x k =
    file_of-square_at (toward (file_of s) (file_of x) k) (toward (rank_of s) (rank_of x) k)
    (toward-lt (file_of s) (file_of x) k (file-lt s) (file-lt x))

rank-along : (s x k : ℕ) → rank_of (along s x k) ≡ toward (rank_of s) (rank_of x) k
rank-along s x k =
    rank_of-square_at (toward (file_of s) (file_of x) k) (toward (rank_of s) (rank_of x) k)
    (toward-lt (file_of s) (file_of x) k (file-lt s) (file-lt x))

-- k steps toward y leave x by k, or reach y
apart-toward : (x y k : ℕ) → abs_diff x (toward x y k) ≡ min k (abs_diff x y)
apart-toward x y k = omega arith

toward-short : (x y k j : ℕ) → j ≤ k → toward x (toward x y k) j ≡ toward x y j
toward-short x y k j le = omega arith

files-along : (s x k : ℕ) → files_apart s (along s x k) ≡ min k (files_apart s x)
files-along s x k = ap (abs_diff (file_of s)) (file-along s x k) ∙ apart-toward (file_of s) (file_of x) k

ranks-along : (s x k : ℕ) → ranks_apart s (along s x k) ≡ min k (ranks_apart s x)
ranks-along s x k = ap (abs_diff (rank_of s)) (rank-along s x k) ∙ apart-toward (rank_of s) (rank_of x) k

max-min : (k f r : ℕ) → max (min k f) (min k r) ≡ min k (max f r)
max-min k f r = omega arith

pub distance-along : (s x k : ℕ) → k ≤ distance s x → distance s (along s x k) ≡ k
distance-along s x k le =
    (λ i. max (files-along s x k i) (ranks-along s x k i)) ∙ max-min k (files_apart s x) (ranks_apart s x)
    ∙ small k (distance s x) le
  where
    small : (k d : ℕ) → k ≤ d → min k d ≡ k
    small k d le = omega arith

-- a square on the way to one on the way
pub along-short : (s x k j : ℕ) → j ≤ k → along s (along s x k) j ≡ along s x j
along-short s x k j le =
    let file : toward (file_of s) (file_of (along s x k)) j ≡ toward (file_of s) (file_of x) j =
    ap (λ y. toward (file_of s) y j) (file-along s x k) ∙ toward-short (file_of s) (file_of x) k j le in
    let rank : toward (rank_of s) (rank_of (along s x k)) j ≡ toward (rank_of s) (rank_of x) j =
    ap (λ y. toward (rank_of s) y j) (rank-along s x k) ∙ toward-short (rank_of s) (rank_of x) k j le in
    λ i. square_at (file i) (rank i)

-- a square on the way along a queen's line is on such a line

pub distance-self : (s t : ℕ) → s ≡ t → distance s t ≡ 0
distance-self s t e = ap (distance s) (sym e) ∙ zero_apart (file_of s) (rank_of s)
  where
    zero_apart : (x y : ℕ) → max (abs_diff x x) (abs_diff y y) ≡ 0
    zero_apart x y = omega arith

not_here : (s x k : ℕ) → 0 < k → k ≤ distance s x → s ≢ along s x k
not_here s x k some le e = absurd (omega (arith, some, distance-self s (along s x k) e, distance-along s x k le))

zero-min : (k f : ℕ) → f ≡ 0 → min k f ≡ 0
zero-min k f e = omega arith

pub queen-along : (c : Colour) (s x k : ℕ) → IsStep c Queen s x → 0 < k → k ≤ distance s x
    → IsStep c Queen s (along s x k)
unfolding IsStep
queen-along c s x k step some le = elim step [
  | inl straight ↦ inl (
    not_here s x k some le,
    elim (straight.1) [
      | inl files ↦ inl (files-along s x k ∙ zero-min k (files_apart s x) files)
      | inr ranks ↦ inr (ranks-along s x k ∙ zero-min k (ranks_apart s x) ranks)
    ],
  )
  | inr diagonal ↦ inr (not_here s x k some le, files-along s x k ∙ ap (min k) diagonal.1 ∙ sym (ranks-along s x k))
]

-- where a man has left a square, or men have come, a way is as open as before, unless the square was on a queen's line
-- from the king

-- what is empty in Q was empty in P, but for a square a that no queen on s would strike
pub record Fills (P Q : Placement) (c : Colour) (s a : ℕ) : Type 0 where
  pub same : (t : ℕ) → t < 64 → t ≢ a → man_at Q t ≡ None → man_at P t ≡ None
  pub left : (man_at Q a ≡ None → man_at P a ≡ None) ⊎ (¬ Strikes P c Queen s a)

still-clear : (P Q : Placement) (c : Colour) (s x a : ℕ) → s < 64 → x < 64 → Fills P Q c s a → IsStep c Queen s x
    → Clear Q s x →
    Clear P s x
still-clear P Q c s x a ls lx fills step clear = record {
  empty = λ k some less.
      let u : ℕ = along s x k in
      let free : man_at Q u ≡ None = clear.empty k some less in
      elim (cases_eq u a) [
        | inr other ↦ fills.same u (along-lt s x k ls lx) other free
        | inl same ↦ elim (fills.left) [
          | inl kept ↦ ap (man_at P) same ∙ kept (ap (man_at Q) (sym same) ∙ free)
          | inr unexposed ↦
              let le : k ≤ distance s x = omega (arith, less) in
              let far : distance s u ≡ k = distance-along s x k le in
              let way : Clear P s u = record {
                empty = λ j more fewer.
                    let jk : j < k = omega (arith, fewer, far) in
                    let e : along s u j ≡ along s x j = along-short s x k j (omega (arith, jk)) in
                    let v : ℕ = along s x j in
                    let near : distance s v ≡ j = distance-along s x j (omega (arith, jk, less)) in
                    let apart : v ≢ a = λ f. absurd (omega (arith, jk, near, far, ap (distance s) (f ∙ sym same))) in
                    ap (man_at P) e
                    ∙ fills.same v (along-lt s x j ls lx) apart (clear.empty j more (omega (arith, jk, less)));
              } in
              let strikes : Strikes P c Queen s u =
              record { step = queen-along c s x k step some le; open_way = way } in
              absurd (unexposed (subst (λ (t : ℕ). Strikes P c Queen s t) same strikes))
        ]
      ];
}

line-of : (c d : Colour) (k : Kind) (s x : ℕ) → (k ≡ Bishop) ⊎ ((k ≡ Rook) ⊎ (k ≡ Queen)) → IsStep d k s x
    → IsStep c Queen s x
unfolding IsStep
line-of c d Pawn s x h step = absurd (not_line h)
  where
    not_line : (Pawn ≡ Bishop) ⊎ ((Pawn ≡ Rook) ⊎ (Pawn ≡ Queen)) → ⊥
    not_line h = elim h [ inl e ↦ cc | inr h2 ↦ elim h2 [ inl e ↦ cc | inr e ↦ cc ] ]
line-of c d Knight s x h step = absurd (not_line h)
  where
    not_line : (Knight ≡ Bishop) ⊎ ((Knight ≡ Rook) ⊎ (Knight ≡ Queen)) → ⊥
    not_line h = elim h [ inl e ↦ cc | inr h2 ↦ elim h2 [ inl e ↦ cc | inr e ↦ cc ] ]
line-of c d Bishop s x h step = inr step
line-of c d Rook s x h step = inl step
line-of c d Queen s x h step = step
line-of c d King s x h step = absurd (not_line h)
  where
    not_line : (King ≡ Bishop) ⊎ ((King ≡ Rook) ⊎ (King ≡ Queen)) → ⊥
    not_line h = elim h [ inl e ↦ cc | inr h2 ↦ elim h2 [ inl e ↦ cc | inr e ↦ cc ] ]

open-of : (k : Kind) (P : Placement) (a b : ℕ) → Clear P a b → IsOpen k P a b
open-of Pawn P a b h = h
open-of Knight P a b h = tt
open-of Bishop P a b h = h
open-of Rook P a b h = h
open-of Queen P a b h = h
open-of King P a b h = h

clear-of : (k : Kind) (P : Placement) (a b : ℕ) → k ≢ Knight → IsOpen k P a b → Clear P a b
clear-of Pawn P a b other h = h
clear-of Knight P a b other h = absurd (other refl)
clear-of Bishop P a b other h = h
clear-of Rook P a b other h = h
clear-of Queen P a b other h = h
clear-of King P a b other h = h

-- a man on a line strikes the king in P if it does so in Q
by-line : (P Q : Placement) (c by : Colour) (k : Kind) (s x a : ℕ) → s < 64 → x < 64 → Fills P Q c s a →
    (k ≡ Bishop) ⊎ ((k ≡ Rook) ⊎ (k ≡ Queen)) → k ≢ Knight → Strikes Q by k x s → Strikes P by k x s
by-line P Q c by k s x a ls lx fills line other h =
    let back : Strikes Q (opposite by) k s x = Strikes-back Q by k x s h in
    let clear : Clear P s x =
    still-clear P Q c s x a ls lx fills (line-of c (opposite by) k s x line back.step)
    (clear-of k Q s x other back.open_way) in
    let there : Strikes P (opposite by) k s x = record { step = back.step; open_way = open-of k P s x clear } in
    subst (λ (d : Colour). Strikes P d k x s) (opposite-opposite by) (Strikes-back P (opposite by) k s x there)

pub still-strikes : (P Q : Placement) (c by : Colour) (k : Kind) (s x a : ℕ) → s < 64 → x < 64 → Fills P Q c s a →
    Strikes Q by k x s → Strikes P by k x s
unfolding IsStep
still-strikes P Q c by Pawn s x a ls lx fills h =
    record { step = h.step; open_way = Clear-near P x s (forward-near by x s h.step.0 h.step.1) }
still-strikes P Q c by Knight s x a ls lx fills h = record { step = h.step; open_way = tt }
still-strikes P Q c by Bishop s x a ls lx fills h = by-line P Q c by Bishop s x a ls lx fills (inl refl) (λ e. cc) h
still-strikes P Q c by Rook s x a ls lx fills h = by-line P Q c by Rook s x a ls lx fills (inr (inl refl)) (λ e. cc) h
still-strikes P Q c by Queen s x a ls lx fills h = by-line P Q c by Queen s x a ls lx fills (inr (inr refl)) (λ e. cc) h
still-strikes P Q c by King s x a ls lx fills h =
    let near : distance x s ≡ 1 = h.step in
    record { step = h.step; open_way = Clear-near P x s (omega (arith, near)) }
