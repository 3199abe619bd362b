-- Lists of half-moves that are allowed, part by part.
use Rattle.std.proofs.Common.{arith, ◌≡◌, ℕ, zero, suc, ◌+◌, ◌<◌, ◌≤◌, inl, inr, List, [], ◌∷◌, ◌++◌, map, Bool, true, false, cond, Option, Some, None, refl, sym, ap, ◌∙◌}
use Rattle.std.specs.List.{filter, flat_map, range_with_len}
use Rattle.std.proofs.lemmas.Bool.{cases_order, false_from_ne_true}
use Rattle.std.proofs.lemmas.List.{append-nil}
use Rattle.std.proofs.lemmas.List.Elements.{filter-append}
use Rattle.std.proofs.lemmas.Grind.{flat_map-append}
use Rattle.chess_model.specs.declared.man.Kind.{Kind}
use Rattle.chess_model.specs.declared.man.Kind.TheVariants.{Knight, Bishop, Rook, Queen}
use Rattle.chess_model.specs.declared.moves.Move.{Move}
use Rattle.chess_model.specs.declared.moves.Move.TheVariants.{Plain, Drop}
use Rattle.chess_model.specs.Position.{Position}
use Rattle.chess_model.specs.Allowed.{IsMove, IsSafeAfter, Allowed}
use Rattle.chess_model.specs.Tests.{is_allowed}
use Rattle.chess_model.specs.AllMoves.{promotions, moves_from}
use Rattle.chess_model.proofs.TestsDecide.{Decides-allowed}
use Rattle.variant_rules.specs.Listing.{moves_between, moves_from_below, plain_moves_below, drops_below, if_allowed}

range-more : (a n : ℕ) → range_with_len a (suc n) ≡ range_with_len a n ++ (a + n) ∷ []
range-more a zero = ap (λ x. x ∷ []) (let e : a ≡ a + 0 = omega arith in e)
range-more a (suc n) =
    ap (λ xs. a ∷ xs)
    (range-more (a + 1) n
    ∙ ap (λ x. range_with_len (a + 1) n ++ x ∷ []) (let e : a + 1 + n ≡ a + suc n = omega arith in e))

-- the elements of the parts below n that pass
abbrev pub part : (Move → Bool) → (ℕ → List Move) → ℕ → List Move
part f g n = filter f (flat_map g (range_with_len 0 n))

part-more : (f : Move → Bool) (g : ℕ → List Move) (n : ℕ) → part f g (suc n) ≡ part f g n ++ filter f (g n)
part-more f g n =
    ap (λ r. filter f (flat_map g r))
    (range-more 0 n ∙ ap (λ x. range_with_len 0 n ++ x ∷ []) (let e : 0 + n ≡ n = omega arith in e))
    ∙ ap (filter f) (flat_map-append g (range_with_len 0 n) (n ∷ []))
    ∙ filter-append f (flat_map g (range_with_len 0 n)) (flat_map g (n ∷ []))
    ∙ ap (λ x. part f g n ++ filter f x) (append-nil (g n))

-- parts in which nothing passes
pub part-skip : (f : Move → Bool) (g : ℕ → List Move) (m n : ℕ) → m ≤ n
    → ((k : ℕ) → m ≤ k → k < n → filter f (g k) ≡ []) →
    part f g n ≡ part f g m
part-skip f g m zero le none = ap (part f g) (let e : 0 ≡ m = omega arith in e)
part-skip f g m (suc n) le none = elim (cases_order m (suc n)) [
  | inl same ↦ ap (part f g) (sym same)
  | inr other ↦ elim other [
    | inl less ↦
        part-more f g n ∙ ap (λ x. part f g n ++ x) (none n (omega arith) (omega arith)) ∙ append-nil (part f g n)
        ∙ part-skip f g m n (omega arith) (λ k from below. none k from (omega arith))
    | inr more ↦ absurd (omega arith)
  ]
]

-- one part more, and parts after it in which nothing passes
pub part-step : (f : Move → Bool) (g : ℕ → List Move) (m n : ℕ) (x : List Move) → m < n → filter f (g m) ≡ x →
    ((k : ℕ) → m + 1 ≤ k → k < n → filter f (g k) ≡ []) → part f g n ≡ part f g m ++ x
part-step f g m n x less e none =
    part-skip f g (suc m) n (omega arith) (λ k from below. none k (omega arith) below) ∙ part-more f g m
    ∙ ap (λ y. part f g m ++ y) e

-- whether a half-move is allowed

pub allowed-yes : (p : Position) (m : Move) → IsMove p m → IsSafeAfter p m → is_allowed p m ≡ true
allowed-yes p m here safe = (Decides-allowed p m).1 (record { move = here; safe = safe })

pub allowed-no : (p : Position) (m : Move) → ¬ Allowed p m → is_allowed p m ≡ false
allowed-no p m none = false_from_ne_true (is_allowed p m) (λ e. none ((Decides-allowed p m).0 e))

pub if_allowed-yes : (p : Position) (m : Move) → IsMove p m → IsSafeAfter p m → if_allowed p m ≡ m ∷ []
unfolding if_allowed
if_allowed-yes p m here safe = ap (λ (b : Bool). cond b (m ∷ []) []) (allowed-yes p m here safe)

pub if_allowed-not : (p : Position) (m : Move) → ¬ Allowed p m → if_allowed p m ≡ []
unfolding if_allowed
if_allowed-not p m none = ap (λ (b : Bool). cond b (m ∷ []) []) (allowed-no p m none)

pub if_allowed-unsafe : (p : Position) (m : Move) → ¬ IsSafeAfter p m → if_allowed p m ≡ []
unfolding if_allowed
if_allowed-unsafe p m bare = ap (λ (b : Bool). cond b (m ∷ []) []) (allowed-no p m (λ h. bare h.safe))

pub if_allowed-none : (p : Position) (m : Move) → ¬ IsMove p m → if_allowed p m ≡ []
unfolding if_allowed
if_allowed-none p m none = ap (λ (b : Bool). cond b (m ∷ []) []) (allowed-no p m (λ h. none h.move))

-- the promotions of a move one by one

abbrev five : Position → Move → Move → Move → Move → Move → List Move
five p m0 m1 m2 m3 m4 =
    if_allowed p m0 ++ (if_allowed p m1 ++ (if_allowed p m2 ++ (if_allowed p m3 ++ if_allowed p m4)))

filter-five : (p : Position) (m0 m1 m2 m3 m4 : Move)
    → filter (is_allowed p) (m0 ∷ m1 ∷ m2 ∷ m3 ∷ m4 ∷ []) ≡ five p m0 m1 m2 m3 m4
unfolding if_allowed
filter-five p m0 m1 m2 m3 m4 =
    let f = is_allowed p in
    filter-append f (m0 ∷ []) (m1 ∷ m2 ∷ m3 ∷ m4 ∷ [])
    ∙ ap (λ x. filter f (m0 ∷ []) ++ x) (filter-append f (m1 ∷ []) (m2 ∷ m3 ∷ m4 ∷ [])
    ∙ ap (λ x. filter f (m1 ∷ []) ++ x) (filter-append f (m2 ∷ []) (m3 ∷ m4 ∷ [])
    ∙ ap (λ x. filter f (m2 ∷ []) ++ x) (filter-append f (m3 ∷ []) (m4 ∷ []))))

between-five : (p : Position) (a b : ℕ) →
    moves_between p a b ≡
    five p (Plain a b None) (Plain a b (Some Queen)) (Plain a b (Some Rook)) (Plain a b (Some Bishop))
    (Plain a b (Some Knight))
unfolding moves_between
between-five p a b =
    filter-five p (Plain a b None) (Plain a b (Some Queen)) (Plain a b (Some Rook)) (Plain a b (Some Bishop))
    (Plain a b (Some Knight))

pub between-not : (p : Position) (a b : ℕ) → ((promo : Option Kind) → ¬ Allowed p (Plain a b promo))
    → moves_between p a b ≡ []
between-not p a b none =
    let q = if_allowed-not p (Plain a b (Some Queen)) (none (Some Queen)) in
    let r = if_allowed-not p (Plain a b (Some Rook)) (none (Some Rook)) in
    let s = if_allowed-not p (Plain a b (Some Bishop)) (none (Some Bishop)) in
    let t = if_allowed-not p (Plain a b (Some Knight)) (none (Some Knight)) in
    let u = if_allowed-not p (Plain a b None) (none None) in
    between-five p a b ∙ (λ i. u i ++ (q i ++ (r i ++ (s i ++ t i))))

pub between-none : (p : Position) (a b : ℕ) → ((promo : Option Kind) → ¬ IsMove p (Plain a b promo))
    → moves_between p a b ≡ []
between-none p a b none = between-not p a b (λ promo h. none promo h.move)

pub between-one : (p : Position) (a b : ℕ) → ((k : Kind) → ¬ IsMove p (Plain a b (Some k)))
    → moves_between p a b ≡ if_allowed p (Plain a b None)
between-one p a b none =
    let q = if_allowed-none p (Plain a b (Some Queen)) (none Queen) in
    let r = if_allowed-none p (Plain a b (Some Rook)) (none Rook) in
    let s = if_allowed-none p (Plain a b (Some Bishop)) (none Bishop) in
    let t = if_allowed-none p (Plain a b (Some Knight)) (none Knight) in
    between-five p a b ∙ (λ i. if_allowed p (Plain a b None) ++ (q i ++ (r i ++ (s i ++ t i))))
    ∙ append-nil (if_allowed p (Plain a b None))

pub between-four : (p : Position) (a b : ℕ) → ¬ IsMove p (Plain a b None) →
    moves_between p a b ≡
    if_allowed p (Plain a b (Some Queen))
    ++ (if_allowed p (Plain a b (Some Rook))
    ++ (if_allowed p (Plain a b (Some Bishop)) ++ if_allowed p (Plain a b (Some Knight))))
between-four p a b none =
    between-five p a b
    ∙ ap
    (λ x.
    x
    ++ (if_allowed p (Plain a b (Some Queen))
    ++ (if_allowed p (Plain a b (Some Rook))
    ++ (if_allowed p (Plain a b (Some Bishop)) ++ if_allowed p (Plain a b (Some Knight))))))
    (if_allowed-none p (Plain a b None) none)

-- one square after the other

pub from-start : (p : Position) (a n : ℕ) → ((k : ℕ) → k < n → moves_between p a k ≡ []) → moves_from_below p a n ≡ []
unfolding moves_from_below moves_between
from-start p a n none =
    part-skip (is_allowed p) (λ b. map (Plain a b) promotions) 0 n (omega arith) (λ k _ below. none k below)

pub from-step : (p : Position) (a m n : ℕ) → m < n → ((k : ℕ) → m + 1 ≤ k → k < n → moves_between p a k ≡ []) →
    moves_from_below p a n ≡ moves_from_below p a m ++ moves_between p a m
unfolding moves_from_below moves_between
from-step p a m n less none =
    part-step (is_allowed p) (λ b. map (Plain a b) promotions) m n (moves_between p a m) less refl none

pub plain-start : (p : Position) (n : ℕ) → ((k : ℕ) → k < n → moves_from_below p k 64 ≡ []) → plain_moves_below p n ≡ []
unfolding moves_from_below plain_moves_below
plain-start p n none = part-skip (is_allowed p) moves_from 0 n (omega arith) (λ k _ below. none k below)

pub plain-step : (p : Position) (m n : ℕ) → m < n → ((k : ℕ) → m + 1 ≤ k → k < n → moves_from_below p k 64 ≡ []) →
    plain_moves_below p n ≡ plain_moves_below p m ++ moves_from_below p m 64
unfolding moves_from_below plain_moves_below
plain-step p m n less none = part-step (is_allowed p) moves_from m n (moves_from_below p m 64) less refl none

pub drops-start : (p : Position) (k : Kind) (n : ℕ) → ((t : ℕ) → t < n → if_allowed p (Drop k t) ≡ [])
    → drops_below p k n ≡ []
unfolding drops_below if_allowed
drops-start p k n none = part-skip (is_allowed p) (λ t. Drop k t ∷ []) 0 n (omega arith) (λ t _ below. none t below)

pub drops-step : (p : Position) (k : Kind) (m n : ℕ) → m < n
    → ((t : ℕ) → m + 1 ≤ t → t < n → if_allowed p (Drop k t) ≡ []) →
    drops_below p k n ≡ drops_below p k m ++ if_allowed p (Drop k m)
unfolding drops_below if_allowed
drops-step p k m n less none =
    part-step (is_allowed p) (λ t. Drop k t ∷ []) m n (if_allowed p (Drop k m)) less refl none
