-- What the men of a placement weigh, each by the same measure, before and after a half-move.
use Rattle.std.proofs.Common.{arith, ◌≡◌, ◌≢◌, ℕ, ◌+◌, ◌<◌, ◌≤◌, ◌⊎◌, inl, inr, true, length, Option, Some, None, slice_set, refl, sym, ap, subst, ◌∙◌}
use Rattle.std.specs.List.{sum_by}
use Rattle.std.proofs.lemmas.Bool.{cases_eq}
use Rattle.std.proofs.lemmas.List.{length-set, get_or-set_other, get_or-set_same}
use Rattle.std.proofs.lemmas.List.Sums.{sum_by-set}
use Rattle.chess_model.specs.declared.man.Colour.{Colour}
use Rattle.chess_model.specs.declared.man.Kind.{Kind}
use Rattle.chess_model.specs.declared.man.Kind.TheVariants.{Pawn, Knight, Bishop, Rook, Queen, King}
use Rattle.chess_model.specs.declared.man.Man.{Man}
use Rattle.chess_model.specs.declared.moves.Move.{Move}
use Rattle.chess_model.specs.declared.moves.Move.TheVariants.{Plain, Castle, Drop}
use Rattle.chess_model.specs.Squares.{file_of, rank_of, square_at, toward, along, distance}
use Rattle.chess_model.specs.Placement.{Placement, man_at, unpromoted, king_home, rook_home, king_end, rook_end}
use Rattle.chess_model.specs.MoveList.{taking_square, landed, two_moved, place_after, taken}
use Rattle.chess_model.specs.Position.{Position}
use Rattle.chess_model.specs.Allowed.{IsPromotion, HasPromotion, IsFreeFor, IsFreeWay, Allowed}
use Rattle.chess_model.specs.LegalPositions.{IsSound}
use Rattle.chess_model.proofs.Captures.{mover, Take, nothing, on_target, passing, take_of}
use Rattle.chess_model.proofs.NoMoreMen.{taking_square-lt, taking_square-differs, origin, homes}

-- clearing a square
pub empties : (P : Placement) (s x : ℕ) → s < length P → (x ≡ s) ⊎ (man_at P x ≡ None)
    → man_at (slice_set P s None) x ≡ None
empties P s x h why = elim (cases_eq x s) [
  | inl e ↦ ap (man_at (slice_set P s None)) e ∙ get_or-set_same P s None None h
  | inr other ↦ get_or-set_other P s x None None other ∙ elim why [ inl e ↦ absurd (other e) | inr free ↦ free ]
]

module _ (f : Option Man → ℕ) (none : f None ≡ 0) where
  -- a man leaves a, what stands on t is taken, and a man comes to b, which is empty then
  pub weight-plain : (P : Placement) (t a b : ℕ) (man : Option Man) → t < length P → a < length P → b < length P →
      t ≢ a → man_at (slice_set (slice_set P t None) a None) b ≡ None →
      sum_by f (slice_set (slice_set (slice_set P t None) a None) b man) + (f (man_at P t) + f (man_at P a))
      ≡ sum_by f P + f man
  weight-plain P t a b man ht ha hb differ free =
      let lifted : Placement = slice_set P t None in
      let left : Placement = slice_set lifted a None in
      let still : man_at lifted a ≡ man_at P a = get_or-set_other P t a None None (λ e. differ (sym e)) in
      let first : sum_by f lifted + f (man_at P t) ≡ sum_by f P + f None = sum_by-set f P t None None ht in
      let second : sum_by f left + f (man_at lifted a) ≡ sum_by f lifted + f None =
      sum_by-set f lifted a None None (omega (arith, ha, length-set P t None)) in
      let third : sum_by f (slice_set left b man) + f (man_at left b) ≡ sum_by f left + f man =
      sum_by-set f left b man None (omega (arith, hb, length-set P t None, length-set lifted a None)) in
      let fa : f (man_at lifted a) ≡ f (man_at P a) = ap f still in
      let fb : f (man_at left b) ≡ f None = ap f free in
      omega (arith, first, second, third, fa, fb, none)

  -- the men of a and b go to x and y, which are empty then
  pub weight-two_moved : (P : Placement) (a b x y : ℕ) → a < length P → b < length P → x < length P → y < length P
      → a ≢ b → x ≢ y →
      man_at (slice_set (slice_set P a None) b None) x ≡ None
      → man_at (slice_set (slice_set P a None) b None) y ≡ None →
      sum_by f (two_moved P a b x y) ≡ sum_by f P
  weight-two_moved P a b x y ha hb hx hy differ goals_differ free_x free_y =
      let one_left : Placement = slice_set P a None in
      let both_left : Placement = slice_set one_left b None in
      let one_came : Placement = slice_set both_left x (man_at P a) in
      let still : man_at one_left b ≡ man_at P b = get_or-set_other P a b None None (λ e. differ (sym e)) in
      let still_y : man_at one_came y ≡ man_at both_left y =
      get_or-set_other both_left x y (man_at P a) None (λ e. goals_differ (sym e)) in
      let la : length one_left ≡ length P = length-set P a None in
      let lb : length both_left ≡ length one_left = length-set one_left b None in
      let lc : length one_came ≡ length both_left = length-set both_left x (man_at P a) in
      let first : sum_by f one_left + f (man_at P a) ≡ sum_by f P + f None = sum_by-set f P a None None ha in
      let second : sum_by f both_left + f (man_at one_left b) ≡ sum_by f one_left + f None =
      sum_by-set f one_left b None None (omega (arith, hb, la)) in
      let third : sum_by f one_came + f (man_at both_left x) ≡ sum_by f both_left + f (man_at P a) =
      sum_by-set f both_left x (man_at P a) None (omega (arith, hx, la, lb)) in
      let fourth : sum_by f (slice_set one_came y (man_at P b)) + f (man_at one_came y)
      ≡ sum_by f one_came + f (man_at P b) =
      sum_by-set f one_came y (man_at P b) None (omega (arith, hy, la, lb, lc)) in
      let fb : f (man_at one_left b) ≡ f (man_at P b) = ap f still in
      let fx : f (man_at both_left x) ≡ f None = ap f free_x in
      let fy : f (man_at one_came y) ≡ f None = ap f (still_y ∙ free_y) in
      omega (arith, first, second, third, fourth, fb, fx, fy, none)

toward-end : (x y d : ℕ) → x ≤ y + d → y ≤ x + d → toward x y d ≡ y
toward-end x y d h g = omega arith

files_within : (a b : ℕ) → (file_of a ≤ file_of b + distance a b) × (file_of b ≤ file_of a + distance a b)
files_within a b = (omega arith, omega arith)

ranks_within : (a b : ℕ) → (rank_of a ≤ rank_of b + distance a b) × (rank_of b ≤ rank_of a + distance a b)
ranks_within a b = (omega arith, omega arith)

pub square_at-parts : (b : ℕ) → square_at (file_of b) (rank_of b) ≡ b
square_at-parts b = omega arith

-- a way comes to its end
pub along-end : (a b : ℕ) → along a b (distance a b) ≡ b
along-end a b =
    let d : ℕ = distance a b in
    let f = files_within a b in
    let r = ranks_within a b in
    let file : toward (file_of a) (file_of b) d ≡ file_of b = toward-end (file_of a) (file_of b) d f.0 f.1 in
    let rank : toward (rank_of a) (rank_of b) d ≡ rank_of b = toward-end (rank_of a) (rank_of b) d r.0 r.1 in
    (λ i. square_at (file i) (rank i)) ∙ square_at-parts b

end_free : (P : Placement) (king rook a b : ℕ) → king < length P → rook < length P → IsFreeWay P king rook a b →
    man_at (slice_set (slice_set P king None) rook None) b ≡ None
end_free P king rook a b hk hr way =
    let free : IsFreeFor P king rook b =
    subst (λ s. IsFreeFor P king rook s) (along-end a b) (way.free (distance a b) (omega arith)) in
    let hr' : rook < length (slice_set P king None) = omega (arith, hr, length-set P king None) in
    empties (slice_set P king None) rook b hr' (elim free [
      | inl e ↦ inr (empties P king b hk (inl e))
      | inr rest ↦ elim rest [ inl e ↦ inl e | inr empty ↦ inr (empties P king b hk (inr empty)) ]
    ])

-- a measure that takes a promoted man for the pawn that it was
pub record IsSteady (f : Option Man → ℕ) : Type 0 where
  pub none : f None ≡ 0
  pub steady : (m : Man) (k : Kind) → m.kind ≡ Pawn → IsPromotion (Some k) →
      f (Some (record { colour = m.colour; kind = k; promoted = true })) ≡ f (Some m)

-- what a half-move brings to the board
abbrev pub brought : (Option Man → ℕ) → Colour → Move → ℕ
brought f c (Plain a b promo) = 0
brought f c (Castle long) = 0
brought f c (Drop k to) = f (unpromoted c k)

becomes-steady : (f : Option Man → ℕ) → IsSteady f → (c : Colour) (m : Man) (b : ℕ) (promo : Option Kind) (k : Kind)
    → m.kind ≡ k →
    HasPromotion c k b promo → f (landed (Some m) promo) ≡ f (Some m)
becomes-steady f s c m b None k e h = refl
becomes-steady f s c m b (Some j) Pawn e (inl h) = s.steady m j e h.1
becomes-steady f s c m b (Some j) Pawn e (inr h) = absurd (let g : Some j ≡ None = h.1 in cc)
becomes-steady f s c m b (Some j) Knight e h = absurd (let g : Some j ≡ None = h in cc)
becomes-steady f s c m b (Some j) Bishop e h = absurd (let g : Some j ≡ None = h in cc)
becomes-steady f s c m b (Some j) Rook e h = absurd (let g : Some j ≡ None = h in cc)
becomes-steady f s c m b (Some j) Queen e h = absurd (let g : Some j ≡ None = h in cc)
becomes-steady f s c m b (Some j) King e h = absurd (let g : Some j ≡ None = h in cc)

target_free : (p : Position) (a b : ℕ) → a < length p.men → taking_square p.men a b < length p.men → Take p a b →
    man_at (slice_set (slice_set p.men (taking_square p.men a b) None) a None) b ≡ None
target_free p a b ha ht take =
    let t : ℕ = taking_square p.men a b in
    let ha' : a < length (slice_set p.men t None) = omega (arith, ha, length-set p.men t None) in
    empties (slice_set p.men t None) a b ha' (inr (empties p.men t b ht (why take)))
  where
    why : {p : Position} {a b : ℕ} → Take p a b → (b ≡ taking_square p.men a b) ⊎ (man_at p.men b ≡ None)
    why (nothing square free) = inr free
    why (on_target x square there prey) = inl (sym square)
    why (passing square passed differ how) = inr passed.empty

-- what stands after a half-move and what it took weigh what stood before and what it brought
pub weight-after : (f : Option Man → ℕ) → IsSteady f → (p : Position) (m : Move) → IsSound p → Allowed p m →
    sum_by f (place_after p.variant p.men p.to_move m) + f (taken p.men m) ≡ sum_by f p.men + brought f p.to_move m
weight-after f s p (Plain a b promo) sound h =
    let t : ℕ = taking_square p.men a b in
    let man : Option Man = landed (man_at p.men a) promo in
    let ht : t < length p.men = omega (arith, sound.squares, taking_square-lt p.men a b h.move.from h.move.to) in
    let ha : a < length p.men = omega (arith, sound.squares, h.move.from) in
    let hb : b < length p.men = omega (arith, sound.squares, h.move.to) in
    let differ : a ≢ b = (origin p a b promo (man_at p.men a) h.move.goes).1 in
    let who = mover p a b promo h.move in
    let free = target_free p a b ha ht (take_of p a b promo sound h.move) in
    let board : sum_by f (slice_set (slice_set (slice_set p.men t None) a None) b man)
    + (f (man_at p.men t) + f (man_at p.men a))
    ≡ sum_by f p.men + f man =
    weight-plain f s.none p.men t a b man ht ha hb (taking_square-differs p.men a b differ) free in
    let same : f man ≡ f (man_at p.men a) =
    ap (λ o. f (landed o promo)) who.1.there ∙ becomes-steady f s p.to_move who.0 b promo who.0.kind refl who.1.becomes
    ∙ ap f (sym who.1.there) in
    omega (arith, board, same)
weight-after f s p (Castle long) sound h =
    let at = homes p.variant p.to_move long in
    let king : ℕ = king_home p.variant p.to_move in
    let rook : ℕ = rook_home p.variant p.to_move long in
    let x : ℕ = king_end p.to_move long in
    let y : ℕ = rook_end p.to_move long in
    let hk : king < length p.men = omega (arith, sound.squares, at.king) in
    let hr : rook < length p.men = omega (arith, sound.squares, at.rook) in
    let hx : x < length p.men = omega (arith, sound.squares, at.king_goal) in
    let hy : y < length p.men = omega (arith, sound.squares, at.rook_goal) in
    let board : sum_by f (two_moved p.men king rook x y) ≡ sum_by f p.men =
    weight-two_moved f s.none p.men king rook x y hk hr hx hy at.differ at.goals_differ
    (end_free p.men king rook king x hk hr h.move.king_way) (end_free p.men king rook rook y hk hr h.move.rook_way) in
    omega (arith, board, s.none)
weight-after f s p (Drop k to) sound h =
    let board : sum_by f (slice_set p.men to (unpromoted p.to_move k)) + f (man_at p.men to)
    ≡ sum_by f p.men + f (unpromoted p.to_move k) =
    sum_by-set f p.men to (unpromoted p.to_move k) None (omega (arith, sound.squares, h.move.square)) in
    let free : f (man_at p.men to) ≡ f None = ap f h.move.free in
    omega (arith, board, free, s.none)
