-- A position stands for the third time exactly where it has stood twice before.
use Rattle.std.proofs.Common.{arith, ◌≡◌, ℕ, ◌+◌, ◌<◌, ◌≤◌, ◌⊎◌, inl, inr, suc, zero, List, [], ◌∷◌, map, filter, take, length, Bool, true, false, ◌&&◌, cond, nat_eq, nat_le, Option, Some, None, refl, sym, ap, subst, ◌∙◌}
use Rattle.std.specs.Bool.{beq}
use Rattle.std.specs.List.{count_by, sum_by, range_with_len}
use Rattle.std.proofs.lemmas.Bool.{cases_eq, and_from, eq-eqb, leb-true, le-leb}
use Rattle.std.proofs.lemmas.List.{take_all}
use Rattle.std.proofs.lemmas.List.FromFn.{sum_by-map-range_with_len_more}
use Rattle.chess_model.specs.declared.hand.Hand.{Hand}
use Rattle.chess_model.specs.declared.man.Colour.{Colour}
use Rattle.chess_model.specs.declared.man.Colour.TheVariants.{White}
use Rattle.chess_model.specs.declared.man.Man.{Man}
use Rattle.chess_model.specs.declared.moves.Move.{Move}
use Rattle.chess_model.specs.declared.rights.Rights.{Rights}
use Rattle.chess_model.specs.declared.variant.Variant.{Variant}
use Rattle.chess_model.specs.Men.{same_colour, same_kind}
use Rattle.chess_model.specs.Placement.{Placement, man_at, array_of}
use Rattle.chess_model.specs.MoveList.{HalfMove, moves_of, settings, place_from, side_from}
use Rattle.chess_model.specs.RightsAndCounts.{rights_after, en_passant_after}
use Rattle.chess_model.specs.Position.{Position, position_after}
use Rattle.chess_model.specs.Tests.{squares, is_allowed, is_move, is_safe_after}
use Rattle.chess_model.specs.Claims.{same_man, same_placement, same_rights, same_square, same_position, counted_en_passant, alone_on, after_first, positions_of, is_threefold, ThirdTimes}
use Rattle.chess_model.proofs.Among.{list_all-from}
use Rattle.chess_model.proofs.TestsDecide.{same_colour-self, same_kind-self}

-- how many numbers below n pass
counted : (ℕ → Bool) → ℕ → ℕ
counted f zero = 0
counted f (suc n) = counted f n + cond (f n) 1 0

count-range : {A : Type 0} (f : A → Bool) (h : ℕ → A) (n : ℕ)
    → count_by f (map h (range_with_len 0 n)) ≡ counted (λ k. f (h k)) n
unfolding counted
count-range f h zero = refl
count-range f h (suc n) =
    let more : sum_by (λ x. cond (f x) 1 0) (map h (range_with_len 0 (n + 1)))
    ≡ sum_by (λ x. cond (f x) 1 0) (map h (range_with_len 0 n)) + cond (f (h n)) 1 0 =
    sum_by-map-range_with_len_more (λ x. cond (f x) 1 0) h 0 n n (omega arith) in
    let one : suc n ≡ n + 1 = omega arith in
    ap (λ k. count_by f (map h (range_with_len 0 k))) one ∙ more ∙ ap (λ k. k + cond (f (h n)) 1 0) (count-range f h n)

passes_one : (b : Bool) → b ≡ true → cond {A = ℕ} b 1 0 ≡ 1
passes_one true h = refl
passes_one false h = cc

at_most_one : (b : Bool) → cond {A = ℕ} b 1 0 ≤ 1
at_most_one true = omega arith
at_most_one false = omega arith

-- a count that grew by a test's 1 or 0 was so much before, or the test passed
last_or_before : (b : Bool) (c m : ℕ) → m < c + cond b 1 0 → (b ≡ true) ⊎ (m < c)
last_or_before true c m h = inl refl
last_or_before false c m h = inr (omega arith)

one_below : (f : ℕ → Bool) (n : ℕ) → 0 < counted f n → (i : ℕ) × (i < n) × (f i ≡ true)
unfolding counted
one_below f zero h = absurd (omega arith)
one_below f (suc n) h = elim (last_or_before (f n) (counted f n) 0 h) [
  | inl here ↦ (n, omega arith, here)
  | inr earlier ↦ let t = one_below f n earlier in (t.0, omega (arith, t.1), t.2)
]

two_below : (f : ℕ → Bool) (n : ℕ) → 1 < counted f n
    → (i : ℕ) × (j : ℕ) × (i < j) × (j < n) × (f i ≡ true) × (f j ≡ true)
unfolding counted
two_below f zero h = absurd (omega arith)
two_below f (suc n) h = elim (last_or_before (f n) (counted f n) 1 h) [
  | inl here ↦
      let some : 0 < counted f n = omega (arith, at_most_one (f n)) in
      let t = one_below f n some in
      (t.0, n, t.1, omega arith, t.2, here)
  | inr earlier ↦ let t = two_below f n earlier in (t.0, t.1, t.2, omega (arith, t.3), t.4, t.5)
]

counts_one : (f : ℕ → Bool) (n i : ℕ) → i < n → f i ≡ true → 0 < counted f n
unfolding counted
counts_one f zero i h e = absurd (omega arith)
counts_one f (suc n) i h e = elim (cases_eq i n) [
  | inl same ↦ (let here : f n ≡ true = ap f (sym same) ∙ e in omega (arith, passes_one (f n) here))
  | inr other ↦ (let before = counts_one f n i (omega arith) e in omega (arith, before))
]

counts_two : (f : ℕ → Bool) (n i j : ℕ) → i < j → j < n → f i ≡ true → f j ≡ true → 1 < counted f n
unfolding counted
counts_two f zero i j less h e g = absurd (omega arith)
counts_two f (suc n) i j less h e g = elim (cases_eq j n) [
  | inl same ↦
      let here : f n ≡ true = ap f (sym same) ∙ g in
      let before = counts_one f n i (omega arith) e in
      omega (arith, passes_one (f n) here, before)
  | inr other ↦ (let before = counts_two f n i j less (omega arith) e g in omega (arith, before))
]

-- a position is the same as itself, whatever the hands and the quiet count

same_man-self : (o : Option Man) → same_man o o ≡ true
same_man-self None = refl
same_man-self (Some m) =
    and_from (same_colour m.colour m.colour) (same_kind m.kind m.kind) (same_colour-self m.colour)
    (same_kind-self m.kind)

pub beq-self : (x : Bool) → beq x x ≡ true
beq-self true = refl
beq-self false = refl

same_square-self : (o : Option ℕ) → same_square o o ≡ true
same_square-self None = refl
same_square-self (Some s) = eq-eqb s s refl

same_rights-self : (r : Rights) → same_rights r r ≡ true
same_rights-self r =
    let white : Bool = beq r.white_short r.white_short && beq r.white_long r.white_long in
    let first : white ≡ true =
    and_from (beq r.white_short r.white_short) (beq r.white_long r.white_long) (beq-self r.white_short)
    (beq-self r.white_long) in
    let second : (white && beq r.black_short r.black_short) ≡ true =
    and_from white (beq r.black_short r.black_short) first (beq-self r.black_short) in
    and_from (white && beq r.black_short r.black_short) (beq r.black_long r.black_long) second (beq-self r.black_long)

-- the positions of a board for the same half-moves of its own
abbrev seen : Variant → List Move → ℕ → Hand → Hand → Position
seen v ms quiet w k = record {
  variant = v;
  men = place_from v (array_of v) White ms;
  to_move = side_from White ms;
  en_passant = en_passant_after (settings v (array_of v) White ms);
  rights = rights_after v (settings v (array_of v) White ms);
  quiet = quiet;
  white = w;
  black = k;
}

same_seen : (v : Variant) (ms : List Move) (m n : ℕ) (w k x y : Hand)
    → same_position (seen v ms m w k) (seen v ms n x y) ≡ true
unfolding same_position is_allowed is_move is_safe_after
same_seen v ms m n w k x y =
    let P : Placement = place_from v (array_of v) White ms in
    let placed : same_placement P P ≡ true =
    list_all-from (λ s. same_man (man_at P s) (man_at P s)) squares (λ s a. same_man-self (man_at P s)) in
    let c : Colour = side_from White ms in
    let r : Rights = rights_after v (settings v (array_of v) White ms) in
    let e : Option ℕ = counted_en_passant (seen v ms m w k) in
    let men : Bool = same_placement P P in
    let first : (men && same_colour c c) ≡ true = and_from men (same_colour c c) placed (same_colour-self c) in
    let second : (men && same_colour c c && same_rights r r) ≡ true =
    and_from (men && same_colour c c) (same_rights r r) first (same_rights-self r) in
    and_from (men && same_colour c c && same_rights r r) (same_square e e) second (same_square-self e)

own_moves : (b : ℕ) (ms : List Move) → moves_of b (alone_on b ms) ≡ ms
own_moves b [] = refl
own_moves b (m ∷ ms) =
    ap (λ q.
    map (λ (h : HalfMove). h.what)
    (cond q (record { board = b; what = m } ∷ filter (λ h. nat_eq h.board b) (alone_on b ms))
    (filter (λ h. nat_eq h.board b) (alone_on b ms))))
    (eq-eqb b b refl) ∙
    ap (λ (xs : List Move). m ∷ xs) (own_moves b ms)

same_now : (v : Variant) (T : List HalfMove) (b : ℕ)
    → same_position (position_after v T b) (after_first v T b (length (moves_of b T))) ≡ true
same_now v T b =
    let q : Position = after_first v T b (length (moves_of b T)) in
    let list : moves_of b T ≡ moves_of b (alone_on b (take (length (moves_of b T)) (moves_of b T))) =
    sym (own_moves b (take (length (moves_of b T)) (moves_of b T))
    ∙ take_all (length (moves_of b T)) (moves_of b T) (omega arith)) in
    let p : Position = position_after v T b in
    subst (λ ms. same_position p (seen v ms q.quiet q.white q.black) ≡ true) list
    (same_seen v (moves_of b T) p.quiet q.quiet p.white p.black q.white q.black)

grown : (f : ℕ → Bool) (n : ℕ) → f n ≡ true → counted f (n + 1) ≡ counted f n + 1
unfolding counted
grown f n e =
    let one : n + 1 ≡ suc n = omega arith in
    ap (counted f) one ∙ ap (λ k. counted f n + k) (passes_one (f n) e)

third_as_count : (f : ℕ → Bool) (n : ℕ) → f n ≡ true
    → (nat_le 3 (counted f (n + 1)) ≡ true → 1 < counted f n) × (1 < counted f n → nat_le 3 (counted f (n + 1)) ≡ true)
third_as_count f n e =
    let one : counted f (n + 1) ≡ counted f n + 1 = grown f n e in (
      λ h. let three = leb-true 3 (counted f (n + 1)) h in omega (arith, three, one),
      λ h. le-leb 3 (counted f (n + 1)) (omega (arith, h, one)),
    )

pub third_times : ThirdTimes
unfolding is_threefold positions_of
third_times v T b =
    let f : ℕ → Bool = λ n. same_position (position_after v T b) (after_first v T b n) in
    let n : ℕ = length (moves_of b T) in
    let count : count_by (same_position (position_after v T b)) (map (after_first v T b) (range_with_len 0 (n + 1)))
    ≡ counted f (n + 1) =
    count-range (same_position (position_after v T b)) (after_first v T b) (n + 1) in
    let third = third_as_count f n (same_now v T b) in (
      λ h. let t = two_below f n (third.0 (sym (ap (nat_le 3) count) ∙ h)) in
          record { first = t.0; second = t.1; order = t.2; before = t.3; first_same = t.4; second_same = t.5 },
      λ h. ap (nat_le 3) count ∙ third.1 (counts_two f n h.first h.second h.order h.before h.first_same h.second_same),
    )
