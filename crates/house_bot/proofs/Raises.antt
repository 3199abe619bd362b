-- The greatest worth of the moves of a list, looked for in one pass or in two.
use Rattle.std.proofs.Common.{arith, ◌≡◌, ℕ, ℤ, pos, ◌+◌, ◌<◌, ◌<ℤ◌, ◌≤ℤ◌, Bool, true, false, cond, List, [], ◌∷◌, map, length, take, drop, get_or, refl, sym, ap, ◌∙◌}
use Rattle.std.specs.Prelude.{not}
use Rattle.std.specs.Int.{int_max, int_min}
use Rattle.std.proofs.lemmas.Int.{ints, clamps, to_z-of_z}
use Rattle.std.proofs.lemmas.List.{take-append-drop}
use Rattle.std.proofs.lemmas.List.Sums.{fold-append, fold_more}
use Rattle.std.proofs.lemmas.List.Folds.{fold-map}
use Rattle.chess_model.specs.declared.moves.Move.{Move}
use Rattle.chess_model.specs.Placement.{Placement}
use Rattle.chess_model.specs.Position.{Position}
use Rattle.house_bot.specs.Value.{greatest, move_value}
use Rattle.house_bot.specs.Searching.{cut, raised, raised_by, is_tried}
use Rattle.house_bot.proofs.Cuts.{int_max-swap, int_max-comm, le-trans, int_min-reached, int_min-below, int_min-over, cut-whole, cut-over}
use mir.Syntax.{w32}
use mir.Val.{SFits, to_z, of_z}

-- the greatest of a bound and of what all the moves are worth
abbrev pub top : (Move → ℤ) → ℤ → List Move → ℤ
top f bound ms = raised_by f (λ m. true) bound ms

raised-max : (tried : Bool) (b x w : ℤ)
    → cond tried (int_max (int_max b x) w) (int_max b x) ≡ int_max (cond tried (int_max b w) b) x
raised-max true b x w = int_max-swap b x w
raised-max false b x w = refl

pub raised_by-max : (f : Move → ℤ) (t : Move → Bool) (b x : ℤ) (ms : List Move)
    → raised_by f t (int_max b x) ms ≡ int_max (raised_by f t b ms) x
raised_by-max f t b x [] = refl
raised_by-max f t b x (m ∷ ms) =
    ap (λ c. raised_by f t c ms) (raised-max (t m) b x (f m)) ∙ raised_by-max f t (raised f t b m) x ms

raised-grows : (tried : Bool) (b w : ℤ) → b ≤ℤ cond tried (int_max b w) b
raised-grows true b w = omega (arith, ints, clamps)
raised-grows false b w = omega (arith, ints)

pub raised_by-grows : (f : Move → ℤ) (t : Move → Bool) (b : ℤ) (ms : List Move) → b ≤ℤ raised_by f t b ms
raised_by-grows f t b [] = omega (arith, ints)
raised_by-grows f t b (m ∷ ms) =
    le-trans b (raised f t b m) (raised_by f t (raised f t b m) ms) (raised-grows (t m) b (f m))
    (raised_by-grows f t (raised f t b m) ms)

-- a move that one pass or the other tries
parted_at : (f : Move → ℤ) (t u : Move → Bool) (b : ℤ) (m : Move) (ms : List Move) (x : Bool) → t m ≡ x → u m ≡ not x →
    ((c : ℤ) → raised_by f u (raised_by f t c ms) ms ≡ top f c ms) →
    raised_by f u (raised_by f t b (m ∷ ms)) (m ∷ ms) ≡ top f b (m ∷ ms)
parted_at f t u b m ms true is other rest =
    let here : raised f t b m ≡ int_max b (f m) = ap (λ y. cond y (int_max b (f m)) b) is in
    let c : ℤ = raised_by f t (raised f t b m) ms in
    let skipped : raised f u c m ≡ c = ap (λ y. cond y (int_max c (f m)) c) other in
    ap (λ z. raised_by f u z ms) skipped ∙ ap (λ z. raised_by f u (raised_by f t z ms) ms) here ∙ rest (int_max b (f m))
parted_at f t u b m ms false is other rest =
    let skipped : raised f t b m ≡ b = ap (λ y. cond y (int_max b (f m)) b) is in
    let c : ℤ = raised_by f t (raised f t b m) ms in
    let here : raised f u c m ≡ int_max c (f m) = ap (λ y. cond y (int_max c (f m)) c) other in
    ap (λ z. raised_by f u z ms) here
    ∙ ap (λ z. raised_by f u (int_max (raised_by f t z ms) (f m)) ms) skipped
    ∙ raised_by-max f u (raised_by f t b ms) (f m) ms
    ∙ ap (λ z. int_max z (f m)) (rest b)
    ∙ sym (raised_by-max f (λ y. true) b (f m) ms)

-- two passes, one over the moves of a sort and one over the others, are one pass over all
pub parted : (f : Move → ℤ) (t u : Move → Bool) → ((m : Move) → u m ≡ not (t m)) → (b : ℤ) (ms : List Move) →
    raised_by f u (raised_by f t b ms) ms ≡ top f b ms
parted f t u other b [] = refl
parted f t u other b (m ∷ ms) = parted_at f t u b m ms (t m) refl (other m) (λ c. parted f t u other c ms)

pub top-greatest : (f : Move → ℤ) (low : ℤ) (ms : List Move) → 0 < length ms
    → top f low ms ≡ int_max low (greatest (map f ms))
top-greatest f low [] some = absurd (omega arith)
top-greatest f low (m ∷ ms) some =
    ap (λ z. top f z ms) (int_max-comm low (f m))
    ∙ raised_by-max f (λ y. true) (f m) low ms
    ∙ int_max-comm (top f (f m) ms) low
    ∙ ap (int_max low) (sym (fold-map int_max f (f m) ms))

-- where the moves so far reach the end of the window, all of them do
pub stops : (f : Move → ℤ) (t : Move → Bool) (low high : ℤ) (ms : List Move) (n : ℕ) →
    high ≤ℤ raised_by f t low (take n ms) → high ≡ int_min high (raised_by f t low ms)
stops f t low high ms n h =
    let whole : raised_by f t low ms ≡ raised_by f t (raised_by f t low (take n ms)) (drop n ms) =
    ap (raised_by f t low) (sym (take-append-drop n ms)) ∙ fold-append (raised f t) low (take n ms) (drop n ms) in
    let more = raised_by-grows f t (raised_by f t low (take n ms)) (drop n ms) in
    let over : high ≤ℤ raised_by f t low ms = omega (arith, ints, h, more, whole) in
    int_min-reached high (raised_by f t low ms) over

-- the first pass reached the end of the window
pub first_pass_reaches : (f : Move → ℤ) (P : Placement) (low high r : ℤ) (ms : List Move) → low <ℤ high
    → 0 < length ms →
    r ≡ int_min high (raised_by f (is_tried true P) low ms) → high ≤ℤ r → high ≡ cut low high (greatest (map f ms))
first_pass_reaches f P low high r ms order some is more =
    let half : ℤ = raised_by f (is_tried true P) low ms in
    let over : high ≤ℤ half = int_min-over high half r is more in
    let grown : half ≤ℤ raised_by f (is_tried false P) half ms = raised_by-grows f (is_tried false P) half ms in
    let whole : raised_by f (is_tried false P) half ms ≡ int_max low (greatest (map f ms)) =
    parted f (is_tried true P) (is_tried false P) (λ m. refl) low ms ∙ top-greatest f low ms some in
    cut-over low high (greatest (map f ms)) order (omega (arith, ints, over, grown, whole))

-- what the second pass gives, where the first stayed in the window
pub second_pass_gives : (f : Move → ℤ) (P : Placement) (low high a r : ℤ) (ms : List Move) → low <ℤ high
    → 0 < length ms →
    a ≡ int_min high (raised_by f (is_tried true P) low ms) → a <ℤ high →
    r ≡ int_min high (raised_by f (is_tried false P) a ms) → r ≡ cut low high (greatest (map f ms))
second_pass_gives f P low high a r ms order some first less second =
    let half : ℤ = raised_by f (is_tried true P) low ms in
    let same : a ≡ half = int_min-below high half a first less in
    second
    ∙ ap (λ z. int_min high (raised_by f (is_tried false P) z ms)) same
    ∙ ap (int_min high) (parted f (is_tried true P) (is_tried false P) (λ m. refl) low ms)
    ∙ ap (int_min high) (top-greatest f low ms some)
    ∙ cut-whole low high (greatest (map f ms)) order

-- the window of the second pass
pub first_pass_from : (f : Move → ℤ) (P : Placement) (low high a : ℤ) (ms : List Move) → low <ℤ high →
    a ≡ int_min high (raised_by f (is_tried true P) low ms) → low ≤ℤ a
first_pass_from f P low high a ms order first =
    let grown = raised_by-grows f (is_tried true P) low ms in
    omega (arith, ints, clamps, first, grown, order)

-- what a pass over the moves gives, as the code says it
pub pass_gives : (d : ℕ) (takes : Bool) (p q : Position) (low high r : ℤ) (ls ms : List Move) → SFits w32 low
    → SFits w32 high → q ≡ p → ls ≡ ms →
    r
    ≡ int_min (to_z w32 (of_z w32 high))
    (raised_by (move_value d q) (is_tried takes q.men) (to_z w32 (of_z w32 low)) ls)
    → r ≡ int_min high (raised_by (move_value d p) (is_tried takes p.men) low ms)
pass_gives d takes p q low high r ls ms low_fits high_fits same listed gives =
    gives
    ∙ (λ i. int_min (to_z-of_z w32 high high_fits i)
    (raised_by (move_value d (same i)) (is_tried takes (same i).men) (to_z-of_z w32 low low_fits i) (listed i)))

-- ---- a turn of the loop over the moves
pub record Turn (f : Move → ℤ) (t : Move → Bool) (low high : ℤ) (ms : List Move) (i : ℕ) (b r : ℤ) (m : Move) : Type 0
  where
    pub so_far : b ≡ raised_by f t low (take i ms)
    pub here : m ≡ get_or ms i m
    pub less : i < length ms
    pub gives : r ≡ int_min high (raised f t b m)

-- as the code says it
pub turn_from : (d : ℕ) (takes : Bool) (p q : Position) (low high : ℤ) (ms : List Move) (i : ℕ) (b r : ℤ) (m : Move)
    → SFits w32 low → SFits w32 high → q ≡ p →
    b ≡ raised_by (move_value d p) (is_tried takes p.men) (to_z w32 (of_z w32 low)) (take i ms) →
    m ≡ get_or ms i m → i < length ms →
    r ≡ int_min (to_z w32 (of_z w32 high)) (raised (move_value d q) (is_tried takes q.men) b m)
    → Turn (move_value d p) (is_tried takes p.men) low high ms i b r m
turn_from d takes p q low high ms i b r m low_fits high_fits same so_far here less gives = record {
  so_far =
      so_far ∙ ap (λ z. raised_by (move_value d p) (is_tried takes p.men) z (take i ms)) (to_z-of_z w32 low low_fits);
  here = here;
  less = less;
  gives = gives
      ∙ (λ j. int_min (to_z-of_z w32 high high_fits j)
      (raised (move_value d (same j)) (is_tried takes (same j).men) b m));
}

module _ {f : Move → ℤ} {t : Move → Bool} {low high : ℤ} {ms : List Move} {i : ℕ} {b r : ℤ} {m : Move}
    (turn : Turn f t low high ms i b r m) where
  next : raised f t b m ≡ raised_by f t low (take (i + 1) ms)
  next =
      ap (λ x. raised f t x m) turn.so_far
      ∙ ap (λ x. raised f t (raised_by f t low (take i ms)) x) turn.here
      ∙ sym (fold_more (raised f t) low ms i m turn.less)

  pub turn_reaches : high ≤ℤ r → high ≡ int_min high (raised_by f t low ms)
  turn_reaches more =
      let over = int_min-over high (raised f t b m) r turn.gives more in
      let over_all : high ≤ℤ raised_by f t low (take (i + 1) ms) = omega (arith, ints, over, next) in
      stops f t low high ms (i + 1) over_all

  pub turn_goes_on : r <ℤ high → r ≡ raised_by f t low (take (i + 1) ms)
  turn_goes_on below = int_min-below high (raised f t b m) r turn.gives below ∙ next

  pub turn_grows : r <ℤ high → b ≤ℤ r
  turn_grows below =
      let same = int_min-below high (raised f t b m) r turn.gives below in
      let grown = raised-grows (t m) b (f m) in
      omega (arith, ints, same, grown)

-- a move that is tried
pub raised_in : (tried : Bool) (low high w r : ℤ) → tried ≡ true → low <ℤ high → r ≡ cut low high w →
    r ≡ int_min high (cond tried (int_max low w) low)
raised_in true low high w r is order e = e ∙ sym (cut-whole low high w order)
raised_in false low high w r is order e = absurd (let never : false ≡ true = is in cc)

-- the greatest of no moves
pub greatest_none : (f : Move → ℤ) (ms : List Move) → length ms ≡ 0 → greatest (map f ms) ≡ pos 0
greatest_none f [] none = refl
greatest_none f (m ∷ ms) none = absurd (omega (arith, none))
