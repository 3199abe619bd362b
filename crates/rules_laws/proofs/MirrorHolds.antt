-- What the rules say of a position holds of its mirror.
use Rattle.std.proofs.Common.{arith, ◌≡◌, ◌≢◌, ℕ, ◌<◌, ◌⊎◌, Bool, true, false, ◌&&◌, not, is_none, cond, nat_eq, length, refl, sym, ap, subst, ◌∙◌, inl, inr, Option, Some, None, slice_set}
use Rattle.std.specs.Option.{option_map}
use Rattle.std.proofs.lemmas.Bool.{cases_eq}
use Rattle.std.proofs.lemmas.List.{ext_get_or, length-set, get_or-set_other, get_or-set_same}
use Rattle.chess_model.specs.declared.man.Colour.{Colour}
use Rattle.chess_model.specs.declared.man.Colour.TheVariants.{White, Black}
use Rattle.chess_model.specs.declared.man.Kind.{Kind}
use Rattle.chess_model.specs.declared.man.Kind.TheVariants.{Pawn, Knight, Bishop, Rook, Queen, King}
use Rattle.chess_model.specs.declared.man.Man.{Man}
use Rattle.chess_model.specs.declared.moves.Move.{Move}
use Rattle.chess_model.specs.declared.moves.Move.TheVariants.{Plain, Castle, Drop}
use Rattle.chess_model.specs.declared.rights.Rights.{Rights}
use Rattle.chess_model.specs.declared.hand.Hand.{Hand}
use Rattle.chess_model.specs.declared.variant.Variant.{Variant}
use Rattle.chess_model.specs.Squares.{file_of, rank_of, square_at, along}
use Rattle.chess_model.specs.Placement.{Placement, man_at, opposite, home_rank, second_rank, last_rank, unpromoted, back_rank, array_from, array_of, king_file, rook_file, king_home, rook_home, king_end, rook_end}
use Rattle.chess_model.specs.Reach.{IsAhead, Advances, PawnTakes, Goes, Reaches}
use Rattle.chess_model.specs.Attacked.{IsAttacked}
use Rattle.chess_model.specs.MoveList.{is_pawn, is_en_passant, taking_square, landed, two_moved, place_after}
use Rattle.chess_model.specs.Holdings.{count_in}
use Rattle.chess_model.specs.Position.{Position, hand_of_side}
use Rattle.chess_model.specs.Allowed.{HasPromotion, GoesAs, IsPlainMove, right_of, IsUnattackedWay, IsFreeFor, IsFreeWay, CanCastle, MayDropOn, CanDrop, IsMove, Allowed}
use Rattle.chess_model.proofs.Arrays.{eight}
use Rattle.chess_model.proofs.ChessLaws.{opposite-opposite}
use Rattle.chess_model.proofs.HomeRanks.{home_rank_of, files_of}
use Rattle.chess_model.proofs.NoMoreMen.{taking_square-lt, homes}
use Rattle.rules_laws.specs.Mirror.{turned, recoloured, mirrored_men, mirrored_rights, mirrored, mirrored_move, ColoursMayBeExchanged}
use Rattle.rules_laws.proofs.MenTurned.{recoloured-twice, AreTurned, mirrored_at, length-mirrored, AreTurned-mirrored, empty-turned, held-turned, held-from, forward-turned, step-turned, clear-turned, strikes-turned, attacked-turned, attacked-from, safe-turned, safe-from}
use Rattle.chess_model.proofs.Squares.{along-lt}
use Rattle.rules_laws.proofs.Turning.{turned-lt, turned-square, file-turned, rank-turned, file-le, rank-le, turned-turned, turned-differs, files-turned, distance-turned, along-turned}

-- reach

second-turned : (c : Colour) (a : ℕ) → a < 64 → rank_of a ≡ second_rank c
    → rank_of (turned a) ≡ second_rank (opposite c)
second-turned White a h e = omega (arith, e, rank-turned a h)
second-turned Black a h e = omega (arith, e, rank-turned a h)

ahead-turned : (c : Colour) (a b : ℕ) → a < 64 → b < 64 → IsAhead c a b → IsAhead (opposite c) (turned a) (turned b)
ahead-turned c a b ha hb h = elim h [
  | inl near ↦ inl (forward-turned c 1 a b ha hb near)
  | inr far ↦ inr (forward-turned c 2 a b ha hb far.0, second-turned c a ha far.1)
]

advances-turned : (P Q : Placement) → AreTurned P Q → (c : Colour) (a b : ℕ) → a < 64 → b < 64 → Advances P c a b →
    Advances Q (opposite c) (turned a) (turned b)
advances-turned P Q h c a b ha hb goes = record {
  file = files-turned a b ha hb ∙ goes.file;
  ahead = ahead-turned c a b ha hb goes.ahead;
  way = clear-turned P Q h a b ha hb goes.way;
  free = empty-turned P Q h b hb goes.free;
}

takes-turned : (P Q : Placement) → AreTurned P Q → (e : Option ℕ) (c : Colour) (a b : ℕ) → a < 64 → b < 64
    → PawnTakes P e c a b →
    PawnTakes Q (option_map turned e) (opposite c) (turned a) (turned b)
takes-turned P Q h e c a b ha hb takes = record {
  step = step-turned c Pawn a b ha hb takes.step;
  enemy = elim (takes.enemy) [
    | inl enemy ↦ inl (held-turned P Q h (opposite c) b hb enemy)
    | inr passed ↦ inr (ap (option_map turned) passed)
  ];
}

goes-turned : (P Q : Placement) → AreTurned P Q → (c : Colour) (k : Kind) (a b : ℕ) → a < 64 → b < 64 → Goes P c k a b →
    Goes Q (opposite c) k (turned a) (turned b)
goes-turned P Q h c k a b ha hb goes = record {
  strikes = strikes-turned P Q h c k a b ha hb goes.strikes;
  not_own = λ own. goes.not_own (held-from P Q h c b hb own);
}

reaches-turned : (P Q : Placement) → AreTurned P Q → (e : Option ℕ) (c : Colour) (k : Kind) (a b : ℕ) → a < 64
    → b < 64 →
    Reaches P e c k a b → Reaches Q (option_map turned e) (opposite c) k (turned a) (turned b)
reaches-turned P Q h e c Pawn a b ha hb (inl goes) = inl (advances-turned P Q h c a b ha hb goes)
reaches-turned P Q h e c Pawn a b ha hb (inr takes) = inr (takes-turned P Q h e c a b ha hb takes)
reaches-turned P Q h e c Knight a b ha hb goes = goes-turned P Q h c Knight a b ha hb goes
reaches-turned P Q h e c Bishop a b ha hb goes = goes-turned P Q h c Bishop a b ha hb goes
reaches-turned P Q h e c Rook a b ha hb goes = goes-turned P Q h c Rook a b ha hb goes
reaches-turned P Q h e c Queen a b ha hb goes = goes-turned P Q h c Queen a b ha hb goes
reaches-turned P Q h e c King a b ha hb goes = goes-turned P Q h c King a b ha hb goes

last-turned : (c : Colour) (b : ℕ) → b < 64 → rank_of b ≡ last_rank c → rank_of (turned b) ≡ last_rank (opposite c)
last-turned White b h e = omega (arith, e, rank-turned b h)
last-turned Black b h e = omega (arith, e, rank-turned b h)

not_last-turned : (c : Colour) (b : ℕ) → b < 64 → rank_of b ≢ last_rank c → rank_of (turned b) ≢ last_rank (opposite c)
not_last-turned White b h differ e = differ (omega (arith, e, h, rank-turned b h))
not_last-turned Black b h differ e = differ (omega (arith, e, h, rank-turned b h))

promotion-turned : (c : Colour) (k : Kind) (b : ℕ) (promo : Option Kind) → b < 64 → HasPromotion c k b promo →
    HasPromotion (opposite c) k (turned b) promo
promotion-turned c Pawn b promo h has = elim has [
  | inl last ↦ inl (last-turned c b h last.0, last.1)
  | inr other ↦ inr (not_last-turned c b h other.0, other.1)
]
promotion-turned c Knight b promo h has = has
promotion-turned c Bishop b promo h has = has
promotion-turned c Rook b promo h has = has
promotion-turned c Queen b promo h has = has
promotion-turned c King b promo h has = has

-- the placement after a half-move

is_pawn-recoloured : (man : Option Man) → is_pawn (recoloured man) ≡ is_pawn man
is_pawn-recoloured None = refl
is_pawn-recoloured (Some m) = refl

is_none-recoloured : (man : Option Man) → is_none (recoloured man) ≡ is_none man
is_none-recoloured None = refl
is_none-recoloured (Some m) = refl

landed-recoloured : (man : Option Man) (promo : Option Kind)
    → landed (recoloured man) promo ≡ recoloured (landed man promo)
landed-recoloured None None = refl
landed-recoloured None (Some k) = refl
landed-recoloured (Some m) None = refl
landed-recoloured (Some m) (Some k) = refl

en_passant-turned : (P Q : Placement) → AreTurned P Q → (a b : ℕ) → a < 64 → b < 64 →
    is_en_passant Q (turned a) (turned b) ≡ is_en_passant P a b
en_passant-turned P Q h a b ha hb =
    let pawn : is_pawn (man_at Q (turned a)) ≡ is_pawn (man_at P a) =
    ap is_pawn (h.each a ha) ∙ is_pawn-recoloured (man_at P a) in
    let free : is_none (man_at Q (turned b)) ≡ is_none (man_at P b) =
    ap is_none (h.each b hb) ∙ is_none-recoloured (man_at P b) in
    let file : nat_eq (file_of (turned a)) (file_of (turned b)) ≡ nat_eq (file_of a) (file_of b) =
    (λ i. nat_eq (file-turned a ha i) (file-turned b hb i)) in
    λ i. pawn i && (free i && not (file i))

square-turned : (a b : ℕ) → a < 64 → b < 64
    → square_at (file_of (turned b)) (rank_of (turned a)) ≡ turned (square_at (file_of b) (rank_of a))
square-turned a b ha hb =
    (λ i. square_at (file-turned b hb i) (rank-turned a ha i)) ∙
    sym (turned-square (file_of b) (rank_of a) (file-le b) (rank-le a ha))

choice-turned : (q : Bool) (x y : ℕ) → cond q (turned x) (turned y) ≡ turned (cond q x y)
choice-turned true x y = refl
choice-turned false x y = refl

taking-turned : (P Q : Placement) → AreTurned P Q → (a b : ℕ) → a < 64 → b < 64 →
    taking_square Q (turned a) (turned b) ≡ turned (taking_square P a b)
taking-turned P Q h a b ha hb =
    (λ i. cond (en_passant-turned P Q h a b ha hb i) (square-turned a b ha hb i) (turned b)) ∙
    choice-turned (is_en_passant P a b) (square_at (file_of b) (rank_of a)) b

-- both placements have 64 squares, and each man of P stands in Q on the turned square, with the other colour
pub record AreMirrored (P Q : Placement) : Type 0 where
  turn : AreTurned P Q
  first : length P ≡ 64
  second : length Q ≡ 64

set-each : (P Q : Placement) → AreMirrored P Q → (t : ℕ) (man : Option Man) → t < 64 → (s : ℕ) → s < 64
    → (s ≡ t) ⊎ (s ≢ t) →
    man_at (slice_set Q (turned t) (recoloured man)) (turned s) ≡ recoloured (man_at (slice_set P t man) s)
set-each P Q h t man ht s hs (inl same) =
    let C : ℕ → Type 0 = λ x.
    man_at (slice_set Q (turned t) (recoloured man)) (turned x) ≡ recoloured (man_at (slice_set P t man) x) in
    subst C (sym same)
    (get_or-set_same Q (turned t) (recoloured man) None (omega (arith, h.second, turned-lt t ht)) ∙
    ap recoloured (sym (get_or-set_same P t man None (omega (arith, h.first, ht)))))
set-each P Q h t man ht s hs (inr other) =
    get_or-set_other Q (turned t) (turned s) (recoloured man) None (turned-differs s t other) ∙ h.turn.each s hs ∙
    ap recoloured (sym (get_or-set_other P t s man None other))

set-mirrored : (P Q : Placement) → AreMirrored P Q → (t : ℕ) (man : Option Man) → t < 64 →
    AreMirrored (slice_set P t man) (slice_set Q (turned t) (recoloured man))
set-mirrored P Q h t man ht = record {
  turn = record { each = λ s hs. set-each P Q h t man ht s hs (cases_eq s t) };
  first = length-set P t man ∙ h.first;
  second = length-set Q (turned t) (recoloured man) ∙ h.second;
}

-- the same where the square and the man of the mirror are given by equations
set-mirrored_as : (P Q : Placement) → AreMirrored P Q → (t u : ℕ) (man other : Option Man) → t < 64 → u ≡ turned t →
    other ≡ recoloured man → AreMirrored (slice_set P t man) (slice_set Q u other)
set-mirrored_as P Q h t u man other ht square colour =
    let C : Placement → Type 0 = λ R. AreMirrored (slice_set P t man) R in
    subst C (λ i. slice_set Q (sym square i) (sym colour i)) (set-mirrored P Q h t man ht)

plain-mirrored : (v : Variant) (P Q : Placement) → AreMirrored P Q → (c : Colour) (a b : ℕ) (promo : Option Kind)
    → a < 64 → b < 64 →
    AreMirrored (place_after v P c (Plain a b promo)) (place_after v Q (opposite c) (Plain (turned a) (turned b) promo))
plain-mirrored v P Q h c a b promo ha hb =
    let t : ℕ = taking_square P a b in
    let u : ℕ = taking_square Q (turned a) (turned b) in
    let taken =
    set-mirrored_as P Q h t u None None (taking_square-lt P a b ha hb) (taking-turned P Q h.turn a b ha hb) refl in
    let left = set-mirrored (slice_set P t None) (slice_set Q u None) taken a None ha in
    set-mirrored_as (slice_set (slice_set P t None) a None) (slice_set (slice_set Q u None) (turned a) None) left b
    (turned b)
    (landed (man_at P a) promo) (landed (man_at Q (turned a)) promo) hb refl
    (ap (λ (man : Option Man). landed man promo) (h.turn.each a ha) ∙ landed-recoloured (man_at P a) promo)

-- a home stands on its file and the other colour's on the same one
home-turned : (file : ℕ) (c : Colour) → file < 8
    → square_at file (home_rank (opposite c)) ≡ turned (square_at file (home_rank c))
home-turned file White less = sym (turned-square file 0 (omega (arith, less)) (omega arith))
home-turned file Black less = sym (turned-square file 7 (omega (arith, less)) (omega arith))

king-turned : (v : Variant) (c : Colour) → king_home v (opposite c) ≡ turned (king_home v c)
king-turned v c = let files = files_of v in home-turned (king_file v) c (omega (arith, files.short_rook, files.most))

rook-turned : (v : Variant) (c : Colour) (long : Bool) → rook_home v (opposite c) long ≡ turned (rook_home v c long)
rook-turned v c true =
    let files = files_of v in
    home-turned (rook_file v true) c (omega (arith, files.long_rook, files.short_rook, files.most))
rook-turned v c false = home-turned (rook_file v false) c (files_of v).most

king_end-turned : (c : Colour) (long : Bool) → king_end (opposite c) long ≡ turned (king_end c long)
unfolding turned
king_end-turned White true = refl
king_end-turned White false = refl
king_end-turned Black true = refl
king_end-turned Black false = refl

rook_end-turned : (c : Colour) (long : Bool) → rook_end (opposite c) long ≡ turned (rook_end c long)
unfolding turned
rook_end-turned White true = refl
rook_end-turned White false = refl
rook_end-turned Black true = refl
rook_end-turned Black false = refl

two-mirrored : (P Q : Placement) → AreMirrored P Q → (a b x y : ℕ) → a < 64 → b < 64 → x < 64 → y < 64 →
    AreMirrored (two_moved P a b x y) (two_moved Q (turned a) (turned b) (turned x) (turned y))
two-mirrored P Q h a b x y ha hb hx hy =
    let first = set-mirrored P Q h a None ha in
    let second = set-mirrored (slice_set P a None) (slice_set Q (turned a) None) first b None hb in
    let third =
    set-mirrored_as (slice_set (slice_set P a None) b None) (slice_set (slice_set Q (turned a) None) (turned b) None)
    second
    x (turned x) (man_at P a) (man_at Q (turned a)) hx refl (h.turn.each a ha) in
    set-mirrored_as (slice_set (slice_set (slice_set P a None) b None) x (man_at P a))
    (slice_set (slice_set (slice_set Q (turned a) None) (turned b) None) (turned x) (man_at Q (turned a))) third
    y (turned y) (man_at P b) (man_at Q (turned b)) hy refl (h.turn.each b hb)

castle-mirrored : (v : Variant) (P Q : Placement) → AreMirrored P Q → (c : Colour) (long : Bool) →
    AreMirrored (place_after v P c (Castle long)) (place_after v Q (opposite c) (Castle long))
castle-mirrored v P Q h c long =
    let at = homes v c long in
    let C : Placement → Type 0 = λ R. AreMirrored (place_after v P c (Castle long)) R in
    subst C
    (λ i.
    two_moved Q (sym (king-turned v c) i) (sym (rook-turned v c long) i) (sym (king_end-turned c long) i)
    (sym (rook_end-turned c long) i))
    (two-mirrored P Q h (king_home v c) (rook_home v c long) (king_end c long) (rook_end c long) at.king at.rook
    at.king_goal at.rook_goal)

-- castling

free_for-turned : (P Q : Placement) → AreTurned P Q → (king rook s : ℕ) → s < 64 → IsFreeFor P king rook s →
    IsFreeFor Q (turned king) (turned rook) (turned s)
free_for-turned P Q h king rook s hs (inl e) = inl (ap turned e)
free_for-turned P Q h king rook s hs (inr (inl e)) = inr (inl (ap turned e))
free_for-turned P Q h king rook s hs (inr (inr e)) = inr (inr (empty-turned P Q h s hs e))

free_way-turned : (P Q : Placement) → AreTurned P Q → (king rook a b : ℕ) → a < 64 → b < 64
    → IsFreeWay P king rook a b →
    IsFreeWay Q (turned king) (turned rook) (turned a) (turned b)
free_way-turned P Q h king rook a b ha hb way = record {
  free = λ k less.
      let C : ℕ → Type 0 = λ s. IsFreeFor Q (turned king) (turned rook) s in
      subst C (sym (along-turned a b k ha hb))
      (free_for-turned P Q h king rook (along a b k) (along-lt a b k ha hb)
      (way.free k (omega (arith, less, distance-turned a b ha hb))));
}

unattacked-turned : (P Q : Placement) → AreTurned P Q → (by : Colour) (a b : ℕ) → a < 64 → b < 64
    → IsUnattackedWay P by a b →
    IsUnattackedWay Q (opposite by) (turned a) (turned b)
unattacked-turned P Q h by a b ha hb way = record {
  free = λ k less attack.
      let C : ℕ → Type 0 = λ s. IsAttacked Q (opposite by) s in
      way.free k (omega (arith, less, distance-turned a b ha hb))
      (attacked-from P Q h by (along a b k) (along-lt a b k ha hb) (subst C (along-turned a b k ha hb) attack));
}

right-mirrored : (r : Rights) (c : Colour) (long : Bool)
    → right_of (mirrored_rights r) (opposite c) long ≡ right_of r c long
right-mirrored r White true = refl
right-mirrored r White false = refl
right-mirrored r Black true = refl
right-mirrored r Black false = refl

can_castle-mirrored : (p : Position) (long : Bool) → length p.men ≡ 64 → CanCastle p long → CanCastle (mirrored p) long
can_castle-mirrored p long size h =
    let v : Variant = p.variant in
    let c : Colour = p.to_move in
    let P : Placement = p.men in
    let Q : Placement = mirrored_men p.men in
    let turn = AreTurned-mirrored P in
    let at = homes v c long in
    let king = king-turned v c in
    let rook = rook-turned v c long in
    let king_goal = king_end-turned c long in
    let rook_goal = rook_end-turned c long in
    record {
      right = right-mirrored p.rights c long ∙ h.right;
      king_way =
          subst {A = ℕ × ℕ × ℕ} (λ t. IsFreeWay Q t.0 t.1 t.0 t.2) (λ i. (sym king i, sym rook i, sym king_goal i))
          (free_way-turned P Q turn (king_home v c) (rook_home v c long) (king_home v c) (king_end c long) at.king
          at.king_goal h.king_way);
      rook_way =
          subst {A = ℕ × ℕ × ℕ} (λ t. IsFreeWay Q t.0 t.1 t.1 t.2) (λ i. (sym king i, sym rook i, sym rook_goal i))
          (free_way-turned P Q turn (king_home v c) (rook_home v c long) (rook_home v c long) (rook_end c long) at.rook
          at.rook_goal h.rook_way);
      walk =
          subst {A = ℕ × ℕ} (λ t. IsUnattackedWay Q (opposite (opposite c)) t.0 t.1)
          (λ i. (sym king i, sym king_goal i))
          (unattacked-turned P Q turn (opposite c) (king_home v c) (king_end c long) at.king at.king_goal h.walk);
    }

-- plain moves and drops

goes_as-mirrored : (p : Position) (a b : ℕ) (promo : Option Kind) → a < 64 → b < 64 → (man : Option Man)
    → GoesAs p a b promo man →
    GoesAs (mirrored p) (turned a) (turned b) promo (recoloured man)
goes_as-mirrored p a b promo ha hb None goes = goes
goes_as-mirrored p a b promo ha hb (Some m) goes = (
  ap opposite goes.0,
  reaches-turned p.men (mirrored_men p.men) (AreTurned-mirrored p.men) p.en_passant p.to_move m.kind a b ha hb goes.1,
  promotion-turned p.to_move m.kind b promo hb goes.2,
)

plain_move-mirrored : (p : Position) (a b : ℕ) (promo : Option Kind) → IsPlainMove p a b promo →
    IsPlainMove (mirrored p) (turned a) (turned b) promo
plain_move-mirrored p a b promo h = record {
  from = turned-lt a h.from;
  to = turned-lt b h.to;
  goes =
      let C : Option Man → Type 0 = λ man. GoesAs (mirrored p) (turned a) (turned b) promo man in
      let turn = AreTurned-mirrored p.men in
      subst C (sym (turn.each a h.from)) (goes_as-mirrored p a b promo h.from h.to (man_at p.men a) h.goes);
}

hand-mirrored : (p : Position) (c : Colour) → hand_of_side (mirrored p) (opposite c) ≡ hand_of_side p c
hand-mirrored p White = refl
hand-mirrored p Black = refl

may_drop-turned : (k : Kind) (to : ℕ) → to < 64 → MayDropOn k to → MayDropOn k (turned to)
may_drop-turned Pawn to h may = (omega (arith, may.1, rank-turned to h), omega (arith, h, may.0, rank-turned to h))
may_drop-turned Knight to h may = may
may_drop-turned Bishop to h may = may
may_drop-turned Rook to h may = may
may_drop-turned Queen to h may = may
may_drop-turned King to h may = may

can_drop-mirrored : (p : Position) (k : Kind) (to : ℕ) → CanDrop p k to → CanDrop (mirrored p) k (turned to)
can_drop-mirrored p k to h = record {
  variant = h.variant;
  held =
      let C : Hand → Type 0 = λ hand. 0 < count_in hand k in
      subst C (sym (hand-mirrored p p.to_move)) h.held;
  square = turned-lt to h.square;
  free = empty-turned p.men (mirrored_men p.men) (AreTurned-mirrored p.men) to h.square h.free;
  rank = may_drop-turned k to h.square h.rank;
}

-- the half-move, and the king after it

move-mirrored : (p : Position) (m : Move) → length p.men ≡ 64 → IsMove p m → IsMove (mirrored p) (mirrored_move m)
move-mirrored p (Plain a b promo) size h = plain_move-mirrored p a b promo h
move-mirrored p (Castle long) size h = can_castle-mirrored p long size h
move-mirrored p (Drop k to) size h = can_drop-mirrored p k to h

AreMirrored-men : (P : Placement) → length P ≡ 64 → AreMirrored P (mirrored_men P)
AreMirrored-men P size = record { turn = AreTurned-mirrored P; first = size; second = length-mirrored P }

after-mirrored : (p : Position) (m : Move) → length p.men ≡ 64 → IsMove p m →
    AreMirrored (place_after p.variant p.men p.to_move m)
    (place_after p.variant (mirrored_men p.men) (opposite p.to_move) (mirrored_move m))
after-mirrored p (Plain a b promo) size h =
    plain-mirrored p.variant p.men (mirrored_men p.men) (AreMirrored-men p.men size) p.to_move a b promo h.from h.to
after-mirrored p (Castle long) size h =
    castle-mirrored p.variant p.men (mirrored_men p.men) (AreMirrored-men p.men size) p.to_move long
after-mirrored p (Drop k to) size h =
    set-mirrored p.men (mirrored_men p.men) (AreMirrored-men p.men size) to (unpromoted p.to_move k) h.square

allowed-mirrored : (p : Position) (m : Move) → length p.men ≡ 64 → Allowed p m → Allowed (mirrored p) (mirrored_move m)
allowed-mirrored p m size h = record {
  move = move-mirrored p m size h.move;
  safe =
      let after = after-mirrored p m size h.move in
      safe-turned (place_after p.variant p.men p.to_move m)
      (place_after p.variant (mirrored_men p.men) (opposite p.to_move) (mirrored_move m)) after.turn p.to_move h.safe;
}

-- the mirror of the mirror

men-back : (P : Placement) → length P ≡ 64 → mirrored_men (mirrored_men P) ≡ P
men-back P size =
    let Q : Placement = mirrored_men P in
    ext_get_or None (mirrored_men Q) P (length-mirrored Q ∙ sym size)
    (λ s less.
    let hs : s < 64 = omega (arith, less, length-mirrored Q) in
    mirrored_at Q s hs ∙ ap recoloured (mirrored_at P (turned s) (turned-lt s hs)) ∙
    recoloured-twice (man_at P (turned (turned s))) ∙ ap (man_at P) (turned-turned s))

square-back : (e : Option ℕ) → option_map turned (option_map turned e) ≡ e
square-back None = refl
square-back (Some s) = ap (λ (t : ℕ). Some t) (turned-turned s)

position-back : (p : Position) → length p.men ≡ 64 → mirrored (mirrored p) ≡ p
position-back p size = λ i. record {
  variant = p.variant;
  men = men-back p.men size i;
  to_move = opposite-opposite p.to_move i;
  en_passant = square-back p.en_passant i;
  rights = p.rights;
  quiet = p.quiet;
  white = p.white;
  black = p.black;
}

move-back : (m : Move) → mirrored_move (mirrored_move m) ≡ m
move-back (Plain a b promo) = λ i. Plain (turned-turned a i) (turned-turned b i) promo
move-back (Castle long) = refl
move-back (Drop k to) = λ i. Drop k (turned-turned to i)

allowed-back : (p : Position) (m : Move) → length p.men ≡ 64 → Allowed (mirrored p) (mirrored_move m) → Allowed p m
allowed-back p m size h =
    let twice = allowed-mirrored (mirrored p) (mirrored_move m) (length-mirrored p.men) h in
    let C : Position → Type 0 = λ q. Allowed q m in
    let M : Move → Type 0 = λ n. Allowed (mirrored (mirrored p)) n in
    subst C (position-back p size) (subst M (move-back m) twice)

array-mirrored : (v : Variant) → mirrored_men (array_of v) ≡ array_of v
unfolding mirrored_men turned
array-mirrored v =
    eight (λ rank. mirrored_men (array_from rank) ≡ array_from rank) (λ a b c d e f g h. refl) (back_rank v)
    (home_rank_of v).eight

pub colours_exchanged : ColoursMayBeExchanged
colours_exchanged = record {
  allowed = λ p m size. (allowed-mirrored p m size, allowed-back p m size);
  attacked = λ P c s less. (
    attacked-turned P (mirrored_men P) (AreTurned-mirrored P) c s less,
    attacked-from P (mirrored_men P) (AreTurned-mirrored P) c s less,
  );
  king_safe = λ P c.
      (safe-turned P (mirrored_men P) (AreTurned-mirrored P) c, safe-from P (mirrored_men P) (AreTurned-mirrored P) c);
  position_back = position-back;
  move_back = move-back;
  array = array-mirrored;
}
