-- A legal list of half-moves leads to a sound position.
use Rattle.std.proofs.Common.{arith, ◌≡◌, ◌≢◌, ℕ, ◌+◌, ◌<◌, ◌/◌, inl, inr, List, [], ◌∷◌, ◌++◌, Bool, true, false, ◌&&◌, not, cond, is_none, nat_eq, IsTrue, Option, Some, None, refl, sym, ap, subst, ◌∙◌, append_assoc}
use Rattle.std.specs.List.{sum_by, count_by}
use Rattle.std.proofs.lemmas.Bool.{cases_eq, eqb-true, eqb-false, eq-eqb, and_parts, or_parts, false_from_ne_true, not-true}
use Rattle.std.proofs.lemmas.List.{append-nil}
use Rattle.chess_model.specs.declared.man.Colour.{Colour}
use Rattle.chess_model.specs.declared.man.Colour.TheVariants.{White, Black}
use Rattle.chess_model.specs.declared.man.Kind.{Kind}
use Rattle.chess_model.specs.declared.man.Kind.TheVariants.{Pawn, Knight, Bishop, Rook, Queen, King}
use Rattle.chess_model.specs.declared.man.Man.{Man}
use Rattle.chess_model.specs.declared.hand.Hand.{Hand}
use Rattle.chess_model.specs.declared.rights.Rights.{Rights}
use Rattle.chess_model.specs.declared.moves.Move.{Move}
use Rattle.chess_model.specs.declared.moves.Move.TheVariants.{Plain, Castle, Drop}
use Rattle.chess_model.specs.declared.variant.Variant.{Variant}
use Rattle.chess_model.specs.Squares.{file_of, rank_of, ranks_apart, distance, along, square_at}
use Rattle.chess_model.specs.Men.{same_colour, same_kind, is_held_as}
use Rattle.chess_model.specs.Placement.{Placement, man_at, opposite, IsHeldAs, home_rank, second_rank, last_rank, array_of, king_home, rook_home, king_end, rook_end}
use Rattle.chess_model.specs.Reach.{IsForward, IsStep, Clear, Reaches}
use Rattle.chess_model.specs.Attacked.{IsKingSafe}
use Rattle.chess_model.specs.MoveList.{HalfMove, Ply, is_pawn, is_pawn_kind, moves_of, settings, place_after, place_from, side_from, taking_square, landed, taken}
use Rattle.chess_model.specs.RightsAndCounts.{touches, keeps_right, rights_after, en_passant_after, passed_over}
use Rattle.chess_model.specs.Holdings.{count_in}
use Rattle.chess_model.specs.Position.{Position, position_after, hand_of_side}
use Rattle.chess_model.specs.Allowed.{IsPromotion, HasPromotion, right_of, Allowed, IsLegal}
use Rattle.chess_model.specs.Next.{next, next_rights}
use Rattle.chess_model.specs.Laws.{MovesOneMan, MovesKingAndRook}
use Rattle.chess_model.specs.LegalPositions.{behind, HasPassed, AreAtHome, IsSound, IsPrey, LegalPositionsAreSound, MovesAMan}
use Rattle.chess_model.proofs.Arrays.{length-array, kings_home, rooks_home, kings_at_start, safe_at_start}
use Rattle.chess_model.proofs.HomeRanks.{files_of}
use Rattle.chess_model.proofs.MoreMoves.{one, moves_of-same, moves_of-other, place_from-append, side_from-append, settings-append, rights_after-append, en_passant_after-append}
use Rattle.chess_model.proofs.NoMoreMen.{cond_and-false, length-place_after}
use Rattle.chess_model.proofs.ChessLaws.{known_squares, opposite-opposite}
use Rattle.chess_model.proofs.TestsDecide.{Decides-kind}
use Rattle.chess_model.proofs.Captures.{IsMover, mover, Take, nothing, on_target, passing, take_of, captures_prey, moves_a_man}
use Rattle.chess_model.proofs.Weights.{IsSteady, brought, weight-after}

-- kings

abbrev king_weight : Colour → Option Man → ℕ
king_weight c man = cond (is_held_as c King man) 1 0

promoted_no_king : (x : Bool) (k : Kind) → IsPromotion (Some k) → cond {A = ℕ} (x && same_kind k King) 1 0 ≡ 0
promoted_no_king x Pawn h = absurd h
promoted_no_king x Knight h = cond_and-false x
promoted_no_king x Bishop h = cond_and-false x
promoted_no_king x Rook h = cond_and-false x
promoted_no_king x Queen h = cond_and-false x
promoted_no_king x King h = absurd h

not_king : (x : Bool) (k : Kind) → k ≢ King → cond {A = ℕ} (x && same_kind k King) 1 0 ≡ 0
not_king x k h =
    let e : same_kind k King ≡ false = false_from_ne_true (same_kind k King) (λ e. h ((Decides-kind k King).0 e)) in
    ap (λ y. cond {A = ℕ} (x && y) 1 0) e ∙ cond_and-false x

kings_steady : (c : Colour) → IsSteady (king_weight c)
kings_steady c = record {
  none = refl;
  steady = λ m k e h.
      promoted_no_king (same_colour m.colour c) k h ∙
      sym (not_king (same_colour m.colour c) m.kind (λ king. let f : Pawn ≡ King = sym e ∙ king in cc));
}

pub king_not_held : (h : Hand) (k : Kind) → 0 < count_in h k → k ≢ King
king_not_held h Pawn held e = cc
king_not_held h Knight held e = cc
king_not_held h Bishop held e = cc
king_not_held h Rook held e = cc
king_not_held h Queen held e = cc
king_not_held h King held e = omega arith

no_king_brought : (p : Position) (m : Move) (c : Colour) → Allowed p m → brought (king_weight c) p.to_move m ≡ 0
no_king_brought p (Plain a b promo) c h = refl
no_king_brought p (Castle long) c h = refl
no_king_brought p (Drop k to) c h =
    not_king (same_colour p.to_move c) k (king_not_held (hand_of_side p p.to_move) k h.move.held)

no_king_lost : (p : Position) (c : Colour) (o : Option Man) → ((x : Man) → o ≡ Some x → IsPrey p x)
    → king_weight c o ≡ 0
no_king_lost p c None prey = refl
no_king_lost p c (Some x) prey = not_king (same_colour x.colour c) x.kind (prey x refl).no_king

one_king-next : (p : Position) (m : Move) → IsSound p → Allowed p m → (c : Colour) →
    count_by (is_held_as c King) (place_after p.variant p.men p.to_move m) ≡ 1
one_king-next p m sound h c =
    let weight : sum_by (king_weight c) (place_after p.variant p.men p.to_move m) + king_weight c (taken p.men m)
    ≡ sum_by (king_weight c) p.men + brought (king_weight c) p.to_move m =
    weight-after (king_weight c) (kings_steady c) p m sound h in
    let lost : king_weight c (taken p.men m) ≡ 0 = no_king_lost p c (taken p.men m) (captures_prey p m sound h) in
    let came : brought (king_weight c) p.to_move m ≡ 0 = no_king_brought p m c h in
    let before : sum_by (king_weight c) p.men ≡ 1 = sound.one_king c in
    omega (arith, weight, lost, came, before)

-- homes

held_apart : (c d : Colour) (k j : Kind) (o : Option Man) → IsHeldAs c k o → IsHeldAs d j o → k ≡ j
held_apart c d k j None h g = absurd h
held_apart c d k j (Some m) h g = sym h.1 ∙ g.1

-- a man that isn't a pawn, on s
record IsPieceOn (P : Placement) (s : ℕ) : Type 0 where
  colour : Colour
  kind : Kind
  piece : kind ≢ Pawn
  there : IsHeldAs colour kind (man_at P s)

not_taken : (p : Position) (a b s : ℕ) → IsPieceOn p.men s → s ≢ b → Take p a b → s ≢ taking_square p.men a b
not_taken p a b s piece differ (nothing square free) e = differ (e ∙ square)
not_taken p a b s piece differ (on_target x square there prey) e = differ (e ∙ square)
not_taken p a b s piece differ (passing square passed beside how) e =
    piece.piece (held_apart piece.colour (opposite p.to_move) piece.kind Pawn (man_at p.men s) piece.there
    (subst (λ t. IsHeldAs (opposite p.to_move) Pawn (man_at p.men t)) (sym (e ∙ square)) passed.pawn))

-- the ranks of the squares of castling
record OnHomeRank (v : Variant) (c : Colour) (long : Bool) : Type 0 where
  king : rank_of (king_home v c) ≡ home_rank c
  rook : rank_of (rook_home v c long) ≡ home_rank c
  king_goal : rank_of (king_end c long) ≡ home_rank c
  rook_goal : rank_of (rook_end c long) ≡ home_rank c

on_home_rank : (v : Variant) (c : Colour) (long : Bool) → OnHomeRank v c long
on_home_rank v White true =
    let f = files_of v in
    record {
      king = omega (arith, f.long_rook, f.short_rook, f.most);
      rook = omega (arith, f.long_rook, f.short_rook, f.most);
      king_goal = refl;
      rook_goal = refl;
    }
on_home_rank v White false =
    let f = files_of v in
    record {
      king = omega (arith, f.long_rook, f.short_rook, f.most);
      rook = omega (arith, f.long_rook, f.short_rook, f.most);
      king_goal = refl;
      rook_goal = refl;
    }
on_home_rank v Black true =
    let f = files_of v in
    record {
      king = omega (arith, f.long_rook, f.short_rook, f.most);
      rook = omega (arith, f.long_rook, f.short_rook, f.most);
      king_goal = refl;
      rook_goal = refl;
    }
on_home_rank v Black false =
    let f = files_of v in
    record {
      king = omega (arith, f.long_rook, f.short_rook, f.most);
      rook = omega (arith, f.long_rook, f.short_rook, f.most);
      king_goal = refl;
      rook_goal = refl;
    }

home_ranks_differ : (c d : Colour) → (c ≡ d → ⊥) → home_rank c ≢ home_rank d
home_ranks_differ White White h e = h refl
home_ranks_differ White Black h e = omega (arith, e)
home_ranks_differ Black White h e = omega (arith, e)
home_ranks_differ Black Black h e = h refl

elsewhere : (c d : Colour) (s t : ℕ) → (c ≡ d → ⊥) → rank_of s ≡ home_rank c → rank_of t ≡ home_rank d → s ≢ t
elsewhere c d s t differ e f same = home_ranks_differ c d differ (sym e ∙ ap rank_of same ∙ f)

-- what stays on a home square that a half-move doesn't touch
stays : (p : Position) (m : Move) (c : Colour) (s : ℕ) → IsSound p → Allowed p m → rank_of s ≡ home_rank c
    → IsPieceOn p.men s →
    touches p.variant p.to_move m s ≡ false → touches p.variant p.to_move m (king_home p.variant c) ≡ false →
    man_at (place_after p.variant p.men p.to_move m) s ≡ man_at p.men s
stays p (Plain a b promo) c s sound h rank piece untouched king =
    let parts = or_parts (nat_eq a s) (nat_eq b s) untouched in
    let from : s ≢ a = λ e. eqb-false a s parts.0 (sym e) in
    let to : s ≢ b = λ e. eqb-false b s parts.1 (sym e) in
    let known : MovesOneMan p.men a b promo (place_after p.variant p.men p.to_move (Plain a b promo)) =
    known_squares p (Plain a b promo) sound.squares h in
    known.others s from to (not_taken p a b s piece to (take_of p a b promo sound h.move))
stays p (Castle long) c s sound h rank piece untouched king =
    let own : c ≡ p.to_move → ⊥ =
    (λ e.
    let hit : nat_eq (king_home p.variant p.to_move) (king_home p.variant c) ≡ true =
    eq-eqb (king_home p.variant p.to_move) (king_home p.variant c) (ap (king_home p.variant) (sym e)) in
    let f : true ≡ false = sym hit ∙ king in cc) in
    let at = on_home_rank p.variant p.to_move long in
    let known : MovesKingAndRook p.variant p.men p.to_move long (place_after p.variant p.men p.to_move (Castle long)) =
    known_squares p (Castle long) sound.squares h in
    known.others s
    (elsewhere c p.to_move s (king_home p.variant p.to_move) own rank at.king)
    (elsewhere c p.to_move s (rook_home p.variant p.to_move long) own rank at.rook)
    (elsewhere c p.to_move s (king_end p.to_move long) own rank at.king_goal)
    (elsewhere c p.to_move s (rook_end p.to_move long) own rank at.rook_goal)
stays p (Drop k to) c s sound h rank piece untouched king =
    (known_squares p (Drop k to) sound.squares h).others s (λ e. eqb-false to s untouched (sym e))

right-next : (v : Variant) (r : Rights) (by : Colour) (m : Move) (c : Colour) (long : Bool)
    → right_of (next_rights v r by m) c long ≡ true →
    (right_of r c long ≡ true) × (keeps_right v c long by m ≡ true)
right-next v r by m White false h = and_parts r.white_short (keeps_right v White false by m) h
right-next v r by m White true h = and_parts r.white_long (keeps_right v White true by m) h
right-next v r by m Black false h = and_parts r.black_short (keeps_right v Black false by m) h
right-next v r by m Black true h = and_parts r.black_long (keeps_right v Black true by m) h

rights-next : (p : Position) (m : Move) → IsSound p → Allowed p m → (c : Colour) (long : Bool) →
    IsTrue (right_of (next_rights p.variant p.rights p.to_move m) c long) →
    AreAtHome p.variant (place_after p.variant p.men p.to_move m) c long
rights-next p m sound h c long stands =
    let was = right-next p.variant p.rights p.to_move m c long stands in
    let home = sound.rights c long was.0 in
    let kept =
    and_parts (not (touches p.variant p.to_move m (king_home p.variant c)))
    (not (touches p.variant p.to_move m (rook_home p.variant c long))) was.1 in
    let no_king : touches p.variant p.to_move m (king_home p.variant c) ≡ false = not-true _ kept.0 in
    let no_rook : touches p.variant p.to_move m (rook_home p.variant c long) ≡ false = not-true _ kept.1 in
    let at = on_home_rank p.variant c long in
    let king : man_at (place_after p.variant p.men p.to_move m) (king_home p.variant c)
    ≡ man_at p.men (king_home p.variant c) =
    stays p m c (king_home p.variant c) sound h at.king
    (record { colour = c; kind = King; piece = λ e. cc; there = home.king }) no_king no_king in
    let rook : man_at (place_after p.variant p.men p.to_move m) (rook_home p.variant c long)
    ≡ man_at p.men (rook_home p.variant c long) =
    stays p m c (rook_home p.variant c long) sound h at.rook
    (record { colour = c; kind = Rook; piece = λ e. cc; there = home.rook }) no_rook no_king in
    record {
      king = subst (λ o. IsHeldAs c King o) (sym king) home.king;
      rook = subst (λ o. IsHeldAs c Rook o) (sym rook) home.rook;
    }

-- the en passant square

-- a double push: two ranks along a file, over an empty square, without promotion
record IsDouble (p : Position) (a b : ℕ) (promo : Option Kind) : Type 0 where
  files : file_of a ≡ file_of b
  forward : IsForward p.to_move 2 a b
  second : rank_of a ≡ second_rank p.to_move
  clear : Clear p.men a b
  own : IsHeldAs p.to_move Pawn (man_at p.men a)
  stays_pawn : promo ≡ None

near_apart : (c : Colour) (a b : ℕ) → IsForward c 1 a b → ranks_apart a b ≡ 2 → ⊥
near_apart White a b h e = omega (arith, h, e)
near_apart Black a b h e = omega (arith, h, e)

not_last : (c : Colour) (a b : ℕ) → IsForward c 2 a b → rank_of a ≡ second_rank c → rank_of b ≡ last_rank c → ⊥
not_last White a b h s l = omega (arith, h, s, l)
not_last Black a b h s l = omega (arith, h, s, l)

no_promotion : (c : Colour) (a b : ℕ) (promo : Option Kind) → IsForward c 2 a b → rank_of a ≡ second_rank c
    → HasPromotion c Pawn b promo → promo ≡ None
no_promotion c a b promo h s (inl last) = absurd (not_last c a b h s last.0)
no_promotion c a b promo h s (inr other) = other.1

double_push : (p : Position) (a b : ℕ) (promo : Option Kind) → ranks_apart a b ≡ 2 → (m : Man) → IsMover p a b promo m
    → (k : Kind) → m.kind ≡ k → k ≡ Pawn →
    Reaches p.men p.en_passant p.to_move k a b → HasPromotion p.to_move k b promo → IsDouble p a b promo
unfolding IsStep
double_push p a b promo apart m who Pawn e pawn (inl ahead) becomes = elim (ahead.ahead) [
  | inl near ↦ absurd (near_apart p.to_move a b near apart)
  | inr far ↦ record {
    files = omega (arith, ahead.file);
    forward = far.0;
    second = far.1;
    clear = ahead.way;
    own = subst (λ o. IsHeldAs p.to_move Pawn o) (sym who.there) (who.own, e);
    stays_pawn = no_promotion p.to_move a b promo far.0 far.1 becomes;
  }
]
double_push p a b promo apart m who Pawn e pawn (inr takes) becomes =
    absurd (near_apart p.to_move a b takes.step.1 apart)
double_push p a b promo apart m who Knight e pawn reach becomes = cc
double_push p a b promo apart m who Bishop e pawn reach becomes = cc
double_push p a b promo apart m who Rook e pawn reach becomes = cc
double_push p a b promo apart m who Queen e pawn reach becomes = cc
double_push p a b promo apart m who King e pawn reach becomes = cc

kind_is_pawn : (k : Kind) → is_pawn_kind k ≡ true → k ≡ Pawn
kind_is_pawn Pawn h = refl
kind_is_pawn Knight h = cc
kind_is_pawn Bishop h = cc
kind_is_pawn Rook h = cc
kind_is_pawn Queen h = cc
kind_is_pawn King h = cc

-- the numbers of a double push
between_is : (c : Colour) (a b : ℕ) → file_of a ≡ file_of b → IsForward c 2 a b →
    (along a b 1 ≡ (a + b) / 2) × (behind c ((a + b) / 2) ≡ b) × (1 < distance a b) × ((a + b) / 2 ≢ a)
    × ((a + b) / 2 ≢ b) × (a ≢ b)
between_is White a b f r = (
  omega (arith, f, r),
  omega (arith, f, r),
  omega (arith, f, r),
  λ e. omega (arith, f, r, e),
  λ e. omega (arith, f, r, e),
  λ e. omega (arith, f, r, e),
)
between_is Black a b f r = (
  omega (arith, f, r),
  omega (arith, f, r),
  omega (arith, f, r),
  λ e. omega (arith, f, r, e),
  λ e. omega (arith, f, r, e),
  λ e. omega (arith, f, r, e),
)

not_beside : (s b : ℕ) (x y z : Bool) → z ≡ true → cond (x && (y && not z)) s b ≡ b
not_beside s b true true true e = refl
not_beside s b true false true e = refl
not_beside s b false y true e = refl
not_beside s b x y false e = cc

straight_takes_there : (p : Position) (a b : ℕ) → file_of a ≡ file_of b → taking_square p.men a b ≡ b
straight_takes_there p a b f =
    not_beside (square_at (file_of b) (rank_of a)) b (is_pawn (man_at p.men a)) (is_none (man_at p.men b))
    (nat_eq (file_of a) (file_of b))
    (eq-eqb (file_of a) (file_of b) f)

passed-double : (p : Position) (a b : ℕ) (promo : Option Kind) → IsSound p → Allowed p (Plain a b promo)
    → IsDouble p a b promo →
    HasPassed (place_after p.variant p.men p.to_move (Plain a b promo)) p.to_move ((a + b) / 2)
passed-double p a b promo sound h d =
    let n = between_is p.to_move a b d.files d.forward in
    let s : ℕ = (a + b) / 2 in
    let known : MovesOneMan p.men a b promo (place_after p.variant p.men p.to_move (Plain a b promo)) =
    known_squares p (Plain a b promo) sound.squares h in
    let there : taking_square p.men a b ≡ b = straight_takes_there p a b d.files in
    let was_empty : man_at p.men s ≡ None = ap (man_at p.men) (sym n.0) ∙ d.clear.empty 1 (omega arith) n.2 in
    let lands : man_at (place_after p.variant p.men p.to_move (Plain a b promo)) b ≡ man_at p.men a =
    known.target ∙ ap (landed (man_at p.men a)) d.stays_pawn in
    record {
      empty = known.others s n.3 n.4 (λ e. n.4 (e ∙ there)) ∙ was_empty;
      pawn =
          subst (λ o. IsHeldAs p.to_move Pawn o)
          (sym (ap (man_at (place_after p.variant p.men p.to_move (Plain a b promo))) n.1 ∙ lands)) d.own;
    }

if_some : (q : Bool) (t s : ℕ) → cond q (Some t) None ≡ Some s → (q ≡ true) × (t ≡ s)
if_some true t s e = (refl, cc)
if_some false t s e = absurd (let f : None ≡ Some s = e in cc)

passed-next : (p : Position) (m : Move) → IsSound p → Allowed p m → (s : ℕ) → passed_over p.men m ≡ Some s →
    HasPassed (place_after p.variant p.men p.to_move m) p.to_move s
passed-next p (Plain a b promo) sound h s e =
    let t = if_some (is_pawn (man_at p.men a) && nat_eq (ranks_apart a b) 2) ((a + b) / 2) s e in
    let parts = and_parts (is_pawn (man_at p.men a)) (nat_eq (ranks_apart a b) 2) t.0 in
    let who = mover p a b promo h.move in
    let pawn : who.0.kind ≡ Pawn = kind_is_pawn who.0.kind (sym (ap is_pawn who.1.there) ∙ parts.0) in
    let apart : ranks_apart a b ≡ 2 = eqb-true (ranks_apart a b) 2 parts.1 in
    let d = double_push p a b promo apart who.0 who.1 who.0.kind refl pawn who.1.reaches who.1.becomes in
    subst (λ x. HasPassed (place_after p.variant p.men p.to_move (Plain a b promo)) p.to_move x) t.1
    (passed-double p a b promo sound h d)
passed-next p (Castle long) sound h s e = cc
passed-next p (Drop k to) sound h s e = cc

pub IsSound-next : (p : Position) (m : Move) → IsSound p → Allowed p m → IsSound (next p m)
IsSound-next p m sound h =
    let back : p.to_move ≡ opposite (opposite p.to_move) = sym (opposite-opposite p.to_move) in
    let P : Placement = place_after p.variant p.men p.to_move m in
    record {
      squares = length-place_after p.variant p.men p.to_move m ∙ sound.squares;
      one_king = one_king-next p m sound h;
      other_safe = subst (λ c. IsKingSafe P c) back h.safe;
      rights = rights-next p m sound h;
      passed = λ s e. subst (λ c. HasPassed P c s) back (passed-next p m sound h s e);
    }

-- lists

empty_hand : Hand
empty_hand = record { pawns = 0; knights = 0; bishops = 0; rooks = 0; queens = 0 }

-- what the half-moves of one board alone lead to, but for the hands and the quiet count
abbrev bare : Variant → List Move → Position
bare v ms = record {
  variant = v;
  men = place_from v (array_of v) White ms;
  to_move = side_from White ms;
  en_passant = en_passant_after (settings v (array_of v) White ms);
  rights = rights_after v (settings v (array_of v) White ms);
  quiet = 0;
  white = empty_hand;
  black = empty_hand;
}

bare-append : (v : Variant) (ms : List Move) (m : Move) (n : ℕ) (w k : Hand) →
    IsSound (next (record {
      variant = v;
      men = place_from v (array_of v) White ms;
      to_move = side_from White ms;
      en_passant = en_passant_after (settings v (array_of v) White ms);
      rights = rights_after v (settings v (array_of v) White ms);
      quiet = n;
      white = w;
      black = k;
    }) m) →
    IsSound (bare v (ms ++ m ∷ []))
bare-append v ms m n w k s =
    let P : Placement = place_from v (array_of v) White ms in
    let c : Colour = side_from White ms in
    let H : List Ply = settings v (array_of v) White ms in
    let x : Ply = record { before = P; by = c; what = m } in
    let grown : settings v (array_of v) White (ms ++ m ∷ []) ≡ H ++ x ∷ [] =
    settings-append v (array_of v) White ms m in
    let men = place_from-append v (array_of v) White ms m in
    let to_move = side_from-append White ms m in
    let en_passant = ap en_passant_after grown ∙ en_passant_after-append H x in
    let rights = ap (rights_after v) grown ∙ rights_after-append v H x in
    let first : IsSound (record {
      variant = v;
      men = place_after v P c m;
      to_move = opposite c;
      en_passant = passed_over P m;
      rights = next_rights v (rights_after v H) c m;
      quiet = 0;
      white = empty_hand;
      black = empty_hand;
    }) =
    record {
      squares = s.squares;
      one_king = s.one_king;
      other_safe = s.other_safe;
      rights = s.rights;
      passed = s.passed;
    } in
    subst IsSound (λ i. record {
      variant = v;
      men = sym men i;
      to_move = sym to_move i;
      en_passant = sym en_passant i;
      rights = sym rights i;
      quiet = 0;
      white = empty_hand;
      black = empty_hand;
    }) first

homes_at_start : (v : Variant) (c : Colour) (long : Bool) → AreAtHome v (array_of v) c long
homes_at_start v c long = record {
  king = subst (IsHeldAs c King) (sym (kings_home v c)) (refl, refl);
  rook = subst (IsHeldAs c Rook) (sym (rooks_home v c long)) (refl, refl);
}

sound_start : (v : Variant) → IsSound (bare v [])
sound_start v = record {
  squares = length-array v;
  one_king = kings_at_start v;
  other_safe = safe_at_start v;
  rights = λ c long h. homes_at_start v c long;
  passed = λ s e. absurd (let f : None ≡ Some s = e in cc);
}

-- the first half-moves of a legal list are legal
pub legal_front : (v : Variant) (done rest : List HalfMove) → IsLegal v (done ++ rest) → IsLegal v done
legal_front v done rest legal = record {
  each = λ before after x e.
      legal.each before (after ++ rest) x
      (ap (λ (hs : List HalfMove). hs ++ rest) e ∙ append_assoc before (x ∷ after) rest);
}

-- a fact of the empty list that each allowed half-move keeps holds of each legal list
legal_from : (v : Variant) (P : List HalfMove → Type 0) →
    ((T : List HalfMove) (h : HalfMove) → IsLegal v T → Allowed (position_after v T h.board) h.what → P T
    → P (T ++ h ∷ [])) →
    (done rest : List HalfMove) → IsLegal v (done ++ rest) → P done → P (done ++ rest)
legal_from v P step done [] legal p = subst P (sym (append-nil done)) p
legal_from v P step done (h ∷ rest) legal p =
    let split : (done ++ h ∷ []) ++ rest ≡ done ++ h ∷ rest = append_assoc done (h ∷ []) rest in
    let grown : P (done ++ h ∷ []) =
    step done h (legal_front v done (h ∷ rest) legal) (legal.each done rest h refl) p in
    subst P split (legal_from v P step (done ++ h ∷ []) rest (subst (IsLegal v) (sym split) legal) grown)

pub legal_induction : (v : Variant) (P : List HalfMove → Type 0) → P [] →
    ((T : List HalfMove) (h : HalfMove) → IsLegal v T → Allowed (position_after v T h.board) h.what → P T
    → P (T ++ h ∷ [])) →
    (T : List HalfMove) → IsLegal v T → P T
legal_induction v P none step T legal = legal_from v P step [] T legal none

sound_step : (v : Variant) (b : ℕ) (T : List HalfMove) (h : HalfMove) → Allowed (position_after v T h.board) h.what →
    IsSound (bare v (moves_of b T)) → IsSound (bare v (moves_of b (T ++ h ∷ [])))
sound_step v b T h allowed s = elim (cases_eq h.board b) [
  | inl same ↦
      let A : ℕ → Type 0 = λ x. Allowed (position_after v T x) h.what in
      let here : Allowed (position_after v T b) h.what = subst A same allowed in
      let p : Position = position_after v T b in
      let sound : IsSound p =
      record {
        squares = s.squares;
        one_king = s.one_king;
        other_safe = s.other_safe;
        rights = s.rights;
        passed = s.passed;
      } in
      let grown : IsSound (bare v (moves_of b T ++ h.what ∷ [])) =
      bare-append v (moves_of b T) h.what p.quiet p.white p.black (IsSound-next p h.what sound here) in
      let list : moves_of b (T ++ h ∷ []) ≡ moves_of b T ++ h.what ∷ [] =
      subst (λ x. moves_of b (T ++ one x h.what) ≡ moves_of b T ++ h.what ∷ []) (sym same) (moves_of-same b T h.what) in
      subst (λ ms. IsSound (bare v ms)) (sym list) grown
  | inr other ↦ subst (λ ms. IsSound (bare v ms)) (sym (moves_of-other h.board b T h.what other)) s
]

pub sound_after : (v : Variant) (T : List HalfMove) (b : ℕ) → IsLegal v T → IsSound (position_after v T b)
sound_after v T b legal =
    let s : IsSound (bare v (moves_of b T)) =
    legal_induction v (λ U. IsSound (bare v (moves_of b U))) (sound_start v)
    (λ U h front allowed s. sound_step v b U h allowed s) T legal in
    record {
      squares = s.squares;
      one_king = s.one_king;
      other_safe = s.other_safe;
      rights = s.rights;
      passed = s.passed;
    }

pub legal_sound : LegalPositionsAreSound
legal_sound = record {
  sound = sound_after;
  captures = λ v T b m legal h. captures_prey (position_after v T b) m (sound_after v T b legal) h;
  plain_moves = λ v T n a b promo legal h.
      let grown : place_after v (position_after v T n).men (position_after v T n).to_move (Plain a b promo)
      ≡ (position_after v (T ++ one n (Plain a b promo)) n).men =
      sym (ap (place_from v (array_of v) White) (moves_of-same n T (Plain a b promo))
      ∙ place_from-append v (array_of v) White (moves_of n T) (Plain a b promo)) in
      subst (λ Q. MovesAMan (position_after v T n) a b promo Q) grown
      (moves_a_man (position_after v T n) a b promo (sound_after v T n legal) h);
}
