-- No half-move makes men: what stands on the board and in the hands grows by none.
use Rattle.std.proofs.Common.{arith, ◌≡◌, ◌≢◌, ℕ, ◌+◌, ◌-◌, ◌<◌, ◌≤◌, Bool, true, false, ◌&&◌, not, cond, is_some, is_none, length, refl, sym, ap, subst, inl, inr, Option, Some, None, slice_set, nat_eq, get_or-set_other}
use Rattle.std.proofs.lemmas.Bool.{eqb-false, not-true}
use Rattle.std.proofs.lemmas.List.{length-set}
use Rattle.std.proofs.lemmas.List.Sums.{sum_by-set}
use Rattle.chess_model.specs.declared.man.Colour.{Colour}
use Rattle.chess_model.specs.declared.man.Colour.TheVariants.{White, Black}
use Rattle.chess_model.specs.declared.man.Kind.{Kind}
use Rattle.chess_model.specs.declared.man.Kind.TheVariants.{Pawn, Knight, Bishop, Rook, Queen, King}
use Rattle.chess_model.specs.declared.man.Man.{Man}
use Rattle.chess_model.specs.declared.moves.Move.{Move}
use Rattle.chess_model.specs.declared.moves.Move.TheVariants.{Plain, Castle, Drop}
use Rattle.chess_model.specs.declared.hand.Hand.{Hand}
use Rattle.chess_model.specs.declared.variant.Variant.{Variant}
use Rattle.chess_model.specs.declared.variant.Variant.TheVariants.{Chess, Crazyhouse, Bughouse, Fischer}
use Rattle.chess_model.specs.Squares.{file_of, rank_of, square_at}
use Rattle.chess_model.specs.Placement.{Placement, man_at, unpromoted, king_home, rook_home, king_end, rook_end}
use Rattle.chess_model.specs.Reach.{IsForward, IsStep, Reaches}
use Rattle.chess_model.specs.MoveList.{Ply, is_pawn, is_en_passant, taking_square, landed, two_moved, place_after, taken}
use Rattle.chess_model.specs.Holdings.{same_colour, same_kind, handed_kind, hands_over, count_in, hand_of}
use Rattle.chess_model.specs.Census.{men_on, men_in, all_men}
use Rattle.chess_model.specs.Position.{Position, hand_of_side}
use Rattle.chess_model.specs.Allowed.{GoesAs, Allowed}
use Rattle.chess_model.specs.Next.{gain, next_hand, next}
use Rattle.chess_model.proofs.HomeRanks.{files_of}
use Rattle.chess_model.proofs.StandsAfter.{same_colour-eq}

-- 1 where a man stands there
abbrev pub one_if : Option Man → ℕ
one_if man = cond (is_some man) 1 0

pub one_if-le : (man : Option Man) → one_if man ≤ 1
one_if-le None = omega arith
one_if-le (Some m) = omega arith

pub men_on-set : (P : Placement) (s : ℕ) (man : Option Man) → s < length P →
    men_on (slice_set P s man) + one_if (man_at P s) ≡ men_on P + one_if man
men_on-set P s man h = sum_by-set one_if P s man None h

-- a man leaves a, what stands on t is taken, and one man comes to b
pub men_on-plain : (P : Placement) (t a b : ℕ) (man : Option Man) → t < length P → a < length P → b < length P →
    t ≢ a → one_if (man_at P a) ≡ 1 →
    men_on (slice_set (slice_set (slice_set P t None) a None) b man) + one_if (man_at P t) ≤ men_on P
men_on-plain P t a b man ht ha hb differ some =
    let lifted : Placement = slice_set P t None in
    let left : Placement = slice_set lifted a None in
    let still : man_at lifted a ≡ man_at P a = get_or-set_other P t a None None (λ e. differ (sym e)) in
    let first = men_on-set P t None ht in
    let second = men_on-set lifted a None (omega (arith, length-set P t None)) in
    let third = men_on-set left b man (omega (arith, length-set P t None, length-set lifted a None)) in
    omega (arith, first, second, third, ap one_if still, one_if-le man)

-- the men of two squares go elsewhere
pub men_on-two_moved : (P : Placement) (a b x y : ℕ) → a < length P → b < length P → x < length P → y < length P →
    a ≢ b → men_on (two_moved P a b x y) ≤ men_on P
men_on-two_moved P a b x y ha hb hx hy differ =
    let one_left : Placement = slice_set P a None in
    let both_left : Placement = slice_set one_left b None in
    let one_came : Placement = slice_set both_left x (man_at P a) in
    let still : man_at one_left b ≡ man_at P b = get_or-set_other P a b None None (λ e. differ (sym e)) in
    let first = men_on-set P a None ha in
    let second = men_on-set one_left b None (omega (arith, length-set P a None)) in
    let third = men_on-set both_left x (man_at P a) (omega (arith, length-set P a None, length-set one_left b None)) in
    let fourth = men_on-set one_came y (man_at P b)
    (omega (arith, length-set P a None, length-set one_left b None, length-set both_left x (man_at P a))) in
    omega (arith, first, second, third, fourth, ap one_if still)

pub men_on-drop : (P : Placement) (to : ℕ) (c : Colour) (k : Kind) → to < length P → man_at P to ≡ None →
    men_on (slice_set P to (unpromoted c k)) ≡ men_on P + 1
men_on-drop P to c k h free = omega (arith, men_on-set P to (unpromoted c k) h, ap one_if free)

IsForward-differs : (c : Colour) (n a b : ℕ) → 0 < n → IsForward c n a b → a ≢ b
IsForward-differs White n a b h step e = omega (arith, ap rank_of e)
IsForward-differs Black n a b h step e = omega (arith, ap rank_of e)

pub IsStep-differs : (c : Colour) (k : Kind) (a b : ℕ) → IsStep c k a b → a ≢ b
unfolding IsStep
IsStep-differs c Pawn a b step e = omega (arith, step.0)
IsStep-differs c Knight a b step e = elim step [ inl h ↦ omega (arith, h.0) | inr h ↦ omega (arith, h.0) ]
IsStep-differs c Bishop a b step e = step.0 e
IsStep-differs c Rook a b step e = step.0 e
IsStep-differs c Queen a b step e = elim step [ inl h ↦ h.0 e | inr h ↦ h.0 e ]
IsStep-differs c King a b step e = omega (arith, step)

pub Reaches-differs : (P : Placement) (en_passant : Option ℕ) (c : Colour) (k : Kind) (a b : ℕ)
    → Reaches P en_passant c k a b → a ≢ b
Reaches-differs P en_passant c Pawn a b (inl h) e = elim h.ahead [
  | inl near ↦ IsForward-differs c 1 a b (omega arith) near e
  | inr far ↦ IsForward-differs c 2 a b (omega arith) far.0 e
]
Reaches-differs P en_passant c Pawn a b (inr h) e = IsStep-differs c Pawn a b h.step e
Reaches-differs P en_passant c Knight a b h e = IsStep-differs c Knight a b h.strikes.step e
Reaches-differs P en_passant c Bishop a b h e = IsStep-differs c Bishop a b h.strikes.step e
Reaches-differs P en_passant c Rook a b h e = IsStep-differs c Rook a b h.strikes.step e
Reaches-differs P en_passant c Queen a b h e = IsStep-differs c Queen a b h.strikes.step e
Reaches-differs P en_passant c King a b h e = IsStep-differs c King a b h.strikes.step e

-- a square or the one beside a on the file of b, where b is on another file
choice-differs : (q : Bool) (a b : ℕ) → a ≢ b → (q ≡ true → file_of a ≢ file_of b) →
    cond q (square_at (file_of b) (rank_of a)) b ≢ a
choice-differs true a b differ other e = other refl (omega arith)
choice-differs false a b differ other e = differ (sym e)

choice-lt : (q : Bool) (a b : ℕ) → a < 64 → b < 64 → cond q (square_at (file_of b) (rank_of a)) b < 64
choice-lt true a b ha hb = omega arith
choice-lt false a b ha hb = hb

third : (x y z : Bool) → (x && (y && z)) ≡ true → z ≡ true
third true true true h = refl
third _ _ _ h = cc

pub taking_square-differs : (P : Placement) (a b : ℕ) → a ≢ b → taking_square P a b ≢ a
taking_square-differs P a b differ =
    choice-differs (is_en_passant P a b) a b differ (λ e.
    eqb-false (file_of a) (file_of b) (not-true (nat_eq (file_of a) (file_of b))
    (third (is_pawn (man_at P a)) (is_none (man_at P b)) (not (nat_eq (file_of a) (file_of b))) e)))

pub taking_square-lt : (P : Placement) (a b : ℕ) → a < 64 → b < 64 → taking_square P a b < 64
taking_square-lt P a b ha hb = choice-lt (is_en_passant P a b) a b ha hb

men_in-more_of : (h : Hand) (j : Kind) →
    men_in (hand_of (λ k. count_in h k + cond (same_kind j k) 1 0)) ≤ men_in h + 1
men_in-more_of h Pawn = omega arith
men_in-more_of h Knight = omega arith
men_in-more_of h Bishop = omega arith
men_in-more_of h Rook = omega arith
men_in-more_of h Queen = omega arith
men_in-more_of h King = omega arith

-- one man more in hand for each man taken
men_in-more : (h : Hand) (man : Option Man) →
    men_in (hand_of (λ k. count_in h k + cond (hands_over k man) 1 0)) ≤ men_in h + one_if man
men_in-more h None = omega arith
men_in-more h (Some m) = men_in-more_of h (handed_kind m)

pub cond_and-false : (x : Bool) → cond {A = ℕ} (x && false) 1 0 ≡ 0
cond_and-false true = refl
cond_and-false false = refl

hand-plain : (v : Variant) (hand : Hand) (c by : Colour) (P : Placement) (a b : ℕ) (promo : Option Kind) →
    men_in (next_hand v hand c (record { before = P; by = by; what = Plain a b promo }))
    ≤ men_in hand + cond (same_colour by c) (one_if (taken P (Plain a b promo))) 0
hand-plain Crazyhouse hand White White P a b promo = omega (arith, men_in-more hand (taken P (Plain a b promo)))
hand-plain Crazyhouse hand Black Black P a b promo = omega (arith, men_in-more hand (taken P (Plain a b promo)))
hand-plain _ hand _ _ P a b promo = omega arith

no_gain : (v : Variant) (c : Colour) (k : Kind) (h : Ply) → hands_over k (taken h.before h.what) ≡ false
    → gain v c k h ≡ 0
no_gain Chess c k h e = refl
no_gain (Fischer number) c k h e = refl
no_gain Crazyhouse c k h e = rw e (cond_and-false (same_colour h.by c))
no_gain Bughouse c k h e = refl

hand-castle : (v : Variant) (hand : Hand) (c by : Colour) (P : Placement) (long : Bool) →
    men_in (next_hand v hand c (record { before = P; by = by; what = Castle long })) ≤ men_in hand
hand-castle v hand c by P long =
    let none : (k : Kind) → gain v c k (record { before = P; by = by; what = Castle long }) ≡ 0 = λ k.
    no_gain v c k _ refl in
    omega (arith, none Pawn, none Knight, none Bishop, none Rook, none Queen)

-- a drop takes one man out of the hand of its own colour
drop_own : (hand : Hand) (j : Kind) (f : Kind → ℕ) → ((k : Kind) → f k ≡ 0) → 0 < count_in hand j →
    men_in (hand_of (λ k. count_in hand k + f k - cond (same_kind j k) 1 0)) + 1 ≤ men_in hand
drop_own hand Pawn f none held = omega (arith, none Pawn, none Knight, none Bishop, none Rook, none Queen)
drop_own hand Knight f none held = omega (arith, none Pawn, none Knight, none Bishop, none Rook, none Queen)
drop_own hand Bishop f none held = omega (arith, none Pawn, none Knight, none Bishop, none Rook, none Queen)
drop_own hand Rook f none held = omega (arith, none Pawn, none Knight, none Bishop, none Rook, none Queen)
drop_own hand Queen f none held = omega (arith, none Pawn, none Knight, none Bishop, none Rook, none Queen)
drop_own hand King f none held = absurd (omega arith)

hand-drop : (v : Variant) (hand : Hand) (c by : Colour) (P : Placement) (j : Kind) (to : ℕ) →
    (same_colour by c ≡ true → 0 < count_in hand j) →
    men_in (next_hand v hand c (record { before = P; by = by; what = Drop j to })) + cond (same_colour by c) 1 0
    ≤ men_in hand
hand-drop v hand White White P j to held =
    let h : Ply = record { before = P; by = White; what = Drop j to } in
    drop_own hand j (λ k. gain v White k h) (λ k. no_gain v White k h refl) (held refl)
hand-drop v hand Black Black P j to held =
    let h : Ply = record { before = P; by = Black; what = Drop j to } in
    drop_own hand j (λ k. gain v Black k h) (λ k. no_gain v Black k h refl) (held refl)
hand-drop v hand White Black P j to held =
    let none : (k : Kind) → gain v White k (record { before = P; by = Black; what = Drop j to }) ≡ 0 = λ k.
    no_gain v White k _ refl in
    omega (arith, none Pawn, none Knight, none Bishop, none Rook, none Queen)
hand-drop v hand Black White P j to held =
    let none : (k : Kind) → gain v Black k (record { before = P; by = White; what = Drop j to }) ≡ 0 = λ k.
    no_gain v Black k _ refl in
    omega (arith, none Pawn, none Knight, none Bishop, none Rook, none Queen)

-- what one of two colours has is what the two have
shared : (by : Colour) (n : ℕ) → cond (same_colour by White) n 0 + cond (same_colour by Black) n 0 ≡ n
shared White n = omega arith
shared Black n = omega arith

-- the origin of a plain move holds a man, and is another square than the target
pub origin : (p : Position) (a b : ℕ) (promo : Option Kind) (man : Option Man) → GoesAs p a b promo man →
    (one_if man ≡ 1) × (a ≢ b)
origin p a b promo None goes = absurd goes
origin p a b promo (Some m) goes = (refl, Reaches-differs p.men p.en_passant p.to_move m.kind a b goes.1)

-- the four squares of castling
pub record Homes (v : Variant) (c : Colour) (long : Bool) : Type 0 where
  pub king : king_home v c < 64
  pub rook : rook_home v c long < 64
  pub king_goal : king_end c long < 64
  pub rook_goal : rook_end c long < 64
  pub differ : king_home v c ≢ rook_home v c long
  pub goals_differ : king_end c long ≢ rook_end c long

pub homes : (v : Variant) (c : Colour) (long : Bool) → Homes v c long
homes v White true =
    let f = files_of v in
    record {
      king = omega (arith, f.long_rook, f.short_rook, f.most);
      rook = omega (arith, f.long_rook, f.short_rook, f.most);
      king_goal = omega arith;
      rook_goal = omega arith;
      differ = λ e. omega (arith, e, f.long_rook, f.short_rook, f.most);
      goals_differ = λ e. omega arith;
    }
homes v White false =
    let f = files_of v in
    record {
      king = omega (arith, f.long_rook, f.short_rook, f.most);
      rook = omega (arith, f.long_rook, f.short_rook, f.most);
      king_goal = omega arith;
      rook_goal = omega arith;
      differ = λ e. omega (arith, e, f.long_rook, f.short_rook, f.most);
      goals_differ = λ e. omega arith;
    }
homes v Black true =
    let f = files_of v in
    record {
      king = omega (arith, f.long_rook, f.short_rook, f.most);
      rook = omega (arith, f.long_rook, f.short_rook, f.most);
      king_goal = omega arith;
      rook_goal = omega arith;
      differ = λ e. omega (arith, e, f.long_rook, f.short_rook, f.most);
      goals_differ = λ e. omega arith;
    }
homes v Black false =
    let f = files_of v in
    record {
      king = omega (arith, f.long_rook, f.short_rook, f.most);
      rook = omega (arith, f.long_rook, f.short_rook, f.most);
      king_goal = omega arith;
      rook_goal = omega arith;
      differ = λ e. omega (arith, e, f.long_rook, f.short_rook, f.most);
      goals_differ = λ e. omega arith;
    }

held_by : (p : Position) (c : Colour) (j : Kind) → 0 < count_in (hand_of_side p p.to_move) j →
    same_colour p.to_move c ≡ true → 0 < count_in (hand_of_side p c) j
held_by p c j held same =
    let P : Colour → Type 0 = λ x. 0 < count_in (hand_of_side p x) j in subst P (same_colour-eq p.to_move c same) held

-- an allowed half-move leaves no more men than there were
pub all_men-next : (p : Position) (m : Move) → length p.men ≡ 64 → Allowed p m → all_men (next p m) ≤ all_men p
all_men-next p (Plain a b promo) size h =
    let from = origin p a b promo (man_at p.men a) h.move.goes in
    let t : ℕ = taking_square p.men a b in
    let t_in : t < length p.men = omega (arith, size, taking_square-lt p.men a b h.move.from h.move.to) in
    let a_in : a < length p.men = omega (arith, size, h.move.from) in
    let b_in : b < length p.men = omega (arith, size, h.move.to) in
    let board = men_on-plain p.men t a b (landed (man_at p.men a) promo) t_in a_in b_in
    (taking_square-differs p.men a b from.1) from.0 in
    let white = hand-plain p.variant p.white White p.to_move p.men a b promo in
    let black = hand-plain p.variant p.black Black p.to_move p.men a b promo in
    omega (arith, board, white, black, shared p.to_move (one_if (taken p.men (Plain a b promo))))
all_men-next p (Castle long) size h =
    let at = homes p.variant p.to_move long in
    let board = men_on-two_moved p.men (king_home p.variant p.to_move) (rook_home p.variant p.to_move long)
    (king_end p.to_move long) (rook_end p.to_move long)
    (omega (arith, size, at.king)) (omega (arith, size, at.rook)) (omega (arith, size, at.king_goal))
    (omega (arith, size, at.rook_goal))
    at.differ in
    let white = hand-castle p.variant p.white White p.to_move p.men long in
    let black = hand-castle p.variant p.black Black p.to_move p.men long in
    omega (arith, board, white, black)
all_men-next p (Drop j to) size h =
    let board = men_on-drop p.men to p.to_move j (omega (arith, size, h.move.square)) h.move.free in
    let white = hand-drop p.variant p.white White p.to_move p.men j to (held_by p White j h.move.held) in
    let black = hand-drop p.variant p.black Black p.to_move p.men j to (held_by p Black j h.move.held) in
    omega (arith, board, white, black, shared p.to_move 1)

-- a half-move leaves 64 squares
pub length-place_after : (v : Variant) (P : Placement) (c : Colour) (m : Move) → length (place_after v P c m) ≡ length P
length-place_after v P c (Plain a b promo) = simp length-set
length-place_after v P c (Castle long) = simp length-set
length-place_after v P c (Drop k to) = simp length-set
