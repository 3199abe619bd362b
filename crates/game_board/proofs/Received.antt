-- The position of a board after a half-move on the other board of a pair.
use Rattle.std.proofs.Common.{◌≡◌, ◌≢◌, ℕ, ◌+◌, ◌-◌, ◌≤◌, ◌&&◌, cond, List, ◌++◌, Option, Some, None, min, refl, sym, ap, subst, ◌∙◌, arith}
use Rattle.std.proofs.lemmas.List.Sums.{sum_by_push}
use Rattle.std.specs.Prelude.{count_by}
use Rattle.chess_model.specs.declared.hand.Hand.{Hand}
use Rattle.chess_model.specs.declared.man.Colour.{Colour}
use Rattle.chess_model.specs.declared.man.Colour.TheVariants.{White, Black}
use Rattle.chess_model.specs.declared.man.Kind.{Kind}
use Rattle.chess_model.specs.declared.man.Kind.TheVariants.{Pawn, Knight, Bishop, Rook, Queen}
use Rattle.chess_model.specs.declared.man.Man.{Man}
use Rattle.chess_model.specs.declared.moves.Move.{Move}
use Rattle.chess_model.specs.declared.variant.Variant.TheVariants.{Bughouse}
use Rattle.chess_model.specs.Holdings.{same_colour, same_kind, handed_kind, hands_over, loses, drops, gained, spent, count_in, hand_of, hand_after, other_board}
use Rattle.chess_model.specs.Men.{is_held_by}
use Rattle.chess_model.specs.MoveList.{HalfMove, Ply, taken, history, place_from, side_from}
use Rattle.chess_model.specs.Placement.{array_of}
use Rattle.chess_model.specs.Position.{Position, position_after, Stands, hand_of_side}
use Rattle.chess_model.specs.RightsAndCounts.{rights_after, en_passant_after, quiet_count}
use Rattle.chess_model.proofs.MoreMoves.{one, last_ply, moves_of-other, history-other, history-same}
use Rattle.variant_rules.specs.Faces.{with_hand}
use Rattle.game_board.specs.Learn.{with_captured}

pub boards_differ : (b : ℕ) → other_board b ≢ b
boards_differ b = λ e. omega arith

-- how many men come into a hand by a half-move on the other board
abbrev pub came : Colour → Kind → Option Man → ℕ
came c k man = cond (is_held_by c man && hands_over k man) 1 0

-- what came so far
gained-other : (T : List HalfMove) (b : ℕ) (m : Move) (c : Colour) (k : Kind) →
    gained Bughouse (T ++ one (other_board b) m) b c k
    ≡ gained Bughouse T b c k + came c k (taken (position_after Bughouse T (other_board b)).men m)
gained-other T b m c k =
    rw history-same
    (sum_by_push (λ h. cond (loses c k h) 1 0) (history Bughouse T (other_board b))
    (last_ply Bughouse T (other_board b) m))

-- what was dropped
spent-other : (T : List HalfMove) (b : ℕ) (m : Move) (c : Colour) (k : Kind)
    → spent Bughouse (T ++ one (other_board b) m) b c k ≡ spent Bughouse T b c k
spent-other T b m c k =
    ap (λ (H : List Ply). count_by (drops c k) H) (history-other Bughouse T (other_board b) b m (boards_differ b))

-- the hand with what came
abbrev pub more : Hand → Colour → Option Man → Hand
more hand c man = hand_of (λ k. count_in hand k + came c k man)

pub hand_after-other : (T : List HalfMove) (b : ℕ) (m : Move) (c : Colour)
    → ((k : Kind) → spent Bughouse T b c k ≤ gained Bughouse T b c k) →
    hand_after Bughouse (T ++ one (other_board b) m) b c
    ≡ more (hand_after Bughouse T b c) c (taken (position_after Bughouse T (other_board b)).men m)
hand_after-other T b m c paid =
    let man : Option Man = taken (position_after Bughouse T (other_board b)).men m in
    let step : (k : Kind)
    → gained Bughouse (T ++ one (other_board b) m) b c k - spent Bughouse (T ++ one (other_board b) m) b c k
    ≡ gained Bughouse T b c k - spent Bughouse T b c k + came c k man =
    λ k. omega (arith, gained-other T b m c k, spent-other T b m c k, paid k) in
    λ i.
    record {
      pawns = step Pawn i;
      knights = step Knight i;
      bishops = step Bishop i;
      rooks = step Rook i;
      queens = step Queen i;
    }

-- a hand into which nothing came
same_hand : (hand : Hand) → hand_of (λ k. count_in hand k + 0) ≡ hand
same_hand hand =
    let zero : (n : ℕ) → n + 0 ≡ n = λ n. omega arith in
    λ i.
    record {
      pawns = zero hand.pawns i;
      knights = zero hand.knights i;
      bishops = zero hand.bishops i;
      rooks = zero hand.rooks i;
      queens = zero hand.queens i;
    }

white_with : (p : Position) (c : Colour) (handed : Kind) →
    hand_of (λ k. count_in p.white k + cond (same_colour c White && same_kind handed k) 1 0)
    ≡ (with_hand p c (hand_of (λ k. count_in (hand_of_side p c) k + cond (same_kind handed k) 1 0))).white
white_with p White handed = refl
white_with p Black handed = same_hand p.white

black_with : (p : Position) (c : Colour) (handed : Kind) →
    hand_of (λ k. count_in p.black k + cond (same_colour c Black && same_kind handed k) 1 0)
    ≡ (with_hand p c (hand_of (λ k. count_in (hand_of_side p c) k + cond (same_kind handed k) 1 0))).black
black_with p White handed = same_hand p.black
black_with p Black handed = refl

more-white : (p : Position) (man : Option Man) → more p.white White man ≡ (with_captured p man).white
more-white p None = same_hand p.white
more-white p (Some m) = white_with p m.colour (handed_kind m)

more-black : (p : Position) (man : Option Man) → more p.black Black man ≡ (with_captured p man).black
more-black p None = same_hand p.black
more-black p (Some m) = black_with p m.colour (handed_kind m)

-- what a man that comes leaves as it is
with_hand-same : {X : Type 0} (of : Position → X) (p : Position) (c : Colour) (hand : Hand)
    → ((h : Hand) → of (record p { white = h }) ≡ of p) → ((h : Hand) → of (record p { black = h }) ≡ of p) →
    of (with_hand p c hand) ≡ of p
with_hand-same of p White hand w b = w hand
with_hand-same of p Black hand w b = b hand

with_captured-same : {X : Type 0} (of : Position → X) (p : Position) (man : Option Man)
    → ((h : Hand) → of (record p { white = h }) ≡ of p) → ((h : Hand) → of (record p { black = h }) ≡ of p) →
    of (with_captured p man) ≡ of p
with_captured-same of p None w b = refl
with_captured-same of p (Some m) w b =
    with_hand-same of p m.colour
    (hand_of (λ j. count_in (hand_of_side p m.colour) j + cond (same_kind (handed_kind m) j) 1 0)) w b

pub with_captured-variant : (p : Position) (man : Option Man) → (with_captured p man).variant ≡ p.variant
with_captured-variant p man = with_captured-same (λ q. q.variant) p man (λ h. refl) (λ h. refl)

pub position_after-other : (T : List HalfMove) (b : ℕ) (m : Move)
    → ((c : Colour) (k : Kind) → spent Bughouse T b c k ≤ gained Bughouse T b c k) →
    with_captured (position_after Bughouse T b) (taken (position_after Bughouse T (other_board b)).men m)
    ≡ position_after Bughouse (T ++ one (other_board b) m) b
position_after-other T b m paid =
    let man : Option Man = taken (position_after Bughouse T (other_board b)).men m in
    let p : Position = position_after Bughouse T b in
    let moves = moves_of-other (other_board b) b T m (boards_differ b) in
    let played = history-other Bughouse T (other_board b) b m (boards_differ b) in
    let variant = with_captured-same (λ q. q.variant) p man (λ h. refl) (λ h. refl) in
    let men =
    with_captured-same (λ q. q.men) p man (λ h. refl) (λ h. refl)
    ∙ sym (ap (place_from Bughouse (array_of Bughouse) White) moves) in
    let to_move =
    with_captured-same (λ q. q.to_move) p man (λ h. refl) (λ h. refl) ∙ sym (ap (side_from White) moves) in
    let en_passant =
    with_captured-same (λ q. q.en_passant) p man (λ h. refl) (λ h. refl) ∙ sym (ap en_passant_after played) in
    let rights =
    with_captured-same (λ q. q.rights) p man (λ h. refl) (λ h. refl) ∙ sym (ap (rights_after Bughouse) played) in
    let quiet =
    with_captured-same (λ q. q.quiet) p man (λ h. refl) (λ h. refl)
    ∙ sym (ap (λ (H : List Ply). min (quiet_count H) 65535) played) in
    let white = sym (hand_after-other T b m White (paid White) ∙ more-white p man) in
    let black = sym (hand_after-other T b m Black (paid Black) ∙ more-black p man) in
    λ i. record {
      variant = variant i;
      men = men i;
      to_move = to_move i;
      en_passant = en_passant i;
      rights = rights i;
      quiet = quiet i;
      white = white i;
      black = black i;
    }

-- so a position that stands for a list stands, with the man that is captured, for one with a half-move on the other
-- board
pub Stands-other : (p : Position) (T : List HalfMove) (b : ℕ) (m : Move) (man : Option Man) → p.variant ≡ Bughouse
    → man ≡ taken (position_after Bughouse T (other_board b)).men m →
    Stands p T b → Stands (with_captured p man) (T ++ one (other_board b) m) b
Stands-other p T b m man variant is stands =
    let is_after : p ≡ position_after Bughouse T b = stands.same ∙ ap (λ v. position_after v T b) variant in
    let paid : (c : Colour) (k : Kind) → spent Bughouse T b c k ≤ gained Bughouse T b c k =
    λ c k. subst (λ v. spent v T b c k ≤ gained v T b c k) variant (stands.paid c k) in
    let now : with_captured p man ≡ position_after Bughouse (T ++ one (other_board b) m) b =
    ap (λ q. with_captured q man) is_after ∙ ap (with_captured (position_after Bughouse T b)) is
    ∙ position_after-other T b m paid in
    subst (λ q. Stands q (T ++ one (other_board b) m) b) (sym now)
    (record {
      same = refl;
      paid = λ c k. omega (arith, gained-other T b m c k, spent-other T b m c k, paid c k);
    })
