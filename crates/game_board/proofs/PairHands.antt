-- A hand of a pair has room for a man that is captured on the other board: the men of a colour and kind on both boards
-- and in their hands are those of two sets.
use Rattle.std.proofs.Common.{◌≡◌, ◌≢◌, ℕ, ◌+◌, ◌*◌, ◌≤◌, ◌<◌, Bool, true, false, ◌&&◌, if◌then◌else◌, cond, List, ◌++◌, Option, Some, None, IfSome, inl, inr, refl, sym, ap, subst, ◌∙◌, arith}
use Rattle.std.proofs.lemmas.Bool.{cases_eq}
use Rattle.chess_model.specs.declared.hand.Hand.{Hand}
use Rattle.chess_model.specs.declared.man.Colour.{Colour}
use Rattle.chess_model.specs.declared.man.Colour.TheVariants.{White, Black}
use Rattle.chess_model.specs.declared.man.Kind.{Kind}
use Rattle.chess_model.specs.declared.man.Kind.TheVariants.{Pawn, Knight, Bishop, Rook, Queen, King}
use Rattle.chess_model.specs.declared.man.Man.{Man}
use Rattle.chess_model.specs.declared.moves.Move.{Move}
use Rattle.chess_model.specs.declared.variant.Variant.TheVariants.{Bughouse}
use Rattle.chess_model.specs.Allowed.{Allowed, IsLegal}
use Rattle.chess_model.specs.Census.{one_set}
use Rattle.chess_model.specs.Holdings.{same_colour, same_kind, handed_kind, count_in, hand_after, other_board}
use Rattle.chess_model.specs.MoveList.{HalfMove, taken}
use Rattle.chess_model.specs.Position.{Position, position_after, hand_of_side}
use Rattle.chess_model.proofs.Censuses.{census_kept, legal_paid}
use Rattle.chess_model.proofs.MoreMoves.{one}
use Rattle.chess_model.proofs.SoundPositions.{legal_sound}
use Rattle.game_board.proofs.Received.{came, more, hand_after-other}
use Rattle.chess_model.proofs.TestsDecide.{same_kind-self}
use Rattle.chess_model.proofs.LegalLists.{IsLegal-append}

pub most_in_two_sets : (k : Kind) → 2 * one_set k ≤ 16
most_in_two_sets Pawn = omega arith
most_in_two_sets Knight = omega arith
most_in_two_sets Bishop = omega arith
most_in_two_sets Rook = omega arith
most_in_two_sets Queen = omega arith
most_in_two_sets King = omega arith

came-own : (c : Colour) (k : Kind) → cond {A = ℕ} (same_colour c c && same_kind k k) 1 0 ≡ 1
came-own White k = ap (λ b. cond {A = ℕ} b 1 0) (same_kind-self k)
came-own Black k = ap (λ b. cond {A = ℕ} b 1 0) (same_kind-self k)

count-more : (hand : Hand) (c : Colour) (man : Option Man) (k : Kind) → k ≢ King
    → count_in (more hand c man) k ≡ count_in hand k + came c k man
count-more hand c man Pawn h = refl
count-more hand c man Knight h = refl
count-more hand c man Bishop h = refl
count-more hand c man Rook h = refl
count-more hand c man Queen h = refl
count-more hand c man King h = absurd (h refl)

few_first : (T : List HalfMove) (c : Colour) (k : Kind) → IsLegal Bughouse T
    → count_in (hand_after Bughouse T 1 c) k ≤ 16
few_first T c k legal = omega (arith, census_kept.pair T c k legal, most_in_two_sets k)

few_second : (T : List HalfMove) (c : Colour) (k : Kind) → IsLegal Bughouse T
    → count_in (hand_after Bughouse T 2 c) k ≤ 16
few_second T c k legal = omega (arith, census_kept.pair T c k legal, most_in_two_sets k)

-- a hand of either board has no more men of a kind than two sets
pub few_in_hand : (T : List HalfMove) (b : ℕ) (c : Colour) (k : Kind) → 1 ≤ b → b ≤ 2 → IsLegal Bughouse T
    → count_in (hand_after Bughouse T b c) k ≤ 16
few_in_hand T b c k low high legal = elim (cases_eq b 1) [
  | inl same ↦ subst (λ n. count_in (hand_after Bughouse T n c) k ≤ 16) (sym same) (few_first T c k legal)
  | inr differs ↦
      let second : b ≡ 2 = omega (arith, low, high, differs) in
      subst (λ n. count_in (hand_after Bughouse T n c) k ≤ 16) (sym second) (few_second T c k legal)
]

picked : (promoted : Bool) (k : Kind) → k ≢ King → (if promoted then Pawn else k) ≢ King
picked true k h = λ e. cc
picked false k h = h

-- no king is captured
pub not_king_of : (T : List HalfMove) (b : ℕ) (m : Move) (man : Man) → IsLegal Bughouse T
    → Allowed (position_after Bughouse T b) m → taken (position_after Bughouse T b).men m ≡ Some man →
    handed_kind man ≢ King
not_king_of T b m man legal allowed e =
    picked man.promoted man.kind (legal_sound.captures Bughouse T b m legal allowed man e).no_king

side_hand : (T : List HalfMove) (b : ℕ) (c : Colour)
    → hand_of_side (position_after Bughouse T b) c ≡ hand_after Bughouse T b c
side_hand T b White = refl
side_hand T b Black = refl

pub room_for : (T : List HalfMove) (b : ℕ) (m : Move) (man : Man) → 1 ≤ b → b ≤ 2 → IsLegal Bughouse T
    → Allowed (position_after Bughouse T (other_board b)) m →
    taken (position_after Bughouse T (other_board b)).men m ≡ Some man
    → count_in (hand_of_side (position_after Bughouse T b) man.colour) (handed_kind man) < 16
room_for T b m man low high legal allowed e =
    let c : Colour = man.colour in
    let k : Kind = handed_kind man in
    let grown_legal : IsLegal Bughouse (T ++ one (other_board b) m) =
    IsLegal-append Bughouse T (record { board = other_board b; what = m }) legal allowed in
    let few : count_in (hand_after Bughouse (T ++ one (other_board b) m) b c) k ≤ 16 =
    few_in_hand (T ++ one (other_board b) m) b c k low high grown_legal in
    let grown : count_in (hand_after Bughouse (T ++ one (other_board b) m) b c) k
    ≡ count_in (hand_after Bughouse T b c) k + came c k (Some man) =
    ap (λ (h : Hand). count_in h k) (hand_after-other T b m c (λ j. legal_paid Bughouse T legal b c j))
    ∙ count-more (hand_after Bughouse T b c) c (taken (position_after Bughouse T (other_board b)).men m) k
    (not_king_of T (other_board b) m man legal allowed e)
    ∙ ap (λ (o : Option Man). count_in (hand_after Bughouse T b c) k + came c k o) e in
    let same : count_in (hand_of_side (position_after Bughouse T b) c) k ≡ count_in (hand_after Bughouse T b c) k =
    ap (λ (h : Hand). count_in h k) (side_hand T b c) in
    omega (arith, few, grown, same, came-own c k)

-- and so where there is a captured man, or none
pub not_king_if : (T : List HalfMove) (b : ℕ) (m : Move) (man : Option Man) → IsLegal Bughouse T
    → Allowed (position_after Bughouse T b) m → man ≡ taken (position_after Bughouse T b).men m →
    IfSome man (λ x. handed_kind x ≢ King)
not_king_if T b m None legal allowed e = tt
not_king_if T b m (Some man) legal allowed e = not_king_of T b m man legal allowed (sym e)

pub room_if : (p : Position) (T : List HalfMove) (b : ℕ) (m : Move) (man : Option Man) → p ≡ position_after Bughouse T b
    → 1 ≤ b → b ≤ 2 → IsLegal Bughouse T →
    Allowed (position_after Bughouse T (other_board b)) m
    → man ≡ taken (position_after Bughouse T (other_board b)).men m →
    IfSome man (λ x. count_in (hand_of_side p x.colour) (handed_kind x) < 16)
room_if p T b m None is low high legal allowed e = tt
room_if p T b m (Some man) is low high legal allowed e =
    subst (λ (q : Position). count_in (hand_of_side q man.colour) (handed_kind man) < 16) (sym is)
    (room_for T b m man low high legal allowed (sym e))
