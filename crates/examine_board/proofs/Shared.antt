-- How many half-moves two lists have in common.
use Rattle.std.proofs.Common.{◌≡◌, ℕ, ◌+◌, ◌<◌, ◌≤◌, ◌&&◌, zero, suc, min, Bool, true, false, if◌then◌else◌, List, [], ◌∷◌, length, take, Option, Some, None, refl, sym, ap, subst, ◌∙◌, arith}
use Rattle.std.specs.Prelude.{◌==◌, slice_get, slice_index_or}
use Rattle.std.specs.Bool.{beq}
use Rattle.std.proofs.lemmas.Bool.{eqb-true, eq-eqb, and_parts, and_from}
use Rattle.std.proofs.lemmas.List.{length-take-le, take-take}
use Rattle.std.proofs.lemmas.Option.{slice_get_read}
use Rattle.chess_model.specs.declared.man.Kind.{Kind}
use Rattle.chess_model.specs.declared.moves.Move.{Move}
use Rattle.chess_model.specs.declared.moves.Move.TheVariants.{Plain, Castle, Drop}
use Rattle.chess_model.specs.Men.{same_kind}
use Rattle.clock_ledger.specs.declared.charges.Charge.{Charge}
use Rattle.game_records.specs.declared.stored_game.Half.{Half}
use Rattle.examine_board.specs.Exam.{ExamState, present}
use Rattle.examine_board.specs.Same.{Share, same_charge, same_half, same_move, same_promotion, same_stamps, shared_length}
use Rattle.examine_board.proofs.Lists.{slice_get-first}
use Rattle.chess_model.proofs.StandsAfter.{same_kind-eq}
use Rattle.chess_model.proofs.TestsDecide.{same_kind-self}
use Rattle.chess_model.proofs.Threefold.{beq-self}

-- ---- the tests find what is the same

promotion_is : (o p : Option Kind) → same_promotion o p ≡ true → o ≡ p
promotion_is None None e = refl
promotion_is (Some k) (Some l) e = ap (λ x. Some x) (same_kind-eq k l e)
promotion_is None (Some l) e = absurd cc
promotion_is (Some k) None e = absurd cc

promotion_again : (o : Option Kind) → same_promotion o o ≡ true
promotion_again None = refl
promotion_again (Some k) = same_kind-self k

castle_is : (a b : Bool) → beq a b ≡ true → a ≡ b
castle_is true true e = refl
castle_is false false e = refl
castle_is true false e = absurd cc
castle_is false true e = absurd cc

move_is : (m n : Move) → same_move m n ≡ true → m ≡ n
move_is (Plain a b promo) (Plain c d becomes) e =
    let first = and_parts (a == c && b == d) (same_promotion promo becomes) e in
    let squares = and_parts (a == c) (b == d) first.0 in
    λ i. Plain (eqb-true a c squares.0 i) (eqb-true b d squares.1 i) (promotion_is promo becomes first.1 i)
move_is (Castle long) (Castle other) e = ap (λ x. Castle x) (castle_is long other e)
move_is (Drop k a) (Drop l b) e =
    let parts = and_parts (same_kind k l) (a == b) e in
    λ i. Drop (same_kind-eq k l parts.0 i) (eqb-true a b parts.1 i)
move_is (Plain a b promo) (Castle other) e = absurd cc
move_is (Plain a b promo) (Drop l c) e = absurd cc
move_is (Castle long) (Plain c d becomes) e = absurd cc
move_is (Castle long) (Drop l b) e = absurd cc
move_is (Drop k a) (Plain c d becomes) e = absurd cc
move_is (Drop k a) (Castle other) e = absurd cc

number_again : (n : ℕ) → (n == n) ≡ true
number_again n = eq-eqb n n refl

move_again : (m : Move) → same_move m m ≡ true
move_again (Plain a b promo) =
    and_from (a == a && b == b) (same_promotion promo promo)
    (and_from (a == a) (b == b) (number_again a) (number_again b)) (promotion_again promo)
move_again (Castle long) = beq-self long
move_again (Drop k a) = and_from (same_kind k k) (a == a) (same_kind-self k) (number_again a)

stamps_are : (o p : Option (ℕ × ℕ)) → same_stamps o p ≡ true → o ≡ p
stamps_are None None e = refl
stamps_are (Some s) (Some t) e =
    let parts = and_parts (s.0 == t.0) (s.1 == t.1) e in
    λ i. Some (eqb-true s.0 t.0 parts.0 i, eqb-true s.1 t.1 parts.1 i)
stamps_are None (Some t) e = absurd cc
stamps_are (Some s) None e = absurd cc

stamps_again : (o : Option (ℕ × ℕ)) → same_stamps o o ≡ true
stamps_again None = refl
stamps_again (Some s) = and_from (s.0 == s.0) (s.1 == s.1) (number_again s.0) (number_again s.1)

charge_is : (o p : Option Charge) → same_charge o p ≡ true → o ≡ p
charge_is None None e = refl
charge_is (Some c) (Some d) e =
    let first = and_parts (c.begin == d.begin && c.end == d.end) (same_stamps c.client d.client) e in
    let moments = and_parts (c.begin == d.begin) (c.end == d.end) first.0 in
    λ i.
    Some (record {
      begin = eqb-true c.begin d.begin moments.0 i;
      end = eqb-true c.end d.end moments.1 i;
      client = stamps_are c.client d.client first.1 i;
    })
charge_is None (Some d) e = absurd cc
charge_is (Some c) None e = absurd cc

charge_again : (o : Option Charge) → same_charge o o ≡ true
charge_again None = refl
charge_again (Some c) =
    and_from (c.begin == c.begin && c.end == c.end) (same_stamps c.client c.client)
    (and_from (c.begin == c.begin) (c.end == c.end) (number_again c.begin) (number_again c.end)) (stamps_again c.client)

half_is : (g h : Half) → same_half g h ≡ true → g ≡ h
half_is g h e =
    let first = and_parts (g.board == h.board && same_move g.what h.what) (same_charge g.charge h.charge) e in
    let parts = and_parts (g.board == h.board) (same_move g.what h.what) first.0 in
    λ i.
    record {
      board = eqb-true g.board h.board parts.0 i;
      what = move_is g.what h.what parts.1 i;
      charge = charge_is g.charge h.charge first.1 i;
    }

half_again : (g : Half) → same_half g g ≡ true
half_again g =
    and_from (g.board == g.board && same_move g.what g.what) (same_charge g.charge g.charge)
    (and_from (g.board == g.board) (same_move g.what g.what) (number_again g.board) (move_again g.what))
    (charge_again g.charge)

-- ---- what two lists share

cons_share : (g h : Half) (halves others : List Half) (n : ℕ) → g ≡ h → Share halves others n
    → Share (g ∷ halves) (h ∷ others) (suc n)
cons_share g h halves others n same s = record {
  first = let low = s.first in omega (arith, low);
  second = let low = s.second in omega (arith, low);
  same = λ i. same i ∷ s.same i;
}

none_shared : (halves others : List Half) → Share halves others 0
none_shared halves others = record { first = omega arith; second = omega arith; same = refl }

pub share_is : (halves others : List Half) → Share halves others (shared_length halves others)
share_is [] others = none_shared [] others
share_is (g ∷ halves) [] = none_shared (g ∷ halves) []
share_is (g ∷ halves) (h ∷ others) =
    elim (same_half g h)
    as (λ b. same_half g h ≡ b → Share (g ∷ halves) (h ∷ others) (if b then suc (shared_length halves others) else 0)) [
      | true ↦ λ e. cons_share g h halves others (shared_length halves others) (half_is g h e) (share_is halves others)
      | false ↦ λ e. none_shared (g ∷ halves) (h ∷ others)
    ] refl

pub share_most : (halves others : List Half) (n : ℕ) → Share halves others n → n ≤ shared_length halves others
share_most halves others zero s = omega arith
share_most [] others (suc n) s = absurd (let low = s.first in omega (arith, low))
share_most (g ∷ halves) [] (suc n) s = absurd (let low = s.second in omega (arith, low))
share_most (g ∷ halves) (h ∷ others) (suc n) s =
    let first : g ≡ h = let same = s.same in cc in
    let rest : take n halves ≡ take n others = let same = s.same in cc in
    let again : same_half g h ≡ true = ap (same_half g) (sym first) ∙ half_again g in
    let more =
    share_most halves others n (record {
      first = let low = s.first in omega (arith, low);
      second = let low = s.second in omega (arith, low);
      same = rest;
    }) in
    subst (λ (b : Bool). suc n ≤ (if b then suc (shared_length halves others) else 0)) (sym again) (omega (arith, more))

-- so they share n where that is the length of one of them, or the next ones differ
pub share_whole : (halves others : List Half) (n : ℕ) → Share halves others n → n ≡ min (length halves) (length others)
    → n ≡ shared_length halves others
share_whole halves others n s all =
    let most = share_most halves others n s in
    let is = share_is halves others in
    let first = is.first in
    let second = is.second in
    omega (arith, most, first, second, all)

pub share_until : (halves others : List Half) (n : ℕ) (g h : Half) → Share halves others n → slice_get halves n ≡ Some g
    → slice_get others n ≡ Some h → same_half g h ≡ false → n ≡ shared_length halves others
share_until [] others n g h s e f differ = absurd cc
share_until (x ∷ halves) [] n g h s e f differ = absurd cc
share_until (x ∷ halves) (y ∷ others) zero g h s e f differ =
    let left : x ≡ g = cc in
    let right : y ≡ h = cc in
    let apart : same_half x y ≡ false = (λ i. same_half (left i) (right i)) ∙ differ in
    ap (λ (b : Bool). if b then suc (shared_length halves others) else 0) (sym apart)
share_until (x ∷ halves) (y ∷ others) (suc n) g h s e f differ =
    let first : x ≡ y = let same = s.same in cc in
    let rest : take n halves ≡ take n others = let same = s.same in cc in
    let again : same_half x y ≡ true = ap (same_half x) (sym first) ∙ half_again x in
    let more =
    share_until halves others n g h (record {
      first = let low = s.first in omega (arith, low);
      second = let low = s.second in omega (arith, low);
      same = rest;
    }) e f differ in
    ap suc more ∙ ap (λ (b : Bool). if b then suc (shared_length halves others) else 0) (sym again)

-- and one more where the next ones are the same
pub share_next : (halves others : List Half) (n : ℕ) (g h : Half) → Share halves others n → slice_get halves n ≡ Some g
    → slice_get others n ≡ Some h → same_half g h ≡ true → Share halves others (n + 1)
share_next [] others n g h s e f same = absurd cc
share_next (x ∷ halves) [] n g h s e f same = absurd cc
share_next (x ∷ halves) (y ∷ others) zero g h s e f same =
    let left : x ≡ g = cc in
    let right : y ≡ h = cc in
    cons_share x y halves others 0 (left ∙ half_is g h same ∙ sym right) (none_shared halves others)
share_next (x ∷ halves) (y ∷ others) (suc n) g h s e f same =
    let first : x ≡ y = let whole = s.same in cc in
    let rest : take n halves ≡ take n others = let whole = s.same in cc in
    let more =
    share_next halves others n g h (record {
      first = let low = s.first in omega (arith, low);
      second = let low = s.second in omega (arith, low);
      same = rest;
    }) e f same in
    let next : suc (n + 1) ≡ suc n + 1 = omega arith in
    subst (λ (k : ℕ). Share (x ∷ halves) (y ∷ others) k) next (cons_share x y halves others (n + 1) first more)

-- ---- what an exam shares with the stored game

take_few : {X : Type 0} (k : ℕ) (xs : List X) → length (take k xs) ≤ k
take_few zero xs = omega arith
take_few (suc k) [] = omega arith
take_few (suc k) (x ∷ xs) = let few = take_few k xs in omega (arith, few)

pub shared_low : (e : ExamState) → shared_length (present e) e.stored ≤ e.point
shared_low e =
    let is = share_is (present e) e.stored in
    let low = is.first in
    let few = take_few e.point e.list in
    omega (arith, low, few)

pub shared_within : (e : ExamState) → shared_length (present e) e.stored ≤ length e.stored
shared_within e = let is = share_is (present e) e.stored in is.second

pub shared_same : (e : ExamState)
    → take (shared_length (present e) e.stored) e.list ≡ take (shared_length (present e) e.stored) e.stored
shared_same e =
    let is = share_is (present e) e.stored in
    sym (take-take (shared_length (present e) e.stored) e.point e.list (shared_low e)) ∙ is.same

-- a half-move on the boards
present_at : (e : ExamState) (n : ℕ) (g : Half) → n < e.point → slice_get e.list n ≡ Some g
    → slice_get (present e) n ≡ Some g
present_at e n g low there = slice_get-first e.point e.list n low ∙ there

stored_at : (e : ExamState) (read : List Half) (n : ℕ) (h : Half) → read ≡ e.stored → n < length e.stored
    → h ≡ slice_index_or read n h → slice_get e.stored n ≡ Some h
stored_at e read n h are low is =
    let many = ap length are in
    ap (λ (l : List Half). slice_get l n) (sym are)
    ∙ slice_get_read read (length read) n h refl (omega (arith, many, low)) is

-- how far the two were compared
pub kept_until : (e : ExamState) (read : List Half) (n : ℕ) (g h : Half) → Share (present e) e.stored n → n < e.point
    → n < length e.stored → slice_get e.list n ≡ Some g → read ≡ e.stored
    → h ≡ slice_index_or read n h → same_half g h ≡ false → n ≡ shared_length (present e) e.stored
kept_until e read n g h s low within there are is differ =
    share_until (present e) e.stored n g h s (present_at e n g low there) (stored_at e read n h are within is) differ

pub kept_next : (e : ExamState) (read : List Half) (n : ℕ) (g h : Half) → Share (present e) e.stored n → n < e.point
    → n < length e.stored → slice_get e.list n ≡ Some g → read ≡ e.stored
    → h ≡ slice_index_or read n h → same_half g h ≡ true → Share (present e) e.stored (n + 1)
kept_next e read n g h s low within there are is same =
    share_next (present e) e.stored n g h s (present_at e n g low there) (stored_at e read n h are within is) same

pub kept_whole : (e : ExamState) (n : ℕ) → Share (present e) e.stored n → e.point ≤ length e.list
    → n ≡ min e.point (length e.stored) → n ≡ shared_length (present e) e.stored
kept_whole e n s within all =
    let many : length (present e) ≡ e.point = length-take-le e.point e.list within in
    share_whole (present e) e.stored n s (all ∙ ap (λ (k : ℕ). min k (length e.stored)) (sym many))
