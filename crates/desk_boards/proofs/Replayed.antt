-- Half-moves are played again exactly where they can be played, and the boards have these and no others.
use Rattle.std.proofs.Common.{◌≡◌, ℕ, ◌-◌, ◌≤◌, ◌<◌, ◌&&◌, zero, suc, Bool, true, false, not, nat_lt, if◌then◌else◌, List, [], ◌∷◌, ◌++◌, length, length-append, All, Option, Some, None, ◌⊎◌, inl, inr, refl, sym, ap, subst, ◌∙◌, append_assoc, arith}
use Rattle.std.specs.Prelude.{◌↔◌, IsSome, IsTrue, IfSome, is_some, option_and_then, slice_get}
use Rattle.std.specs.Bool.{beq}
use Rattle.std.specs.List.{AllByRecursion}
use Rattle.std.proofs.lemmas.Bool.Decides.{Decides-ltb}
use Rattle.std.proofs.lemmas.List.{append-nil}
use Rattle.chess_model.specs.declared.variant.Terms.{Terms}
use Rattle.chess_model.specs.declared.variant.Variant.{Variant}
use Rattle.chess_model.specs.declared.variant.Variant.TheVariants.{Bughouse}
use Rattle.chess_model.specs.Allowed.{Allowed}
use Rattle.chess_model.specs.Position.{Position}
use Rattle.chess_model.specs.Result.{result, is_end}
use Rattle.chess_model.specs.Tests.{is_allowed}
use Rattle.chess_model.proofs.TestsDecide.{Decides-allowed}
use Rattle.clock_ledger.specs.declared.charges.Charge.{Charge}
use Rattle.clock_ledger.specs.Charges.{IsChargeable}
use Rattle.game_board.specs.declared.played.Played.{Played}
use Rattle.game_board.specs.Board.{Board, has_moved, position_of, to_move}
use Rattle.game_board.specs.Charges.{is_timed}
use Rattle.game_board.specs.Learn.{learnt}
use Rattle.game_board.specs.Put.{next_is_charged, takes_played, with_put}
use Rattle.game_board.specs.Scoresheet.{IsTrueScore}
use Rattle.game_board.proofs.ScorePut.{IsTrueScore-with_put}
use Rattle.game_board.proofs.Scoresheet.{has_moved-mover}
use Rattle.game_board.proofs.Takes.{takes_played-parts}
use Rattle.game_records.specs.declared.stored_game.Half.{Half}
use Rattle.game_records.specs.Bounds as bounds
use Rattle.game_records.specs.Bounds.{IsCharge, IsHalf}
use Rattle.game_records.specs.Replays.{AreTimed, CanBePlayed, GoesOn, MayCome, OtherGoesOn, without_charges, made_on, position_on}
use Rattle.fics_words.specs.Boards.{board_number, numbered_board, other_number, board_place}
use Rattle.desk_boards.specs.Boards.{board_numbers, changed_at, new_boards}
use Rattle.fics_words.specs.declared.board_number.BoardNumber.{BoardNumber}
use Rattle.fics_words.specs.declared.board_number.BoardNumber.TheVariants.{First, Second}
use Rattle.desk_boards.specs.Halves.{halves_of, played_of}
use Rattle.desk_boards.specs.Laws.{IsFreshlyPut}
use Rattle.desk_boards.specs.Replaying.{boards_put, boards_with, goes_on, other_goes_on, own_takes, played_on, replayed, takes_half}
use Rattle.desk_boards.specs.Sound.{AreSoundBoards}
use Rattle.desk_boards.proofs.BoardLists.{All-at, All-changed_at}
use Rattle.desk_boards.proofs.Halved.{half_on}
use Rattle.desk_boards.proofs.OneMore.{IsOneMore, made_is, position_is, timed_is}
use Rattle.desk_boards.proofs.Pairs.{never_three, number_at, number_is, number_of-numbered, numbers_of_two}
use Rattle.desk_boards.proofs.SoundHalves.{all_of, never_none, number_of_one}
use Rattle.desk_boards.proofs.StaySound.{All-from, halves_of-from, sound_start}
use Rattle.desk_boards.proofs.Stepped.{AreSoundWith, sound_step}
use Rattle.std.proofs.lemmas.Bool.{and_parts, false≢true}

-- ---- tests and what they say

going_is : (p : Position) → not (is_end (result p)) ≡ true → GoesOn p
going_is p e = negated (is_end (result p)) e
  where
    negated : (b : Bool) → not b ≡ true → b ≡ false
    negated true h = cc
    negated false h = refl

going_says : (p : Position) → GoesOn p → not (is_end (result p)) ≡ true
going_says p e = ap not e

four_true : (a b c d : Bool) → a ≡ true → b ≡ true → c ≡ true → d ≡ true → (a && b && c && d) ≡ true
four_true true true true true h i j k = refl
four_true true true true false h i j k = cc
four_true true true false d h i j k = cc
four_true true false c d h i j k = cc
four_true false b c d h i j k = cc

pub chargeable : (o : Option Charge) → IsCharge o → IfSome o IsChargeable
chargeable None h = tt
chargeable (Some c) h = h

-- ---- one half-move

others_go : (o : Option Board) → other_goes_on o ≡ true → (other : Board) → o ≡ Some other → GoesOn (position_of other)
others_go None e other there = cc
others_go (Some b) e other there =
    let same : b ≡ other = cc in
    subst (λ (x : Board). GoesOn (position_of x)) same (going_is (position_of b) e)

put_more : (own : Board) (p : Played) → IsTrueScore own → IsTrue (takes_played own p) → IsCharge p.charge
    → IsOneMore own p (with_put own p)
put_more own p score takes charge =
    let parts = takes_played-parts own p takes in
    record {
      number = refl;
      terms = refl;
      list = refl;
      all = refl;
      score = IsTrueScore-with_put own p score takes (chargeable p.charge charge);
      few = let room = parts.room in omega (arith, room);
      going = going_is (position_of own) parts.going;
      allowed = parts.allowed;
      charge = charge;
    }

fresh_put : (moment : ℕ) (b : Board) (p : Played) → IsFreshlyPut moment b → IsFreshlyPut moment (with_put b p)
fresh_put moment b p f =
    let many = length-append b.list (p ∷ []) in
    let played = f.played in
    record {
      begin = f.begin;
      kept = refl;
      played = omega (arith, many, played);
      resumed = omega (arith, many);
    }

-- boards that are sound and have these half-moves, and are new but for them
record AreAt (t : Terms) (moment : ℕ) (halves : List Half) (boards : List Board) : Type 0 where
  known : AreSoundWith t halves boards
  fresh : All (IsFreshlyPut moment) boards

-- what a board keeps where the other one learns
fresh_learnt : (moment : ℕ) (boards : List Board) (board : BoardNumber) (p : Played) → All (IsFreshlyPut moment) boards
    → All (IsFreshlyPut moment) (boards_put boards board p)
fresh_learnt moment boards board p f =
    All-changed_at (IsFreshlyPut moment) (changed_at boards (board_place board) (λ b. with_put b p))
    (board_place (other_number board))
    (λ b. learnt b p.what)
    (λ b there h. record { begin = h.begin; kept = h.kept; played = h.played; resumed = h.resumed })
    (All-changed_at (IsFreshlyPut moment) boards (board_place board) (λ b. with_put b p)
    (λ b there h. fresh_put moment b p h) f)

step_at : (t : Terms) (moment : ℕ) (boards : List Board) (before : List Half) (board : BoardNumber) (n : ℕ)
    (own : Board) (p : Played)
    → AreAt t moment before boards →
    slice_get boards (board_place board) ≡ Some own → board_number board ≡ n → IsTrue (takes_played own p)
    → IsCharge p.charge →
    other_goes_on (slice_get boards (board_place (other_number board))) ≡ true
    → AreAt t moment (before ++ half_on n p ∷ []) (boards_put boards board p)
step_at t moment boards before board n own p at there number takes charge others =
    let s : AreSoundBoards t boards = at.known.sound in
    let is : own.number ≡ n =
    number_is t.variant board own.number (number_at t.variant boards (board_place board) own s.numbers there)
    ∙ number in
    let more = put_more own p (All-at IsTrueScore boards (board_place board) own s.scores there) takes charge in
    let step =
    sound_step t boards board own p (λ b. with_put b p) s there more
    (others_go (slice_get boards (board_place (other_number board))) others) in
    let halves : halves_of boards ++ half_on own.number p ∷ [] ≡ before ++ half_on n p ∷ [] =
    (λ i. at.known.made i ++ half_on (is i) p ∷ []) in
    record {
      known = subst (λ (hs : List Half). AreSoundWith t hs (boards_put boards board p)) halves step;
      fresh = fresh_learnt moment boards board p at.fresh;
    }

-- a half-move that the boards take comes behind the others
step_taken : (t : Terms) (moment : ℕ) (boards : List Board) (before : List Half) (n : ℕ) (board : BoardNumber)
    (p : Played)
    → AreAt t moment before boards → IsCharge p.charge →
    numbered_board n ≡ Some board → takes_half boards board p ≡ true
    → AreAt t moment (before ++ half_on n p ∷ []) (boards_put boards board p)
step_taken t moment boards before n board p at charge is e =
    on_board (slice_get boards (board_place board)) refl
    (and_parts (own_takes (slice_get boards (board_place board)) p)
    (other_goes_on (slice_get boards (board_place (other_number board)))) e)
  where
    on_board : (o : Option Board) → slice_get boards (board_place board) ≡ o →
        (own_takes (slice_get boards (board_place board)) p ≡ true)
        × (other_goes_on (slice_get boards (board_place (other_number board))) ≡ true) →
        AreAt t moment (before ++ half_on n p ∷ []) (boards_put boards board p)
    on_board None there h =
        absurd (let none : own_takes None p ≡ true = ap (λ (o : Option Board). own_takes o p) (sym there) ∙ h.0 in cc)
    on_board (Some own) there h =
        step_at t moment boards before board n own p at there (number_of-numbered n board is)
        (ap (λ (o : Option Board). own_takes o p) (sym there) ∙ h.0) charge h.1

-- ---- the whole list

-- the boards after the half-moves of a record from one on whose board has this number, if one has it
abbrev from_one : List Board → Half → List Half → Option BoardNumber → Option (List Board)
from_one boards h halves board =
    option_and_then (λ after. played_on after halves) (option_and_then (boards_with boards (played_of h)) board)

-- and if it takes it
abbrev from_taken : List Board → Half → List Half → BoardNumber → Bool → Option (List Board)
from_taken boards h halves board takes =
    option_and_then (λ after. played_on after halves)
    (if takes then Some (boards_put boards board (played_of h)) else None)

run : (t : Terms) (moment : ℕ) (before halves : List Half) (boards after : List Board) → AreAt t moment before boards
    → AllByRecursion (IsHalf t.variant) halves →
    played_on boards halves ≡ Some after → AreAt t moment (before ++ halves) after
run t moment before [] boards after at each e =
    let same : boards ≡ after = cc in
    subst (λ (bs : List Board). AreAt t moment (before ++ []) bs) same
    (subst (λ (hs : List Half). AreAt t moment hs boards) (sym (append-nil before)) at)
run t moment before (h ∷ halves) boards after at each e =
    elim (numbered_board h.board)
    as (λ o.
    numbered_board h.board ≡ o → from_one boards h halves o ≡ Some after
    → AreAt t moment (before ++ h ∷ halves) after) [
      | None ↦ λ is f. absurd cc
      | Some board ↦ λ is f.
          elim (takes_half boards board (played_of h))
          as (λ b. takes_half boards board (played_of h) ≡ b → from_taken boards h halves board b ≡ Some after →
          AreAt t moment (before ++ h ∷ halves) after) [
            | true ↦ λ takes g.
                subst (λ (hs : List Half). AreAt t moment hs after) (append_assoc before (h ∷ []) halves)
                (run t moment (before ++ h ∷ []) halves (boards_put boards board (played_of h)) after
                (step_taken t moment boards before h.board board (played_of h) at each.0.charge is takes) each.1 g)
            | false ↦ λ takes g. absurd cc
          ] refl f
    ] refl e

begun : (t : Terms) (moment : ℕ) → AreAt t moment [] (new_boards t moment)
begun t moment = record {
  known = record { sound = sound_start t moment; made = halves_of-from (board_numbers t.variant) t moment };
  fresh =
      All-from (IsFreshlyPut moment) (board_numbers t.variant) t moment
      (λ n. record { begin = refl; kept = refl; played = refl; resumed = refl });
}

pub replayed_at : (t : Terms) (halves : List Half) (moment : ℕ) (boards : List Board)
    → AllByRecursion (IsHalf t.variant) halves → replayed t halves moment ≡ Some boards →
    AreSoundWith t halves boards
replayed_at t halves moment boards each e =
    (run t moment [] halves (new_boards t moment) boards (begun t moment) each e).known

pub replayed_fresh : (t : Terms) (halves : List Half) (moment : ℕ) (boards : List Board)
    → AllByRecursion (IsHalf t.variant) halves → replayed t halves moment ≡ Some boards →
    All (IsFreshlyPut moment) boards
replayed_fresh t halves moment boards each e =
    (run t moment [] halves (new_boards t moment) boards (begun t moment) each e).fresh

-- ---- what can be played is taken

charge_stands : (some timed moved : Bool) (long : Type 0) (clocks : Type 0) → (IsTrue some ↔ (clocks × long))
    → (IsTrue timed ↔ clocks) → (IsTrue moved ↔ long) → beq some (timed && moved) ≡ true
charge_stands true true true long clocks h i j = refl
charge_stands true true false long clocks h i j = absurd (false≢true (j.1 (h.0 refl).1))
charge_stands true false moved long clocks h i j = absurd (false≢true (i.1 (h.0 refl).0))
charge_stands false true true long clocks h i j = absurd (false≢true (h.1 (i.0 refl, j.0 refl)))
charge_stands false true false long clocks h i j = refl
charge_stands false false moved long clocks h i j = refl

own_may : (t : Terms) (own : Board) (before : List Half) (h : Half) → IsTrueScore own → own.played ≡ length own.list
    → own.terms ≡ t → without_charges before ≡ own.all → own.number ≡ h.board →
    MayCome t before h → takes_played own (played_of h) ≡ true
unfolding takes_played
own_may t own before h score played terms all number comes =
    let there : position_on t.variant before h.board ≡ position_of own =
    ap (position_on t.variant before) (sym number) ∙ position_is t before own terms all in
    let made : made_on before h.board ≡ length own.list =
    ap (made_on before) (sym number) ∙ made_is before own score all in
    let follows = comes.follows in
    let room : own.played < 1200 = let few = follows.room in omega (arith, few, made, played) in
    let timed : IsTrue (is_timed own.terms) ↔ AreTimed t =
    subst (λ (x : Terms). IsTrue (is_timed x) ↔ AreTimed t) (sym terms) (timed_is t) in
    let charged : IsSome h.charge ↔ (AreTimed t × (2 ≤ length own.list)) =
    subst (λ (k : ℕ). IsSome h.charge ↔ (AreTimed t × (2 ≤ k))) made follows.charged in
    four_true (not (is_end (result (position_of own)))) (nat_lt own.played 1200) (is_allowed (position_of own) h.what)
    (beq (is_some h.charge) (next_is_charged own))
    (going_says (position_of own) (subst GoesOn there follows.going))
    ((Decides-ltb own.played 1200).1 room)
    ((Decides-allowed (position_of own) h.what).1 (subst (λ (q : Position). Allowed q h.what) there follows.allowed))
    (charge_stands (is_some h.charge) (is_timed own.terms) (has_moved (to_move own) own.list) (2 ≤ length own.list)
    (AreTimed t) charged timed (has_moved-mover own.list))

other_pair : (t : Terms) (before : List Half) (n : ℕ) (c : Board) → t.variant ≡ Bughouse → 3 - n ≡ c.number
    → c.terms ≡ t → without_charges before ≡ c.all →
    OtherGoesOn t.variant before n → goes_on c ≡ true
other_pair t before n c pair number terms all goes =
    let there : position_on t.variant before c.number ≡ position_of c = position_is t before c terms all in
    let here : GoesOn (position_on Bughouse before (3 - n)) =
    subst (λ (v : Variant). OtherGoesOn v before n) pair goes in
    let at : position_on Bughouse before (3 - n) ≡ position_of c =
    (λ i. position_on (sym pair i) before (number i)) ∙ there in
    going_says (position_of c) (subst GoesOn at here)

-- a half-move that may come is taken
may_take : (t : Terms) (moment : ℕ) (boards : List Board) (before : List Half) (h : Half) → AreAt t moment before boards
    → IsHalf t.variant h → MayCome t before h →
    (board : BoardNumber) × (numbered_board h.board ≡ Some board) × (takes_half boards board (played_of h) ≡ true)
may_take t moment [] before h at half comes = absurd (never_none t.variant at.known.sound.numbers)
may_take t moment (b ∷ []) before h at half comes =
    let s = at.known.sound in
    let one = number_of_one t.variant b s.numbers in
    let number : h.board ≡ 1 =
    let first = half.first in let last = half.last in let boards = one.2 in omega (arith, first, last, boards) in
    let P : Board → Type 0 = λ x. without_charges (halves_of (b ∷ [])) ≡ x.all in
    let all : without_charges before ≡ b.all =
    ap without_charges (sym at.known.made) ∙ All-at P (b ∷ []) 0 b (all_of t (b ∷ []) s) refl in
    let fresh = All-at (IsFreshlyPut moment) (b ∷ []) 0 b at.fresh refl in
    let own =
    own_may t b before h (All-at IsTrueScore (b ∷ []) 0 b s.scores refl) fresh.played
    (All-at (λ (x : Board). x.terms ≡ t) (b ∷ []) 0 b s.terms refl) all (one.1 ∙ sym number) comes in
    (First, ap numbered_board number, ap (λ (t : Bool). t && true) own)
may_take t moment (b ∷ c ∷ []) before h at half comes =
    let s = at.known.sound in
    let two = numbers_of_two t.variant b c s.numbers in
    let many : bounds.boards t.variant ≡ 2 = ap bounds.boards two.0 in
    let P : Board → Type 0 = λ x. without_charges (halves_of (b ∷ c ∷ [])) ≡ x.all in
    let all_b : without_charges before ≡ b.all =
    ap without_charges (sym at.known.made) ∙ All-at P (b ∷ c ∷ []) 0 b (all_of t (b ∷ c ∷ []) s) refl in
    let all_c : without_charges before ≡ c.all =
    ap without_charges (sym at.known.made) ∙ All-at P (b ∷ c ∷ []) 1 c (all_of t (b ∷ c ∷ []) s) refl in
    let terms_b = All-at (λ (x : Board). x.terms ≡ t) (b ∷ c ∷ []) 0 b s.terms refl in
    let terms_c = All-at (λ (x : Board). x.terms ≡ t) (b ∷ c ∷ []) 1 c s.terms refl in
    elim (of_two h.board half.first (let last = half.last in omega (arith, last, many))) [
      | inl first ↦
          let own =
          own_may t b before h (All-at IsTrueScore (b ∷ c ∷ []) 0 b s.scores refl)
          (All-at (IsFreshlyPut moment) (b ∷ c ∷ []) 0 b at.fresh refl).played terms_b all_b (two.1 ∙ sym first)
          comes in
          let other = other_pair t before h.board c two.0 (omega (arith, first, two.2)) terms_c all_c comes.other in
          (First, ap numbered_board first, λ i. own i && other i)
      | inr second ↦
          let own =
          own_may t c before h (All-at IsTrueScore (b ∷ c ∷ []) 1 c s.scores refl)
          (All-at (IsFreshlyPut moment) (b ∷ c ∷ []) 1 c at.fresh refl).played terms_c all_c (two.2 ∙ sym second)
          comes in
          let other = other_pair t before h.board b two.0 (omega (arith, second, two.1)) terms_b all_b comes.other in
          (Second, ap numbered_board second, λ i. own i && other i)
    ]
  where
    of_two : (n : ℕ) → 1 ≤ n → n ≤ 2 → (n ≡ 1) ⊎ (n ≡ 2)
    of_two zero low high = absurd (omega (arith, low))
    of_two (suc zero) low high = inl refl
    of_two (suc (suc zero)) low high = inr refl
    of_two (suc (suc (suc n))) low high = absurd (omega (arith, high))
may_take t moment (b ∷ c ∷ d ∷ more) before h at half comes =
    absurd (never_three t.variant b c d more at.known.sound.numbers)

takes_each : (t : Terms) (moment : ℕ) (before halves : List Half) (boards : List Board) → AreAt t moment before boards
    → AllByRecursion (IsHalf t.variant) halves → CanBePlayed t (before ++ halves) →
    IsSome (played_on boards halves)
takes_each t moment before [] boards at each played = refl
takes_each t moment before (h ∷ halves) boards at each played =
    let comes : MayCome t before h = played.each before halves h refl in
    let may = may_take t moment boards before h at each.0 comes in
    let rest : IsSome (played_on (boards_put boards may.0 (played_of h)) halves) =
    takes_each t moment (before ++ h ∷ []) halves (boards_put boards may.0 (played_of h))
    (step_taken t moment boards before h.board may.0 (played_of h) at each.0.charge may.1 may.2) each.1
    (subst (CanBePlayed t) (sym (append_assoc before (h ∷ []) halves)) played) in
    subst (λ (o : Option BoardNumber). IsSome (from_one boards h halves o)) (sym may.1)
    (subst (λ (b : Bool). IsSome (from_taken boards h halves may.0 b)) (sym may.2) rest)

pub some_is : {X : Type 0} (o : Option X) → IsSome o → (x : X) × (o ≡ Some x)
some_is None e = absurd cc
some_is (Some x) e = (x, refl)

pub replayed_exactly : (t : Terms) (halves : List Half) (moment : ℕ) → AllByRecursion (IsHalf t.variant) halves
    → IsSome (replayed t halves moment) ↔ CanBePlayed t halves
replayed_exactly t halves moment each = (
  λ some.
      let found = some_is (replayed t halves moment) some in
      let at = replayed_at t halves moment found.0 each found.1 in
      subst (CanBePlayed t) at.made at.sound.played,
  λ played. takes_each t moment [] halves (new_boards t moment) (begun t moment) each played,
)
