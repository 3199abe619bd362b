-- No board is at an end at the start of a game: White may push the pawn on file a, whatever stands on the home ranks.
use Rattle.std.proofs.Common.{◌≡◌, ℕ, ◌+◌, ◌-◌, ◌<◌, ◌≤◌, inl, inr, Bool, true, false, ◌||◌, not, nat_le, nat_lt, List, [], ◌∷◌, length, Option, Some, None, refl, sym, ap, subst, ◌∙◌, arith}
use Rattle.std.specs.Int.{abs_diff}
use Rattle.std.specs.List.{list_all}
use Rattle.std.proofs.lemmas.Bool.{ltb-true, leb-true, cases_lt}
use Rattle.chess_model.specs.declared.man.Colour.TheVariants.{White, Black}
use Rattle.chess_model.specs.declared.man.Kind.{Kind}
use Rattle.chess_model.specs.declared.man.Kind.TheVariants.{Pawn, Knight, Bishop, Rook, Queen, King}
use Rattle.chess_model.specs.declared.man.Man.{Man}
use Rattle.chess_model.specs.declared.moves.Move.TheVariants.{Plain}
use Rattle.chess_model.specs.declared.states.State.{State}
use Rattle.chess_model.specs.declared.states.State.TheVariants.{Safe, Check, Mate, Stalemate}
use Rattle.chess_model.specs.declared.variant.Variant.{Variant}
use Rattle.chess_model.specs.declared.variant.Variant.TheVariants.{Chess, Crazyhouse, Bughouse, Fischer}
use Rattle.chess_model.specs.Allowed.{Allowed, GoesAs}
use Rattle.chess_model.specs.Attacked.{StrikesAs, IsAttacked, IsKingSafe}
use Rattle.chess_model.specs.Men.{is_held_by, is_held_as}
use Rattle.chess_model.specs.MoveList.{place_after}
use Rattle.chess_model.specs.Placement.{Placement, man_at, IsHeldBy, IsHeldAs, unpromoted, back_rank, array_from}
use Rattle.chess_model.specs.Position.{Position, position_after}
use Rattle.chess_model.specs.Reach.{IsStep, Clear, Strikes}
use Rattle.chess_model.specs.Result.{HasAnswer, IsState, is_end, result}
use Rattle.chess_model.specs.Squares.{file_of, square_at, ranks_apart, distance, toward, along}
use Rattle.chess_model.specs.Tests.{squares}
use Rattle.chess_model.proofs.Arrays.{eight, at_square, or_not-true, each_file, last_rank, first_rank}
use Rattle.chess_model.proofs.HomeRanks.{home_rank_of}
use Rattle.chess_model.proofs.StatesTold.{state_told}
use Rattle.chess_model.proofs.TestsDecide.{Decides-held_by, Decides-held_as}
use Rattle.game_records.specs.Replays.{GoesOn}
use Rattle.variant_rules.proofs.CheckLemmas.{strikes-held}

-- ---- who has an answer is at no end

no_end : (p : Position) (s : State) → IsState p s → HasAnswer p.variant p → is_end s ≡ false
no_end p Safe is answer = refl
no_end p Check is answer = refl
no_end p Mate is answer = absurd (is.1 answer)
no_end p Stalemate is answer = absurd (is.1 answer)

pub answer_goes : (p : Position) → HasAnswer p.variant p → GoesOn p
answer_goes p answer = no_end p (result p) (state_told p) answer

-- ---- nobody strikes White's home rank once the pawn has gone from a2 to a3

-- the placement after it
abbrev pushed : List Kind → Placement
pushed rank = place_after Chess (array_from rank) White (Plain 8 16 None)

-- where which men stand, whatever the home ranks are
record ArePlaced (P : Placement) : Type 0 where
  white_king : (s : ℕ) → s < 64 → IsHeldAs White King (man_at P s) → s < 8
  black : (s : ℕ) → s < 64 → IsHeldBy Black (man_at P s) → 48 ≤ s
  pawns : (file : ℕ) → file < 8 → man_at P (48 + file) ≡ unpromoted Black Pawn

abbrev king_test : Placement → ℕ → Bool
king_test P s = nat_lt s 8 || not (is_held_as White King (man_at P s))

abbrev black_test : Placement → ℕ → Bool
black_test P s = nat_le 48 s || not (is_held_by Black (man_at P s))

abbrev squares_tested : List Kind → Type 0
squares_tested rank =
    (list_all (king_test (pushed rank)) squares ≡ true) × (list_all (black_test (pushed rank)) squares ≡ true)
    × ((file : ℕ) → file < 8 → man_at (pushed rank) (48 + file) ≡ unpromoted Black Pawn)

tested : (rank : List Kind) → length rank ≡ 8 → squares_tested rank
tested rank size =
    eight squares_tested
    (λ a b c d e f g h. (
      refl,
      refl,
      each_file (λ file. man_at (pushed (a ∷ b ∷ c ∷ d ∷ e ∷ f ∷ g ∷ h ∷ [])) (48 + file) ≡ unpromoted Black Pawn)
          refl refl refl refl refl refl refl refl,
    )) rank size

are_placed : (rank : List Kind) → length rank ≡ 8 → ArePlaced (pushed rank)
are_placed rank size =
    let P : Placement = pushed rank in
    let t = tested rank size in
    record {
      white_king = λ s less held.
          ltb-true s 8
          (or_not-true (nat_lt s 8) (is_held_as White King (man_at P s)) (at_square (king_test P) t.0 s less)
          ((Decides-held_as White King (man_at P s)).1 held));
      black = λ s less held.
          leb-true 48 s (or_not-true (nat_le 48 s) (is_held_by Black (man_at P s)) (at_square (black_test P) t.1 s less)
          ((Decides-held_by Black (man_at P s)).1 held));
      pawns = t.2;
    }

seven_apart : (a s : ℕ) → 56 ≤ a → a < 64 → s < 8 → ranks_apart a s ≡ 7
seven_apart a s h l m = (λ i. abs_diff (last_rank a h l i) (first_rank s m i))

-- the square next to a last-rank square toward the first rank stands on the seventh rank
next_file : (a s : ℕ) → s < 8 → toward (file_of a) (file_of s) 1 < 8
next_file a s h = omega arith

next_square : (a s : ℕ) → 56 ≤ a → a < 64 → s < 8 → along a s 1 ≡ 48 + toward (file_of a) (file_of s) 1
next_square a s h l m =
    (λ i. square_at (toward (file_of a) (file_of s) 1) (toward (last_rank a h l i) (first_rank s m i) 1))

blocked : (P : Placement) → ArePlaced P → (a s : ℕ) → 56 ≤ a → a < 64 → s < 8 → ¬ Clear P a s
blocked P placed a s h l m clear =
    let far : 1 < distance a s = omega (arith, seven_apart a s h l m) in
    let free : man_at P (along a s 1) ≡ None = clear.empty 1 (omega arith) far in
    let pawn : man_at P (48 + toward (file_of a) (file_of s) 1) ≡ unpromoted Black Pawn =
    placed.pawns (toward (file_of a) (file_of s) 1) (next_file a s m) in
    let both : None ≡ unpromoted Black Pawn = sym free ∙ ap (man_at P) (next_square a s h l m) ∙ pawn in
    cc

from_home : (P : Placement) → ArePlaced P → (k : Kind) (a s : ℕ) → 56 ≤ a → a < 64 → s < 8 → ¬ Strikes P Black k a s
unfolding IsStep
from_home P placed Pawn a s h l m strikes = omega (arith, strikes.step.1, last_rank a h l, first_rank s m)
from_home P placed Knight a s h l m strikes = elim (strikes.step) [
  | inl wide ↦ omega (arith, wide.1, seven_apart a s h l m)
  | inr high ↦ omega (arith, high.1, seven_apart a s h l m)
]
from_home P placed King a s h l m strikes = omega (arith, strikes.step, seven_apart a s h l m)
from_home P placed Bishop a s h l m strikes = blocked P placed a s h l m strikes.open_way
from_home P placed Rook a s h l m strikes = blocked P placed a s h l m strikes.open_way
from_home P placed Queen a s h l m strikes = blocked P placed a s h l m strikes.open_way

from_pawns : (P : Placement) (a s : ℕ) → 48 ≤ a → a < 56 → s < 8 → ¬ Strikes P Black Pawn a s
unfolding IsStep
from_pawns P a s h l m strikes = omega (arith, strikes.step.1)

pawn_on : (P : Placement) → ArePlaced P → (a : ℕ) → 48 ≤ a → a < 56 → man_at P a ≡ unpromoted Black Pawn
pawn_on P placed a h l =
    let behind : 48 + (a - 48) ≡ a = omega arith in
    ap (man_at P) (sym behind) ∙ placed.pawns (a - 48) (omega arith)

struck_by : (P : Placement) → ArePlaced P → (a s : ℕ) → 56 ≤ a → a < 64 → s < 8 → (man : Option Man)
    → ¬ StrikesAs P Black a s man
struck_by P placed a s h l m None strikes = strikes
struck_by P placed a s h l m (Some x) strikes = from_home P placed x.kind a s h l m strikes.1

no_attack : (P : Placement) → ArePlaced P → (a s : ℕ) → a < 64 → s < 8 → ¬ StrikesAs P Black a s (man_at P a)
no_attack P placed a s h m strikes = elim (cases_lt a 56) [
  | inl ahead ↦
      let low : 48 ≤ a = placed.black a h (strikes-held P Black a s (man_at P a) strikes) in
      let pawn : StrikesAs P Black a s (unpromoted Black Pawn) =
      subst (StrikesAs P Black a s) (pawn_on P placed a low ahead) strikes in
      from_pawns P a s low ahead m pawn.1
  | inr home ↦ struck_by P placed a s home h m (man_at P a) strikes
]

safe_pushed : (rank : List Kind) → length rank ≡ 8 → IsKingSafe (pushed rank) White
unfolding IsAttacked
safe_pushed rank size =
    let placed = are_placed rank size in
    record {
      safe = λ s less check.
          no_attack (pushed rank) placed check.1.0 s check.1.1 (placed.white_king s less check.0) check.1.2;
    }

-- ---- so the push is allowed

pawn_home : (rank : List Kind) → length rank ≡ 8 → man_at (array_from rank) 8 ≡ unpromoted White Pawn
pawn_home rank size = eight (λ ks. man_at (array_from ks) 8 ≡ unpromoted White Pawn) (λ a b c d e f g h. refl) rank size

pawn_way : (rank : List Kind) → length rank ≡ 8 → man_at (array_from rank) 16 ≡ None
pawn_way rank size = eight (λ ks. man_at (array_from ks) 16 ≡ None) (λ a b c d e f g h. refl) rank size

push_allowed : (v : Variant) (n : ℕ) → Allowed (position_after v [] n) (Plain 8 16 None)
push_allowed v n =
    let size = (home_rank_of v).eight in
    let p : Position = position_after v [] n in
    let goes : GoesAs p 8 16 None (unpromoted White Pawn) = (
      refl,
      inl (record {
        file = refl;
        ahead = inl refl;
        way = record { empty = λ k some less. absurd (omega (arith, some, less)) };
        free = pawn_way (back_rank v) size;
      }),
      inr ((λ e. omega (arith, e)), refl),
    ) in
    record {
      move =
          record {
            from = omega arith;
            to = omega arith;
            goes = subst (GoesAs p 8 16 None) (sym (pawn_home (back_rank v) size)) goes;
          };
      safe = safe_pushed (back_rank v) size;
    }

has_push : (v : Variant) (n : ℕ) → HasAnswer v (position_after v [] n)
has_push Chess n = (Plain 8 16 None, push_allowed Chess n)
has_push Crazyhouse n = (Plain 8 16 None, push_allowed Crazyhouse n)
has_push (Fischer number) n = (Plain 8 16 None, push_allowed (Fischer number) n)
has_push Bughouse n = inl (Plain 8 16 None, tt, push_allowed Bughouse n)

pub start_goes : (v : Variant) (n : ℕ) → GoesOn (position_after v [] n)
start_goes v n = answer_goes (position_after v [] n) (has_push v n)
