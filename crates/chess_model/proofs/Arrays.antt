-- The placement of the start, square by square, and that its kings are safe.
use Rattle.std.proofs.Common.{arith, ◌≡◌, ℕ, zero, suc, ◌+◌, ◌-◌, ◌<◌, ◌≤◌, inl, inr, Bool, true, false, ◌||◌, not, nat_lt, nat_le, cond, List, [], ◌∷◌, length, get_or, map, ◌++◌, replicate, unwrap_or, refl, sym, ap, subst, ◌∙◌, Option, Some, None}
use Rattle.std.specs.Int.{abs_diff}
use Rattle.std.specs.List.{list_all, count_by}
use Rattle.std.proofs.lemmas.Bool.{ltb-true, leb-true, cases_lt}
use Rattle.chess_model.specs.declared.man.Colour.{Colour}
use Rattle.chess_model.specs.declared.man.Colour.TheVariants.{White, Black}
use Rattle.chess_model.specs.declared.man.Kind.{Kind}
use Rattle.chess_model.specs.declared.man.Kind.TheVariants.{Pawn, Knight, Bishop, Rook, Queen, King}
use Rattle.chess_model.specs.declared.man.Man.{Man}
use Rattle.chess_model.specs.declared.variant.Variant.{Variant}
use Rattle.chess_model.specs.Squares.{file_of, rank_of, square_at, ranks_apart, distance, toward, along}
use Rattle.chess_model.specs.Men.{same_kind, is_held_by, is_held_as}
use Rattle.chess_model.specs.FischerArrays.{Files, count_on}
use Rattle.chess_model.specs.Placement.{Placement, man_at, IsHeldBy, IsHeldAs, unpromoted, home_rank, back_rank, array_from, array_of, king_file, rook_file, king_home, rook_home}
use Rattle.chess_model.specs.Census.{men_on, men_of, one_set}
use Rattle.chess_model.specs.Reach.{IsStep, Clear, Strikes}
use Rattle.chess_model.specs.Attacked.{StrikesAs, IsAttacked, IsKingSafe}
use Rattle.chess_model.specs.Tests.{squares}
use Rattle.chess_model.proofs.Among.{list_all-each, Among-range}
use Rattle.chess_model.proofs.TestsDecide.{Decides-held_by, Decides-held_as}
use Rattle.chess_model.proofs.HomeRanks.{kind_on, home_rank_of, files_of, on_home_rank}

-- what holds of any eight kinds holds of a rank of eight
pub eight : (P : List Kind → Type 0) → ((a b c d e f g h : Kind) → P (a ∷ b ∷ c ∷ d ∷ e ∷ f ∷ g ∷ h ∷ [])) →
    (rank : List Kind) → length rank ≡ 8 → P rank
eight P all [] n = absurd (omega (arith, n))
eight P all (a ∷ []) n = absurd (omega (arith, n))
eight P all (a ∷ b ∷ []) n = absurd (omega (arith, n))
eight P all (a ∷ b ∷ c ∷ []) n = absurd (omega (arith, n))
eight P all (a ∷ b ∷ c ∷ d ∷ []) n = absurd (omega (arith, n))
eight P all (a ∷ b ∷ c ∷ d ∷ e ∷ []) n = absurd (omega (arith, n))
eight P all (a ∷ b ∷ c ∷ d ∷ e ∷ f ∷ []) n = absurd (omega (arith, n))
eight P all (a ∷ b ∷ c ∷ d ∷ e ∷ f ∷ g ∷ []) n = absurd (omega (arith, n))
eight P all (a ∷ b ∷ c ∷ d ∷ e ∷ f ∷ g ∷ h ∷ []) n = all a b c d e f g h
eight P all (a ∷ b ∷ c ∷ d ∷ e ∷ f ∷ g ∷ h ∷ i ∷ more) n = absurd (omega (arith, n))

-- what holds of 0 to 7 holds of each file
pub each_file : (P : ℕ → Type 0) → P 0 → P 1 → P 2 → P 3 → P 4 → P 5 → P 6 → P 7 → (file : ℕ) → file < 8 → P file
each_file P a b c d e f g h zero n = a
each_file P a b c d e f g h (suc zero) n = b
each_file P a b c d e f g h (suc (suc zero)) n = c
each_file P a b c d e f g h (suc (suc (suc zero))) n = d
each_file P a b c d e f g h (suc (suc (suc (suc zero)))) n = e
each_file P a b c d e f g h (suc (suc (suc (suc (suc zero))))) n = f
each_file P a b c d e f g h (suc (suc (suc (suc (suc (suc zero)))))) n = g
each_file P a b c d e f g h (suc (suc (suc (suc (suc (suc (suc zero))))))) n = h
each_file P a b c d e f g h (suc (suc (suc (suc (suc (suc (suc (suc more)))))))) n = absurd (omega (arith, n))

pub length-array : (v : Variant) → length (array_of v) ≡ 64
length-array v =
    eight (λ rank. length (array_from rank) ≡ 64) (λ a b c d e f g h. refl) (back_rank v) (home_rank_of v).eight

pub men_at_start : (v : Variant) → men_on (array_of v) ≡ 32
men_at_start v =
    eight (λ rank. men_on (array_from rank) ≡ 32) (λ a b c d e f g h. refl) (back_rank v) (home_rank_of v).eight

-- the man on a home rank
on_home : (rank : List Kind) → length rank ≡ 8 → (c : Colour) (file : ℕ) → file < 8 →
    man_at (array_from rank) (square_at file (home_rank c)) ≡ unpromoted c (kind_on rank file)
on_home rank size White file less =
    eight
    (λ rank. (file : ℕ) → file < 8 → man_at (array_from rank) (square_at file 0) ≡ unpromoted White (kind_on rank file))
    (λ a b c d e f g h. each_file (λ file. man_at (array_from (a ∷ b ∷ c ∷ d ∷ e ∷ f ∷ g ∷ h ∷ [])) (square_at file 0)
    ≡ unpromoted White (kind_on (a ∷ b ∷ c ∷ d ∷ e ∷ f ∷ g ∷ h ∷ []) file)) refl refl refl refl refl refl refl refl)
    rank size file less
on_home rank size Black file less =
    eight
    (λ rank. (file : ℕ) → file < 8 → man_at (array_from rank) (square_at file 7) ≡ unpromoted Black (kind_on rank file))
    (λ a b c d e f g h. each_file (λ file. man_at (array_from (a ∷ b ∷ c ∷ d ∷ e ∷ f ∷ g ∷ h ∷ [])) (square_at file 7)
    ≡ unpromoted Black (kind_on (a ∷ b ∷ c ∷ d ∷ e ∷ f ∷ g ∷ h ∷ []) file)) refl refl refl refl refl refl refl refl)
    rank size file less

pub kings_home : (v : Variant) (c : Colour) → man_at (array_of v) (king_home v c) ≡ unpromoted c King
kings_home v c =
    let rank = home_rank_of v in
    let files = files_of v in
    on_home (back_rank v) rank.eight c (king_file v) (omega (arith, files.short_rook, files.most))
    ∙ ap (unpromoted c) rank.king

pub rooks_home : (v : Variant) (c : Colour) (long : Bool) → man_at (array_of v) (rook_home v c long) ≡ unpromoted c Rook
rooks_home v c true =
    let rank = home_rank_of v in
    let files = files_of v in
    on_home (back_rank v) rank.eight c (rook_file v true) (omega (arith, files.long_rook, files.short_rook, files.most))
    ∙ ap (unpromoted c) rank.long_rook
rooks_home v c false =
    let rank = home_rank_of v in
    on_home (back_rank v) rank.eight c (rook_file v false) (files_of v).most ∙ ap (unpromoted c) rank.short_rook

-- ---- how many men there are

kings_of : (c : Colour) (rank : List Kind) → length rank ≡ 8
    → count_by (is_held_as c King) (array_from rank) ≡ count_on King rank
kings_of White rank size =
    eight (λ rank. count_by (is_held_as White King) (array_from rank) ≡ count_on King rank)
    (λ a b c d e f g h. omega arith) rank size
kings_of Black rank size =
    eight (λ rank. count_by (is_held_as Black King) (array_from rank) ≡ count_on King rank)
    (λ a b c d e f g h. omega arith) rank size

pub kings_at_start : (v : Variant) (c : Colour) → count_by (is_held_as c King) (array_of v) ≡ 1
kings_at_start v c =
    let rank = home_rank_of v in
    kings_of c (back_rank v) rank.eight ∙ rank.counts King

-- the pawns before the home rank
abbrev pawns_as : Kind → ℕ
pawns_as k = cond (same_kind Pawn k) 8 0

men_from : (c : Colour) (k : Kind) (rank : List Kind) → length rank ≡ 8
    → men_of c k (array_from rank) ≡ count_on k rank + pawns_as k
men_from White Pawn rank size =
    eight (λ rank. men_of White Pawn (array_from rank) ≡ count_on Pawn rank + 8) (λ a b c d e f g h. omega arith) rank
    size
men_from White Knight rank size =
    eight (λ rank. men_of White Knight (array_from rank) ≡ count_on Knight rank + 0) (λ a b c d e f g h. omega arith)
    rank size
men_from White Bishop rank size =
    eight (λ rank. men_of White Bishop (array_from rank) ≡ count_on Bishop rank + 0) (λ a b c d e f g h. omega arith)
    rank size
men_from White Rook rank size =
    eight (λ rank. men_of White Rook (array_from rank) ≡ count_on Rook rank + 0) (λ a b c d e f g h. omega arith) rank
    size
men_from White Queen rank size =
    eight (λ rank. men_of White Queen (array_from rank) ≡ count_on Queen rank + 0) (λ a b c d e f g h. omega arith) rank
    size
men_from White King rank size =
    eight (λ rank. men_of White King (array_from rank) ≡ count_on King rank + 0) (λ a b c d e f g h. omega arith) rank
    size
men_from Black Pawn rank size =
    eight (λ rank. men_of Black Pawn (array_from rank) ≡ count_on Pawn rank + 8) (λ a b c d e f g h. omega arith) rank
    size
men_from Black Knight rank size =
    eight (λ rank. men_of Black Knight (array_from rank) ≡ count_on Knight rank + 0) (λ a b c d e f g h. omega arith)
    rank size
men_from Black Bishop rank size =
    eight (λ rank. men_of Black Bishop (array_from rank) ≡ count_on Bishop rank + 0) (λ a b c d e f g h. omega arith)
    rank size
men_from Black Rook rank size =
    eight (λ rank. men_of Black Rook (array_from rank) ≡ count_on Rook rank + 0) (λ a b c d e f g h. omega arith) rank
    size
men_from Black Queen rank size =
    eight (λ rank. men_of Black Queen (array_from rank) ≡ count_on Queen rank + 0) (λ a b c d e f g h. omega arith) rank
    size
men_from Black King rank size =
    eight (λ rank. men_of Black King (array_from rank) ≡ count_on King rank + 0) (λ a b c d e f g h. omega arith) rank
    size

one_set_is : (k : Kind) → on_home_rank k + pawns_as k ≡ one_set k
one_set_is Pawn = refl
one_set_is Knight = refl
one_set_is Bishop = refl
one_set_is Rook = refl
one_set_is Queen = refl
one_set_is King = refl

pub array_is_set : (v : Variant) (c : Colour) (k : Kind) → men_of c k (array_of v) ≡ one_set k
array_is_set v c k =
    let rank = home_rank_of v in
    men_from c k (back_rank v) rank.eight ∙ ap (λ (n : ℕ). n + pawns_as k) (rank.counts k) ∙ one_set_is k

-- ---- nobody is in check: whatever stands on White's home rank, a pawn is in its way, and pawns and knights are too
-- far

-- where which men stand, whatever the home ranks are
record ArePlaced (P : Placement) : Type 0 where
  black_king : (s : ℕ) → s < 64 → IsHeldAs Black King (man_at P s) → 56 ≤ s
  white : (s : ℕ) → s < 64 → IsHeldBy White (man_at P s) → s < 16
  pawns : (file : ℕ) → file < 8 → man_at P (8 + file) ≡ unpromoted White Pawn

abbrev king_test : Placement → ℕ → Bool
king_test P s = nat_le 56 s || not (is_held_as Black King (man_at P s))

abbrev white_test : Placement → ℕ → Bool
white_test P s = nat_lt s 16 || not (is_held_by White (man_at P s))

pub at_square : (f : ℕ → Bool) → list_all f squares ≡ true → (s : ℕ) → s < 64 → f s ≡ true
at_square f all s less = list_all-each f squares all s (Among-range 0 64 s (omega arith) (omega (arith, less)))

pub or_not-true : (x y : Bool) → (x || not y) ≡ true → y ≡ true → x ≡ true
or_not-true true y h e = refl
or_not-true false true h e = h
or_not-true false false h e = e

abbrev squares_tested : List Kind → Type 0
squares_tested rank =
    (list_all (king_test (array_from rank)) squares ≡ true) × (list_all (white_test (array_from rank)) squares ≡ true)
    × ((file : ℕ) → file < 8 → man_at (array_from rank) (8 + file) ≡ unpromoted White Pawn)

tested : (rank : List Kind) → length rank ≡ 8 → squares_tested rank
tested rank size =
    eight squares_tested
    (λ a b c d e f g h. (
      refl,
      refl,
      each_file (λ file. man_at (array_from (a ∷ b ∷ c ∷ d ∷ e ∷ f ∷ g ∷ h ∷ [])) (8 + file) ≡ unpromoted White Pawn)
          refl refl refl refl refl refl refl refl,
    )) rank size

are_placed : (rank : List Kind) → length rank ≡ 8 → ArePlaced (array_from rank)
are_placed rank size =
    let P : Placement = array_from rank in
    let t = tested rank size in
    record {
      black_king = λ s less held.
          leb-true 56 s
          (or_not-true (nat_le 56 s) (is_held_as Black King (man_at P s)) (at_square (king_test P) t.0 s less)
          ((Decides-held_as Black King (man_at P s)).1 held));
      white = λ s less held.
          ltb-true s 16 (or_not-true (nat_lt s 16) (is_held_by White (man_at P s)) (at_square (white_test P) t.1 s less)
          ((Decides-held_by White (man_at P s)).1 held));
      pawns = t.2;
    }

pub first_rank : (a : ℕ) → a < 8 → rank_of a ≡ 0
first_rank a h = omega arith

pub last_rank : (s : ℕ) → 56 ≤ s → s < 64 → rank_of s ≡ 7
last_rank s h l = omega arith

seven_apart : (a s : ℕ) → a < 8 → 56 ≤ s → s < 64 → ranks_apart a s ≡ 7
seven_apart a s h l m = (λ i. abs_diff (first_rank a h i) (last_rank s l m i))

-- the square next to a first-rank square toward the last rank stands on the second rank
next_file : (a s : ℕ) → a < 8 → toward (file_of a) (file_of s) 1 < 8
next_file a s h = omega arith

next_square : (a s : ℕ) → a < 8 → 56 ≤ s → s < 64 → along a s 1 ≡ 8 + toward (file_of a) (file_of s) 1
next_square a s h l m =
    (λ i. square_at (toward (file_of a) (file_of s) 1) (toward (first_rank a h i) (last_rank s l m i) 1))

blocked : (P : Placement) → ArePlaced P → (a s : ℕ) → a < 8 → 56 ≤ s → s < 64 → ¬ Clear P a s
blocked P placed a s h l m clear =
    let far : 1 < distance a s = omega (arith, seven_apart a s h l m) in
    let free : man_at P (along a s 1) ≡ None = clear.empty 1 (omega arith) far in
    let pawn : man_at P (8 + toward (file_of a) (file_of s) 1) ≡ unpromoted White Pawn =
    placed.pawns (toward (file_of a) (file_of s) 1) (next_file a s h) in
    let both : None ≡ unpromoted White Pawn = sym free ∙ ap (man_at P) (next_square a s h l m) ∙ pawn in
    cc

from_home : (P : Placement) → ArePlaced P → (k : Kind) (a s : ℕ) → a < 8 → 56 ≤ s → s < 64 → ¬ Strikes P White k a s
unfolding IsStep
from_home P placed Pawn a s h l m strikes = omega (arith, strikes.step.1, first_rank a h, last_rank s l m)
from_home P placed Knight a s h l m strikes = elim (strikes.step) [
  | inl wide ↦ omega (arith, wide.1, seven_apart a s h l m)
  | inr high ↦ omega (arith, high.1, seven_apart a s h l m)
]
from_home P placed King a s h l m strikes = omega (arith, strikes.step, seven_apart a s h l m)
from_home P placed Bishop a s h l m strikes = blocked P placed a s h l m strikes.open_way
from_home P placed Rook a s h l m strikes = blocked P placed a s h l m strikes.open_way
from_home P placed Queen a s h l m strikes = blocked P placed a s h l m strikes.open_way

from_pawns : (P : Placement) (a s : ℕ) → 8 ≤ a → a < 16 → 56 ≤ s → s < 64 → ¬ Strikes P White Pawn a s
unfolding IsStep
from_pawns P a s h l m n strikes = omega (arith, strikes.step.1)

pawn_on : (P : Placement) → ArePlaced P → (a : ℕ) → 8 ≤ a → a < 16 → man_at P a ≡ unpromoted White Pawn
pawn_on P placed a h l =
    let behind : 8 + (a - 8) ≡ a = omega arith in
    ap (man_at P) (sym behind) ∙ placed.pawns (a - 8) (omega arith)

colour_of : (P : Placement) (a s : ℕ) (man : Option Man) → StrikesAs P White a s man → IsHeldBy White man
colour_of P a s None h = h
colour_of P a s (Some m) h = h.0

struck_by : (P : Placement) → ArePlaced P → (a s : ℕ) → a < 8 → 56 ≤ s → s < 64 → (man : Option Man)
    → ¬ StrikesAs P White a s man
struck_by P placed a s h l m None strikes = strikes
struck_by P placed a s h l m (Some x) strikes = from_home P placed x.kind a s h l m strikes.1

no_attack : (P : Placement) → ArePlaced P → (a s : ℕ) → a < 64 → 56 ≤ s → s < 64 → ¬ StrikesAs P White a s (man_at P a)
no_attack P placed a s h l m strikes = elim (cases_lt a 8) [
  | inl home ↦ struck_by P placed a s home l m (man_at P a) strikes
  | inr ahead ↦
      let less : a < 16 = placed.white a h (colour_of P a s (man_at P a) strikes) in
      let pawn : StrikesAs P White a s (unpromoted White Pawn) =
      subst (StrikesAs P White a s) (pawn_on P placed a ahead less) strikes in
      from_pawns P a s ahead less l m pawn.1
]

pub safe_at_start : (v : Variant) → IsKingSafe (array_of v) Black
unfolding IsAttacked
safe_at_start v =
    let placed = are_placed (back_rank v) (home_rank_of v).eight in
    record {
      safe = λ s less check.
          no_attack (array_of v) placed check.1.0 s check.1.1 (placed.black_king s less check.0) less check.1.2;
    }

-- ---- the array of a rank, man by man

-- a list of eight is that of its elements
pub eight_files : (files : Files) → length files ≡ 8 →
    get_or files 0 None ∷ get_or files 1 None ∷ get_or files 2 None ∷ get_or files 3 None ∷ get_or files 4 None
    ∷ get_or files 5 None
    ∷ get_or files 6 None ∷ get_or files 7 None ∷ [] ≡ files
eight_files [] n = absurd (omega (arith, n))
eight_files (a ∷ []) n = absurd (omega (arith, n))
eight_files (a ∷ b ∷ []) n = absurd (omega (arith, n))
eight_files (a ∷ b ∷ c ∷ []) n = absurd (omega (arith, n))
eight_files (a ∷ b ∷ c ∷ d ∷ []) n = absurd (omega (arith, n))
eight_files (a ∷ b ∷ c ∷ d ∷ e ∷ []) n = absurd (omega (arith, n))
eight_files (a ∷ b ∷ c ∷ d ∷ e ∷ f ∷ []) n = absurd (omega (arith, n))
eight_files (a ∷ b ∷ c ∷ d ∷ e ∷ f ∷ g ∷ []) n = absurd (omega (arith, n))
eight_files (a ∷ b ∷ c ∷ d ∷ e ∷ f ∷ g ∷ h ∷ []) n = refl
eight_files (a ∷ b ∷ c ∷ d ∷ e ∷ f ∷ g ∷ h ∷ i ∷ more) n = absurd (omega (arith, n))

-- the array of these files, from its sixteen men on the home ranks
pub array_made : (files : Files) → length files ≡ 8 → (wa wb wc wd we wf wg wh ba bb bc bd be bf bg bh : Option Man)
    → wa ≡ unpromoted White (unwrap_or (get_or files 0 None) Pawn)
    → wb ≡ unpromoted White (unwrap_or (get_or files 1 None) Pawn)
    → wc ≡ unpromoted White (unwrap_or (get_or files 2 None) Pawn)
    → wd ≡ unpromoted White (unwrap_or (get_or files 3 None) Pawn)
    → we ≡ unpromoted White (unwrap_or (get_or files 4 None) Pawn)
    → wf ≡ unpromoted White (unwrap_or (get_or files 5 None) Pawn)
    → wg ≡ unpromoted White (unwrap_or (get_or files 6 None) Pawn)
    → wh ≡ unpromoted White (unwrap_or (get_or files 7 None) Pawn)
    → ba ≡ unpromoted Black (unwrap_or (get_or files 0 None) Pawn)
    → bb ≡ unpromoted Black (unwrap_or (get_or files 1 None) Pawn)
    → bc ≡ unpromoted Black (unwrap_or (get_or files 2 None) Pawn)
    → bd ≡ unpromoted Black (unwrap_or (get_or files 3 None) Pawn)
    → be ≡ unpromoted Black (unwrap_or (get_or files 4 None) Pawn)
    → bf ≡ unpromoted Black (unwrap_or (get_or files 5 None) Pawn)
    → bg ≡ unpromoted Black (unwrap_or (get_or files 6 None) Pawn)
    → bh ≡ unpromoted Black (unwrap_or (get_or files 7 None) Pawn)
    → (wa ∷ wb ∷ wc ∷ wd ∷ we ∷ wf ∷ wg ∷ wh ∷ []) ++ replicate 8 (unpromoted White Pawn) ++ replicate 32 None
    ++ replicate 8 (unpromoted Black Pawn) ++ (ba ∷ bb ∷ bc ∷ bd ∷ be ∷ bf ∷ bg ∷ bh ∷ [])
    ≡ array_from (map (λ man. unwrap_or man Pawn) files)
array_made files size wa wb wc wd we wf wg wh ba bb bc bd be bf bg bh ewa ewb ewc ewd ewe ewf ewg ewh eba ebb ebc ebd
    ebe ebf ebg ebh =
    (λ i.
    (ewa i ∷ ewb i ∷ ewc i ∷ ewd i ∷ ewe i ∷ ewf i ∷ ewg i ∷ ewh i ∷ []) ++ replicate 8 (unpromoted White Pawn)
    ++ replicate 32 None ++ replicate 8 (unpromoted Black Pawn)
    ++ (eba i ∷ ebb i ∷ ebc i ∷ ebd i ∷ ebe i ∷ ebf i ∷ ebg i ∷ ebh i ∷ []))
    ∙ ap (λ (fs : Files). array_from (map (λ man. unwrap_or man Pawn) fs)) (eight_files files size)
