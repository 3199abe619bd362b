-- What holds of the home ranks of every variant. For Fischer random a test says it of all 960.
use Rattle.std.proofs.Common.{arith, ◌≡◌, ℕ, ◌+◌, ◌*◌, ◌/◌, ◌%◌, ◌<◌, Bool, true, false, ◌&&◌, ◌-◌, nat_eq, nat_lt, not, cond, List, [], ◌∷◌, length, reverse, refl, sym, ap, ◌∙◌, slice_index_or}
use Rattle.std.specs.List.{list_all, filter, range_with_len}
use Rattle.std.proofs.lemmas.Bool.{and_parts, eqb-true, ltb-true}
use Rattle.chess_model.specs.declared.man.Kind.{Kind}
use Rattle.chess_model.specs.declared.man.Kind.TheVariants.{Pawn, Knight, Bishop, Rook, Queen, King}
use Rattle.chess_model.specs.declared.variant.Variant.{Variant}
use Rattle.chess_model.specs.declared.variant.Variant.TheVariants.{Chess, Crazyhouse, Bughouse, Fischer}
use Rattle.chess_model.specs.FischerArrays.{numbered_rank, usual_rank, count_on, first_file, last_file, IsArrayRank, FischerArrays}
use Rattle.chess_model.specs.Men.{same_kind}
use Rattle.chess_model.specs.Placement.{back_rank, king_file, rook_file}
use Rattle.chess_model.proofs.Among.{list_all-each, Among-range}
use Rattle.chess_model.proofs.StandsAfter.{same_kind-eq}

-- how many men of a kind stand on a home rank
abbrev pub on_home_rank : Kind → ℕ
on_home_rank Pawn = 0
on_home_rank Knight = 2
on_home_rank Bishop = 2
on_home_rank Rook = 2
on_home_rank Queen = 1
on_home_rank King = 1

abbrev has_counts : List Kind → Bool
has_counts rank =
    nat_eq (count_on Pawn rank) 0 && (nat_eq (count_on Knight rank) 2 && (nat_eq (count_on Bishop rank) 2
    && (nat_eq (count_on Rook rank) 2 && (nat_eq (count_on Queen rank) 1 && nat_eq (count_on King rank) 1))))

abbrev has_order : List Kind → Bool
has_order rank =
    nat_lt (first_file Rook rank) (first_file King rank) && (nat_lt (first_file King rank) (last_file Rook rank)
    && nat_eq ((first_file Bishop rank + last_file Bishop rank) % 2) 1)

abbrev pub kind_on : List Kind → ℕ → Kind
kind_on rank file = slice_index_or rank file Pawn

abbrev has_homes : List Kind → Bool
has_homes rank =
    same_kind (kind_on rank (first_file King rank)) King && (same_kind (kind_on rank (first_file Rook rank)) Rook
    && same_kind (kind_on rank (last_file Rook rank)) Rook)

abbrev is_home_rank : List Kind → Bool
is_home_rank rank = nat_eq (length rank) 8 && (has_counts rank && (has_order rank && has_homes rank))

-- the number of an array, back from its rank

abbrev without : Kind → List Kind → List Kind
without k rank = filter (λ j. not (same_kind j k)) rank

-- the bishop on an odd file, counted from 0, is bishop 1
abbrev on_odd : ℕ → ℕ → ℕ
on_odd first last = cond (nat_eq (first % 2) 1) (first / 2 + 4 * (last / 2)) (last / 2 + 4 * (first / 2))

-- the place of the knights among the ten pairs, from their indices
abbrev pair_number : ℕ → ℕ → ℕ
pair_number first behind = slice_index_or (0 ∷ 4 ∷ 7 ∷ 9 ∷ []) first 0 + behind

abbrev knights_number : List Kind → ℕ
knights_number rank =
    pair_number (first_file Knight rank) (3 - first_file Knight (reverse rank) - first_file Knight rank)

abbrev number_of : List Kind → ℕ
number_of rank =
    on_odd (first_file Bishop rank) (last_file Bishop rank)
    + (16 * first_file Queen (without Bishop rank) + 96 * knights_number (without Queen (without Bishop rank)))

-- ---- all 960

abbrev is_numbered : ℕ → Bool
is_numbered n = is_home_rank (numbered_rank n) && nat_eq (number_of (numbered_rank n)) n

all_numbered : list_all is_numbered (range_with_len 0 960) ≡ true
unfolding numbered_rank
all_numbered = refl

numbered : (n : ℕ) → n < 960 → (is_home_rank (numbered_rank n) ≡ true) × (nat_eq (number_of (numbered_rank n)) n ≡ true)
numbered n less =
    and_parts (is_home_rank (numbered_rank n)) (nat_eq (number_of (numbered_rank n)) n)
    (list_all-each is_numbered (range_with_len 0 960) all_numbered n
    (Among-range 0 960 n (omega arith) (omega (arith, less))))

no_two_alike : (m n : ℕ) → m < 960 → n < 960 → numbered_rank m ≡ numbered_rank n → m ≡ n
no_two_alike m n lm ln e =
    sym (eqb-true (number_of (numbered_rank m)) m (numbered m lm).1) ∙ ap number_of e
    ∙ eqb-true (number_of (numbered_rank n)) n (numbered n ln).1

-- ---- the rank of a variant

pub record IsHomeRank (rank : List Kind) : Type 0 where
  pub eight : length rank ≡ 8
  pub counts : (k : Kind) → count_on k rank ≡ on_home_rank k
  pub order : (first_file Rook rank < first_file King rank) × (first_file King rank < last_file Rook rank)
  pub bishops : (first_file Bishop rank + last_file Bishop rank) % 2 ≡ 1
  pub king : kind_on rank (first_file King rank) ≡ King
  pub long_rook : kind_on rank (first_file Rook rank) ≡ Rook
  pub short_rook : kind_on rank (last_file Rook rank) ≡ Rook

counted : (rank : List Kind) → has_counts rank ≡ true → (k : Kind) → count_on k rank ≡ on_home_rank k
counted rank h =
    let pawn = and_parts (nat_eq (count_on Pawn rank) 0) _ h in
    let knight = and_parts (nat_eq (count_on Knight rank) 2) _ pawn.1 in
    let bishop = and_parts (nat_eq (count_on Bishop rank) 2) _ knight.1 in
    let rook = and_parts (nat_eq (count_on Rook rank) 2) _ bishop.1 in
    let queen = and_parts (nat_eq (count_on Queen rank) 1) (nat_eq (count_on King rank) 1) rook.1 in
    λ k. elim k as (λ k. count_on k rank ≡ on_home_rank k) [
      | Pawn ↦ eqb-true (count_on Pawn rank) 0 pawn.0
      | Knight ↦ eqb-true (count_on Knight rank) 2 knight.0
      | Bishop ↦ eqb-true (count_on Bishop rank) 2 bishop.0
      | Rook ↦ eqb-true (count_on Rook rank) 2 rook.0
      | Queen ↦ eqb-true (count_on Queen rank) 1 queen.0
      | King ↦ eqb-true (count_on King rank) 1 queen.1
    ]

tested : (rank : List Kind) → is_home_rank rank ≡ true → IsHomeRank rank
tested rank h =
    let size = and_parts (nat_eq (length rank) 8) _ h in
    let counts = and_parts (has_counts rank) _ size.1 in
    let both = and_parts (has_order rank) (has_homes rank) counts.1 in
    let long = and_parts (nat_lt (first_file Rook rank) (first_file King rank)) _ both.0 in
    let short = and_parts (nat_lt (first_file King rank) (last_file Rook rank)) _ long.1 in
    let king = and_parts (same_kind (kind_on rank (first_file King rank)) King) _ both.1 in
    let rooks = and_parts (same_kind (kind_on rank (first_file Rook rank)) Rook) _ king.1 in
    record {
      eight = eqb-true (length rank) 8 size.0;
      counts = counted rank counts.0;
      order = (ltb-true _ _ long.0, ltb-true _ _ short.0);
      bishops = eqb-true ((first_file Bishop rank + last_file Bishop rank) % 2) 1 short.1;
      king = same_kind-eq _ King king.0;
      long_rook = same_kind-eq _ Rook rooks.0;
      short_rook = same_kind-eq _ Rook rooks.1;
    }

usual : IsHomeRank usual_rank
usual = tested usual_rank refl

pub home_rank_of : (v : Variant) → IsHomeRank (back_rank v)
home_rank_of Chess = usual
home_rank_of Crazyhouse = usual
home_rank_of Bughouse = usual
home_rank_of (Fischer number) = tested (numbered_rank (number % 960)) (numbered (number % 960) (omega arith)).0

pub order_of : (n : ℕ) → n < 960 →
    (first_file Rook (numbered_rank n) < first_file King (numbered_rank n))
    × (first_file King (numbered_rank n) < last_file Rook (numbered_rank n))
order_of n less = (tested (numbered_rank n) (numbered n less).0).order

-- the files of the homes
pub record AreFiles (v : Variant) : Type 0 where
  pub long_rook : rook_file v true < king_file v
  pub short_rook : king_file v < rook_file v false
  pub most : rook_file v false < 8

pub files_of : (v : Variant) → AreFiles v
files_of v =
    let rank = home_rank_of v in
    record { long_rook = rank.order.0; short_rook = rank.order.1; most = omega arith }

array_rank : (n : ℕ) → n < 960 → IsArrayRank (numbered_rank n)
array_rank n less =
    let rank = tested (numbered_rank n) (numbered n less).0 in
    record {
      files = rank.eight;
      kings = rank.counts King;
      queens = rank.counts Queen;
      rooks = rank.counts Rook;
      bishops = rank.counts Bishop;
      knights = rank.counts Knight;
      between = rank.order;
      bishop_colours = rank.bishops;
    }

pub fischer_arrays : FischerArrays
unfolding numbered_rank
fischer_arrays = record {
  each = array_rank;
  no_two_alike = no_two_alike;
  usual = refl;
  zero = refl;
  other = refl;
}
