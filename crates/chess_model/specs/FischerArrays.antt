-- The arrays of Fischer random (FIDE Laws, Guidelines II.2) by their numbers, which are this server's own: there are
-- 960.
use Rattle.std.specs.Prelude.{◌≡◌, ℕ, ◌+◌, ◌-◌, ◌*◌, ◌/◌, ◌%◌, ◌<◌, zero, suc, List, [], ◌∷◌, length, map, replicate, reverse, take_while, not, Option, Some, None, slice_index_or, slice_set, unwrap_or}
use Rattle.std.specs.List.{count_by}
use Rattle.chess_model.specs.declared.man.Kind.{Kind}
use Rattle.chess_model.specs.declared.man.Kind.TheVariants.{Pawn, Knight, Bishop, Rook, Queen, King}
use Rattle.chess_model.specs.Limits.{arrays}
use Rattle.chess_model.specs.Men.{same_kind}

-- the kinds on the home ranks of chess, from file a to file h (FIDE Laws 2.3)
abbrev pub usual_rank : List Kind
usual_rank = Rook ∷ Knight ∷ Bishop ∷ Queen ∷ King ∷ Bishop ∷ Knight ∷ Rook ∷ []

-- a home rank while it is set up, from file a to file h: the kind on each file that isn't free any more
abbrev pub Files : Type 0
Files = List (Option Kind)

-- the free file of that index, counted from file a and from 0, gets a man of this kind
abbrev pub on_free : Kind → ℕ → Files → Files
on_free k index [] = []
on_free k index (Some j ∷ files) = Some j ∷ on_free k index files
on_free k zero (None ∷ files) = Some k ∷ files
on_free k (suc index) (None ∷ files) = None ∷ on_free k index files

-- bishop 1 on file b, d, f or h, and bishop 2 on file a, c, e or g
abbrev pub with_bishops : ℕ → Files
with_bishops n =
    slice_set (slice_set (replicate 8 None) (2 * (n % 4) + 1) (Some Bishop)) (2 * (n / 4 % 4)) (Some Bishop)

-- the queen on one of the six free files
abbrev pub with_queen : ℕ → Files
with_queen n = on_free Queen (n / 16 % 6) (with_bishops n)

-- on which two of the five files that are then free the knights stand
abbrev pub knight_pairs : List (ℕ × ℕ)
knight_pairs =
    (0, 1) ∷ (0, 2) ∷ (0, 3) ∷ (0, 4) ∷ (1, 2) ∷ (1, 3) ∷ (1, 4) ∷ (2, 3) ∷ (2, 4) ∷ (3, 4) ∷ []

abbrev pub knight_pair : ℕ → ℕ × ℕ
knight_pair n = slice_index_or knight_pairs (n / 96) (0, 1)

abbrev pub with_knights : ℕ → Files
with_knights n = on_free Knight (knight_pair n).0 (on_free Knight (knight_pair n).1 (with_queen n))

-- a rook, the king and the other rook on the three files that are left
abbrev pub with_king : ℕ → Files
with_king n = on_free Rook 0 (on_free King 0 (on_free Rook 0 (with_knights n)))

-- the home ranks of the array of a number from 0 to 959; no file is left free
unfoldable pub numbered_rank : ℕ → List Kind
numbered_rank n = map (λ man. unwrap_or man Pawn) (with_king n)

-- how many men of a kind stand on a rank
abbrev pub count_on : Kind → List Kind → ℕ
count_on k rank = count_by (λ j. same_kind j k) rank

-- the file of the first man of a kind in a rank that is told from file a
abbrev pub first_file : Kind → List Kind → ℕ
first_file k rank = length (take_while (λ j. not (same_kind j k)) rank)

-- the file of the last man of a kind in a rank of eight that is told from file a
abbrev pub last_file : Kind → List Kind → ℕ
last_file k rank = 7 - first_file k (reverse rank)

-- what the Laws ask of an array: one king with a rook on each side, two bishops on squares of different colours, a
-- queen, and two knights
pub record IsArrayRank (rank : List Kind) : Type 0 where
  pub files : length rank ≡ 8
  pub kings : count_on King rank ≡ 1
  pub queens : count_on Queen rank ≡ 1
  pub rooks : count_on Rook rank ≡ 2
  pub bishops : count_on Bishop rank ≡ 2
  pub knights : count_on Knight rank ≡ 2
  pub between : (first_file Rook rank < first_file King rank) × (first_file King rank < last_file Rook rank)
  pub bishop_colours : (first_file Bishop rank + last_file Bishop rank) % 2 ≡ 1

-- each number has such an array, no two have the same one, and 518 has the usual one
pub record FischerArrays : Type 0 where
  pub each : (n : ℕ) → n < arrays → IsArrayRank (numbered_rank n)
  pub no_two_alike : (m n : ℕ) → m < arrays → n < arrays → numbered_rank m ≡ numbered_rank n → m ≡ n
  pub usual : numbered_rank 518 ≡ usual_rank
  -- B B Q N N R K R
  pub zero : numbered_rank 0 ≡ Bishop ∷ Bishop ∷ Queen ∷ Knight ∷ Knight ∷ Rook ∷ King ∷ Rook ∷ []
  -- R B B N N K R Q
  pub other : numbered_rank 468 ≡ Rook ∷ Bishop ∷ Bishop ∷ Knight ∷ Knight ∷ King ∷ Rook ∷ Queen ∷ []
