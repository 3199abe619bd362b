-- The printed tables of the homes' files are those of the 960 ranks.
use Rattle.std.proofs.Common.{arith, ◌≡◌, ℕ, ◌<◌, List, map, get_or, refl, ap, ◌∙◌}
use Rattle.std.specs.List.{range_with_len}
use Rattle.std.proofs.lemmas.List.FromFn.{get_or-map-range_with_len}
use Rattle.chess_model.specs.declared.home_files.TheConstants.{KING_FILES, LONG_ROOK_FILES, SHORT_ROOK_FILES}
use Rattle.chess_model.specs.declared.man.Kind.TheVariants.{Rook, King}
use Rattle.chess_model.specs.FischerArrays.{first_file, last_file, numbered_rank}
use Rattle.chess_model.proofs.HomeRanks.{order_of}

abbrev table_of : (ℕ → ℕ) → List ℕ
table_of file = map file (range_with_len 0 960)

abbrev king_at : ℕ → ℕ
king_at n = first_file King (numbered_rank n)

abbrev long_rook_at : ℕ → ℕ
long_rook_at n = first_file Rook (numbered_rank n)

abbrev short_rook_at : ℕ → ℕ
short_rook_at n = last_file Rook (numbered_rank n)

kings : KING_FILES ≡ table_of king_at
unfolding numbered_rank
kings = refl

long_rooks : LONG_ROOK_FILES ≡ table_of long_rook_at
unfolding numbered_rank
long_rooks = refl

short_rooks : SHORT_ROOK_FILES ≡ table_of short_rook_at
unfolding numbered_rank
short_rooks = refl

at_table : (table : List ℕ) (file : ℕ → ℕ) (n : ℕ) → table ≡ table_of file → n < 960 → get_or table n 0 ≡ file n
at_table table file n e less =
    ap (λ (t : List ℕ). get_or t n 0) e ∙ get_or-map-range_with_len file 0 960 n n 0 less (omega arith)

pub king_table : (n : ℕ) → n < 960 → get_or KING_FILES n 0 ≡ first_file King (numbered_rank n)
king_table n less = at_table KING_FILES king_at n kings less

pub king_table-within : (n : ℕ) → n < 960 → get_or KING_FILES n 0 < 8
king_table-within n less = omega (arith, king_table n less, (order_of n less).0, (order_of n less).1)

pub long_rook_table : (n : ℕ) → n < 960 → get_or LONG_ROOK_FILES n 0 ≡ first_file Rook (numbered_rank n)
long_rook_table n less = at_table LONG_ROOK_FILES long_rook_at n long_rooks less

pub long_rook_table-within : (n : ℕ) → n < 960 → get_or LONG_ROOK_FILES n 0 < 8
long_rook_table-within n less = omega (arith, long_rook_table n less, (order_of n less).0, (order_of n less).1)

pub short_rook_table : (n : ℕ) → n < 960 → get_or SHORT_ROOK_FILES n 0 ≡ last_file Rook (numbered_rank n)
short_rook_table n less = at_table SHORT_ROOK_FILES short_rook_at n short_rooks less

pub short_rook_table-within : (n : ℕ) → n < 960 → get_or SHORT_ROOK_FILES n 0 < 8
short_rook_table-within n less = omega (arith, short_rook_table n less)
