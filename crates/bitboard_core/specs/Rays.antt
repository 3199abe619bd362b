-- The eight ways that lead from a square to the edge of the board (FIDE Laws 2.4, 3.2 to 3.4).
use Rattle.std.specs.Prelude.{◌≡◌, ℕ, ◌+◌, ◌<◌, ◌↔◌, Bool, ◌&&◌, ◌||◌, nat_eq, nat_lt}
use Rattle.std.specs.Int.{bit_at}
use Rattle.chess_model.specs.Squares.{file_of, rank_of, files_apart, ranks_apart, distance, along}
use Rattle.bitboard_core.specs.Sets.{Has}

-- how the file, or the rank, goes along a way
pub data Sense : Type 0 where
  Rises Stays Falls : Sense

-- whether d steps lead from x to y
abbrev pub leads : Sense → ℕ → ℕ → ℕ → Bool
leads Rises x y d = nat_eq y (x + d)
leads Stays x y d = nat_eq y x
leads Falls x y d = nat_eq x (y + d)

-- whether t lies that way from a: some steps away, as the file and as the rank go
unfoldable pub is_on : Sense → Sense → ℕ → ℕ → Bool
is_on f r a t =
    nat_lt 0 (distance a t) && (leads f (file_of a) (file_of t) (distance a t)
    && leads r (rank_of a) (rank_of t) (distance a t))

-- d steps lead from x to y
abbrev pub Leads : Sense → ℕ → ℕ → ℕ → Type 0
Leads Rises x y d = y ≡ x + d
Leads Stays x y d = y ≡ x
Leads Falls x y d = x ≡ y + d

-- t lies that way from a
pub record IsOn (f r : Sense) (a t : ℕ) : Type 0 where
  pub away : 0 < distance a t
  pub file : Leads f (file_of a) (file_of t) (distance a t)
  pub rank : Leads r (rank_of a) (rank_of t) (distance a t)

-- no square between a and t is in the set of occupied squares
pub record IsOpenIn (occupied a t : ℕ) : Type 0 where
  pub empty : (k : ℕ) → 0 < k → k < distance a t → bit_at occupied (along a t k) ≡ 0

-- the set has the squares that way from a up to the first occupied one, this included
pub record IsRaySet (f r : Sense) (a occupied set : ℕ) : Type 0 where
  pub square : a < 64
  pub each : (t : ℕ) → t < 64 → Has set t ↔ (IsOn f r a t × IsOpenIn occupied a t)

-- whether a knight on a strikes t (FIDE 3.6)
unfoldable pub is_knight_step : ℕ → ℕ → Bool
is_knight_step a t =
    (nat_eq (files_apart a t) 1 && nat_eq (ranks_apart a t) 2)
    || (nat_eq (files_apart a t) 2 && nat_eq (ranks_apart a t) 1)

-- whether a king on a strikes t (FIDE 3.8.1)
unfoldable pub is_king_step : ℕ → ℕ → Bool
is_king_step a t = nat_eq (distance a t) 1

-- whether a pawn on a, whose ranks go that way, strikes t (FIDE 3.7.3)
unfoldable pub is_pawn_strike : Sense → ℕ → ℕ → Bool
is_pawn_strike r a t = nat_eq (files_apart a t) 1 && leads r (rank_of a) (rank_of t) 1

-- whether a pawn on a, whose ranks go that way from the second rank given, may push to t on an empty board (FIDE 3.7)
unfoldable pub is_pawn_push : Sense → ℕ → ℕ → ℕ → Bool
is_pawn_push r second a t =
    nat_eq (files_apart a t) 0 && (leads r (rank_of a) (rank_of t) 1
    || (leads r (rank_of a) (rank_of t) 2 && nat_eq (rank_of a) second))
