-- The geometry of the board: files, ranks and the squares between two squares (FIDE Laws 2.1 and 2.4).
use Rattle.std.specs.Prelude.{ℕ, ◌+◌, ◌-◌, ◌*◌, ◌/◌, ◌%◌, min, max}
use Rattle.std.specs.Int.{abs_diff}

-- the file of a square, 0 for a to 7 for h
abbrev pub file_of : ℕ → ℕ
file_of s = s % 8

-- the rank of a square, 0 for the first to 7 for the eighth
abbrev pub rank_of : ℕ → ℕ
rank_of s = s / 8

-- the square on a file and a rank
abbrev pub square_at : ℕ → ℕ → ℕ
square_at file rank = 8 * rank + file

abbrev pub files_apart : ℕ → ℕ → ℕ
files_apart a b = abs_diff (file_of a) (file_of b)

abbrev pub ranks_apart : ℕ → ℕ → ℕ
ranks_apart a b = abs_diff (rank_of a) (rank_of b)

-- how many steps a king needs from a to b on an empty board
abbrev pub distance : ℕ → ℕ → ℕ
distance a b = max (files_apart a b) (ranks_apart a b)

-- k steps from one number toward another, and not past it
abbrev pub toward : ℕ → ℕ → ℕ → ℕ
toward from to k = max (from - k) (min (from + k) to)

-- the square k steps from a toward b
abbrev pub along : ℕ → ℕ → ℕ → ℕ
along a b k = square_at (toward (file_of a) (file_of b) k) (toward (rank_of a) (rank_of b) k)
