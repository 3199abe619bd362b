-- Squares of the board have coordinates below 8, and so do those on the way from one to another.
use Rattle.std.proofs.Common.{ℕ, ◌<◌, arith}
use Rattle.chess_model.specs.Squares.{file_of, rank_of, toward, along}

pub file-lt : (s : ℕ) → file_of s < 8
file-lt s = omega arith

pub rank-lt : (s : ℕ) → s < 64 → rank_of s < 8
rank-lt s l = omega arith

pub toward-lt : (x y k : ℕ) → x < 8 → y < 8 → toward x y k < 8
toward-lt x y k a b = omega arith

pub along-lt : (a t k : ℕ) → a < 64 → t < 64 → along a t k < 64
along-lt a t k la lt =
    let p = toward-lt (file_of a) (file_of t) k (file-lt a) (file-lt t) in
    let q = toward-lt (rank_of a) (rank_of t) k (rank-lt a la) (rank-lt t lt) in
    omega (arith, p, q)
