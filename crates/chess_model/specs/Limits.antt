-- The bounds of a game.
use Rattle.std.specs.Prelude.{ℕ}

-- the most half-moves that are made on one board
abbrev pub most_halves : ℕ
most_halves = 1200

-- the most minutes that a clock starts with, and the most seconds of increment
abbrev pub most_time : ℕ
most_time = 600

-- how many arrays Fischer random has
abbrev pub arrays : ℕ
arrays = 960
