use Rattle.std.proofs.Common.{◌≢◌, ℕ, ◌<◌, List, get_or}
use Rattle.fics_words.specs.Handle.{key_of}
use Rattle.replay_core.proofs.seat_line.are_different.Given as goal

-- no name before the place is that of a player before it
abbrev pub invariant-loop-place : goal.invariant-loop-place
invariant-loop-place l =
    (one other : ℕ) (d : List ℕ) → one < other → other < l.place
    → key_of (get_or l.names one d) ≢ key_of (get_or l.names other d)
