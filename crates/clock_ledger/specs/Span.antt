-- The stamps of a client, which run round a cycle (the timestamps of FICS clients).
use Rattle.std.specs.Prelude.{ℕ, ◌+◌, ◌-◌, ◌%◌, ◌<◌}

-- stamps count milliseconds modulo this number
abbrev pub stamp_cycle : ℕ
stamp_cycle = 10000000

-- a client's stamps are below the cycle
abbrev pub IsStamp : ℕ → Type 0
IsStamp stamp = stamp < stamp_cycle

-- `end - begin` modulo the cycle: the milliseconds from one stamp on to the other
abbrev pub span : ℕ → ℕ → ℕ
span begin end = (end % stamp_cycle + stamp_cycle - begin % stamp_cycle) % stamp_cycle
