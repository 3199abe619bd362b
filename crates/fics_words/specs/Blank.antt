-- The blank, which parts the words of a line: the space alone.
use Rattle.std.specs.Prelude.{ℕ, ◌==◌, Bool}

abbrev pub blank : ℕ
blank = 0x20

abbrev pub is_blank : ℕ → Bool
is_blank byte = byte == blank
