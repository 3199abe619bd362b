-- Lines of text: this server's own grammar, printable ASCII.
use Rattle.std.specs.Prelude.{ℕ, ◌≤◌, List, length, All}

-- a byte that a line may have: from the blank to the tilde
abbrev pub IsPrintable : ℕ → Type 0
IsPrintable byte = (0x20 ≤ byte) × (byte ≤ 0x7E)

-- the most bytes that a line has
abbrev pub most_line_bytes : ℕ
most_line_bytes = 1023

-- the most bytes of a text that a player says
abbrev pub most_text_bytes : ℕ
most_text_bytes = 800

-- a line is at most 1,023 such bytes
abbrev pub IsLine : List ℕ → Type 0
IsLine bytes = (length bytes ≤ most_line_bytes) × All IsPrintable bytes
