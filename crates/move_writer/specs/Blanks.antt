-- Texts that stand as one field of a line.
use Rattle.std.specs.Prelude.{ℕ, ◌≤◌, ◌≢◌, List, All}

-- a byte that shows: printable ASCII, the blank aside
abbrev pub Shows : ℕ → Type 0
Shows byte = (33 ≤ byte) × (byte ≤ 126)

-- no byte of the text is a blank, so it is one field of a line that is cut at blanks
abbrev pub HasNoBlank : List ℕ → Type 0
HasNoBlank text = All (λ byte. byte ≢ 32) text
