-- The lines of what members say to others. This server's own, and the words are FICS's.
use Rattle.std.specs.Prelude.{ℕ, ◌≤◌, List, ◌++◌, length, All}
use Rattle.fics_words.specs.Line.{IsPrintable, most_text_bytes}

-- the line of what a member says: its name, how it says it, and its text
abbrev pub spoken_line : List ℕ → List ℕ → List ℕ → List ℕ
spoken_line name wording text = name ++ wording ++ text

-- what a member says has at most 800 bytes, so that the line of it isn't too long
abbrev pub IsText : List ℕ → Type 0
IsText text = (length text ≤ most_text_bytes) × All IsPrintable text

-- and how it says it takes at most 30
abbrev pub IsWording : List ℕ → Type 0
IsWording wording = (length wording ≤ 30) × All IsPrintable wording
