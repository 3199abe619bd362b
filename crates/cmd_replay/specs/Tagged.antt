-- How a transcript shows what is written to a session.
use Rattle.std.specs.Prelude.{ℕ, List, [], ◌∷◌, ◌++◌, codes, decimal}
use Rattle.cmd_lines.specs.Lines.{lines_of}

-- all lines, but an empty one at the end, behind which nothing came
abbrev pub shown : List (List ℕ) → List (List ℕ)
shown [] = []
shown ([] ∷ []) = []
shown ((byte ∷ bytes) ∷ []) = (byte ∷ bytes) ∷ []
shown (one ∷ two ∷ lines) = one ∷ shown (two ∷ lines)

-- a line of a session: its number, a bar and the line
abbrev pub tagged_line : ℕ → List ℕ → List ℕ
tagged_line session line = decimal session ++ codes "|" ++ line ++ codes "\n"

abbrev pub tagged_lines : ℕ → List (List ℕ) → List ℕ
tagged_lines session [] = []
tagged_lines session (line ∷ lines) = tagged_line session line ++ tagged_lines session lines

-- the bytes that are written to a session, line by line, without CR and NUL
abbrev pub tagged : ℕ → List ℕ → List ℕ
tagged session bytes = tagged_lines session (shown (lines_of bytes))
