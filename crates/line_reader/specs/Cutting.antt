-- A line that has begun, and what one byte more makes of it.
use Rattle.std.specs.Prelude.{ℕ, Bool, ◌&&◌, ◌==◌, if◌then◌else◌, List, [], ◌∷◌, ◌++◌, take}
use Rattle.line_reader.specs.declared.telnet.Telnet.{Telnet}
use Rattle.fics_words.specs.Pieces.{is_kept}
use Rattle.line_reader.specs.Telnet.{after, is_data}

-- where the next byte stands, and what has come of the line
pub record Cutting : Type 0 where
  pub telnet : Telnet
  pub line : List ℕ

-- an LF among data ends the line
abbrev pub ends_line : Telnet → ℕ → Bool
ends_line telnet byte = is_data telnet byte && byte == 10

-- the line with a byte more, where it is one of a line; no more is kept than tells that it is too long
abbrev pub grown : Telnet → List ℕ → ℕ → List ℕ
grown telnet line byte = if (is_data telnet byte && is_kept byte) then take 1034 (line ++ byte ∷ []) else line

-- after a byte that doesn't end the line
abbrev pub passed : Cutting → ℕ → Cutting
passed cutting byte = record { telnet = after cutting.telnet byte; line = grown cutting.telnet cutting.line byte }
