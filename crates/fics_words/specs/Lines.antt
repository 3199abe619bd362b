-- The lines of a block of bytes, told apart by their ends. This server's own.
use Rattle.std.specs.Prelude.{◌≡◌, ◌≤◌, ◌-◌, ℕ, List, [], ◌∷◌, take, drop, length}
use Rattle.fics_words.specs.Line.{IsLine}

-- the bytes from `start` up to `end`
abbrev pub bytes_between : List ℕ → ℕ → ℕ → List ℕ
bytes_between bytes start end = take (end - start) (drop start bytes)

-- the lines from `start` on, one behind the other, where each ends
abbrev pub lines_between : List ℕ → ℕ → List ℕ → List (List ℕ)
lines_between bytes start [] = []
lines_between bytes start (end ∷ ends) = bytes_between bytes start end ∷ lines_between bytes end ends

-- the bytes from one place up to another are a line
pub record IsPart (bytes : List ℕ) (start end : ℕ) : Type 0 where
  pub forward : start ≤ end
  pub within : end ≤ length bytes
  pub line : IsLine (bytes_between bytes start end)

-- between these ends stand lines, and all bytes from `start` on are in them
abbrev pub AreEnds : List ℕ → ℕ → List ℕ → Type 0
AreEnds bytes start [] = start ≡ length bytes
AreEnds bytes start (end ∷ ends) = IsPart bytes start end × AreEnds bytes end ends
