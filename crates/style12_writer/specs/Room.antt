-- The room that a line has while it is written.
use Rattle.std.specs.Prelude.{ℕ, List, ◌+◌, ◌≤◌, IsTrue, length, take}
use Rattle.std.specs.List.{list_all}
use Rattle.chess_model.specs.MoveText.{is_printable}

-- the most bytes of a line while it is written; the board line, the longest, has at most 412
abbrev pub most_bytes : ℕ
most_bytes = 512

-- so many more bytes may be appended to the line
abbrev pub HasRoomInLine : ℕ → List ℕ → Type 0
HasRoomInLine more line = length line + more ≤ most_bytes

-- so many of the bytes, the first ones, are a line while it is written
pub record HoldsDraft (bytes : List ℕ) (len : ℕ) : Type 0 where
  pub within : len ≤ most_bytes
  pub printable : IsTrue (list_all is_printable (take len bytes))
