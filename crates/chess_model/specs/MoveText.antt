-- The text of a move: 1 to 12 bytes of printable ASCII.
use Rattle.std.specs.Prelude.{ℕ, ◌<◌, ◌≤◌, Bool, ◌&&◌, IsTrue, nat_le, List, length}
use Rattle.std.specs.List.{list_all}

-- a space, or a character that shows in ASCII
abbrev pub is_printable : ℕ → Bool
is_printable b = nat_le 32 b && nat_le b 126

-- 1 to 12 printable bytes
pub record IsMoveText (text : List ℕ) : Type 0 where
  pub some : 0 < length text
  pub most : length text ≤ 12
  pub printable : IsTrue (list_all is_printable text)
