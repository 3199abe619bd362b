-- The lines that wait for a player, the oldest first, and the room that is reserved for more. This server's own.
use Rattle.std.specs.Prelude.{ℕ, ◌-◌, Bool, cond, nat_le, max, List, [], ◌∷◌, ◌++◌, length, take}
use Rattle.collections.specs.ItemsWithRoom.{ItemsWithRoom}

-- the lines, and for how many more there is room that takes no memory
abbrev pub WaitingLines : Type 0
WaitingLines = ItemsWithRoom (List ℕ)

-- 512 lines wait
abbrev pub is_full : List (List ℕ) → Bool
is_full lines = nat_le 512 (length lines)

-- the lines with one more behind the others; where 512 wait nothing changes
abbrev pub with_line : List ℕ → List (List ℕ) → List (List ℕ)
with_line line lines = cond (is_full lines) lines (lines ++ line ∷ [])

-- the same of lines with room, of which a line that is put takes one place, where there is any
abbrev pub with_line_put : List ℕ → WaitingLines → WaitingLines
with_line_put line waiting = record {
  items = with_line line waiting.items;
  room = cond (is_full waiting.items) waiting.room (waiting.room - 1);
}

-- the lines without the one that was put last
abbrev pub without_last : List (List ℕ) → List (List ℕ)
without_last lines = take (length lines - 1) lines

-- the lines with room for one more
abbrev pub with_room : WaitingLines → WaitingLines
with_room waiting = record waiting { room = max waiting.room 1 }

-- no lines, and no room
abbrev pub nothing_waits : WaitingLines
nothing_waits = record { items = []; room = 0 }
