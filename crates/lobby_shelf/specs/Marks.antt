-- Marks of players: small numbers by which a game that a handle doesn't play in is told without a look at its players.
-- This server's own.
use Rattle.std.specs.Prelude.{◌≡◌, ℕ, ◌+◌, ◌*◌, ◌%◌, ◌==◌, Bool, ◌||◌, List, [], ◌∷◌, Option, None, Some, slice_get, refl}
use Rattle.fics_words.specs.Handle.{key_of}
use Rattle.lobby_shelf.specs.declared.marks.PlayerMarks.{PlayerMarks}
use Rattle.lobby_shelf.specs.declared.shelved.Shelved.{Shelved}

-- the number that letters are told by, once a number stands for those before them
abbrev pub mark_from : ℕ → List ℕ → ℕ
mark_from sum [] = sum
mark_from sum (letter ∷ letters) = mark_from ((sum * 31 + letter) % 65536) letters

-- the mark of the handle with this key
abbrev pub mark : List ℕ → ℕ
mark key = mark_from 0 key

-- the mark of a player, and 0 for nobody
abbrev pub mark_in : Option (List ℕ) → ℕ
mark_in None = 0
mark_in (Some name) = mark (key_of name)

-- the marks of the players of these names, by their seats
abbrev pub marks_of : List (List ℕ) → PlayerMarks
marks_of names = record {
  first = mark_in (slice_get names 0);
  second = mark_in (slice_get names 1);
  third = mark_in (slice_get names 2);
  fourth = mark_in (slice_get names 3);
}

-- one of the players has this mark
abbrev pub has_mark : ℕ → PlayerMarks → Bool
has_mark mark marks = (marks.first == mark) || (marks.second == mark) || (marks.third == mark) || (marks.fourth == mark)

-- the marks of the games' players
abbrev pub marks_row : Shelved → PlayerMarks
marks_row row = marks_of row.game.names

example_marks : mark [] ≡ 0
example_marks = refl
