-- The line on which a text that isn't read leaves the grammar.
use Rattle.std.specs.Prelude.{◌≡◌, ℕ, ◌+◌, ◌≤◌, min, Bool, ◌==◌, List, ◌++◌, length, filter}
use Rattle.pgn_book.specs.declared.game.PgnGame.{PgnGame}
use Rattle.pgn_book.specs.Games.{ReadsGames}

-- a text that is read begins with these bytes
pub record IsBeginning (front : List ℕ) : Type 0 where
  pub more : List ℕ
  pub games : List PgnGame
  pub read : ReadsGames (front ++ more) games

abbrev pub is_feed : ℕ → Bool
is_feed b = b == 10

-- the line on which a text ends: lines are counted from 1, up to the greatest number of 64 bits
abbrev pub line_of_end : List ℕ → ℕ
line_of_end text = min (length (filter is_feed text) + 1) 18446744073709551615

-- the text isn't read, and the line is the last one that its beginnings reach with which a text that is read begins: so
-- it is the line of the first byte with which none goes on, or of the end where the text is such a beginning itself
pub record IsLeftOn (text : List ℕ) (line : ℕ) : Type 0 where
  pub unread : (games : List PgnGame) → ReadsGames text games → ⊥
  pub front : List ℕ
  pub rest : List ℕ
  pub split : text ≡ front ++ rest
  pub begins : IsBeginning front
  pub on_it : line ≡ line_of_end front
  pub last : (other behind : List ℕ) → text ≡ other ++ behind → IsBeginning other → line_of_end other ≤ line

-- a text leaves the grammar on one line
abbrev pub OneLine : Type 0
OneLine = (text : List ℕ) (one other : ℕ) → IsLeftOn text one → IsLeftOn text other → one ≡ other
