-- The lines of a text of bytes.
use Rattle.std.specs.Prelude.{◌≡◌, ◌≢◌, ℕ, Bool, true, false, ◌==◌, if◌then◌else◌, List, [], ◌∷◌, filter, All}
use Rattle.std.specs.List.{join_with_byte}
use Rattle.fics_words.specs.Pieces.{is_kept, pieces, but_last, last_of}

-- no byte is a line feed
abbrev pub HasNoLineFeed : List ℕ → Type 0
HasNoLineFeed part = All (λ c. (c == 10) ≡ false) part

-- the lines of a text that has come to its end: the piece behind the last line feed is a line too
abbrev pub lines_of : List ℕ → List (List ℕ)
lines_of text = pieces (filter is_kept text)

-- a line that isn't empty
abbrev pub is_written : List ℕ → Bool
is_written [] = false
is_written (byte ∷ bytes) = true

-- what stands behind the last line feed
abbrev pub last_line : List ℕ → List ℕ
last_line text = last_of (lines_of text)

-- the lines that ended by a line feed
abbrev pub whole_lines : List ℕ → List (List ℕ)
whole_lines text = but_last (lines_of text)

-- the lines that have come: all where the text has ended, and else the whole ones
abbrev pub lines_come : Bool → List ℕ → List (List ℕ)
lines_come ended text = if ended then lines_of text else whole_lines text

-- the parts of a text: joined by line feeds they give the text, and no part has a line feed
pub record AreParts (text : List ℕ) (parts : List (List ℕ)) : Type 0 where
  pub some : parts ≢ []
  pub joined : join_with_byte 10 parts ≡ text
  pub unbroken : All (λ part. All (λ b. b ≢ 10) part) parts
