-- The pieces of PGN text: words, texts in quotes, signs, variations, and what is skipped between them.
use Rattle.std.specs.Prelude.{◌≡◌, ◌≢◌, ℕ, ◌+◌, ◌-◌, ◌<◌, ◌≤◌, Bool, true, false, not, ◌==◌, ◌&&◌, ◌||◌, nat_le, if◌then◌else◌, List, [], ◌∷◌, ◌++◌, length, take, drop, bytes_eq}
use Rattle.pgn_book.specs.Bytes.{is_among, is_space, is_word_byte, Every, StopsBefore}

pub data Piece : Type 0 where
  -- a byte of white space
  Blank : ℕ → Piece
  -- a line that begins with `%`, without its end
  Escape : List ℕ → Piece
  -- a comment in braces
  Braces : List ℕ → Piece
  -- a comment from `;` to the end of the line, without that end
  Comment : List ℕ → Piece
  -- a word, as long as it goes
  Word : List ℕ → Piece
  -- `$` and a word right behind it
  Glyph : List ℕ → Piece
  -- a text in quotes
  Quoted : List ℕ → Piece
  -- `[`, `]` or `.`
  Sign : ℕ → Piece
  -- the parentheses of a variation
  Opening : Piece
  Closing : Piece
  -- any other byte inside a variation
  Within : ℕ → Piece

-- a byte of a text as it stands between quotes: `"` and `\` have a stroke `\` before them
abbrev pub escaped_byte : ℕ → List ℕ
escaped_byte b = if is_among (34 ∷ 92 ∷ []) b then 92 ∷ b ∷ [] else b ∷ []

abbrev pub escaped : List ℕ → List ℕ
escaped [] = []
escaped (b ∷ text) = escaped_byte b ++ escaped text

-- how a piece is written
abbrev pub piece_spelling : Piece → List ℕ
piece_spelling (Blank b) = b ∷ []
piece_spelling (Escape body) = 37 ∷ body
piece_spelling (Braces body) = 123 ∷ (body ++ 125 ∷ [])
piece_spelling (Comment body) = 59 ∷ body
piece_spelling (Word word) = word
piece_spelling (Glyph word) = 36 ∷ word
piece_spelling (Quoted text) = 34 ∷ (escaped text ++ 34 ∷ [])
piece_spelling (Sign b) = b ∷ []
piece_spelling Opening = 40 ∷ []
piece_spelling Closing = 41 ∷ []
piece_spelling (Within b) = b ∷ []

-- a byte of a line: any but a line feed
abbrev pub is_of_line : ℕ → Bool
is_of_line b = not (b == 10)

-- a byte of a comment in braces
abbrev pub is_of_braces : ℕ → Bool
is_of_braces b = not (b == 125)

-- a byte of a text in quotes
abbrev pub is_of_text : ℕ → Bool
is_of_text b = nat_le 32 b

-- the rest of a line, which goes on to a line feed or to the end
pub record IsRestOfLine (body rest : List ℕ) : Type 0 where
  pub no_feed : Every is_of_line body
  pub to_end : StopsBefore is_of_line rest

-- a word of at most 255 bytes that goes as far as it can
pub record IsWord (word rest : List ℕ) : Type 0 where
  pub bytes : Every is_word_byte word
  pub most : length word ≤ 255
  pub whole : StopsBefore is_word_byte rest

-- a text for quotes: at most 255 bytes, none of them below 32
pub record IsText (text : List ℕ) : Type 0 where
  pub bytes : Every is_of_text text
  pub most : length text ≤ 255

-- where a piece begins: how deep inside variations, and whether at the beginning of a line
pub record At : Type 0 where
  pub depth : ℕ
  pub fresh : Bool

-- `[`, `]` and `.`
abbrev pub is_sign : ℕ → Bool
is_sign = is_among (91 ∷ 93 ∷ 46 ∷ [])

-- a byte that is white space, begins a comment, or is a parenthesis
abbrev pub is_reserved : ℕ → Bool
is_reserved b = is_space b || is_among (59 ∷ 123 ∷ 40 ∷ 41 ∷ []) b

-- which pieces may stand there, with that rest behind them; outside of variations words, texts and signs, inside them
-- any bytes; comments and white space everywhere
abbrev pub MayStand : At → Piece → List ℕ → Type 0
MayStand at (Blank b) rest = is_space b ≡ true
MayStand at (Escape body) rest = (at.fresh ≡ true) × IsRestOfLine body rest
MayStand at (Braces body) rest = Every is_of_braces body
MayStand at (Comment body) rest = IsRestOfLine body rest
MayStand at (Word word) rest = (at.depth ≡ 0) × (word ≢ []) × IsWord word rest
MayStand at (Glyph word) rest = (at.depth ≡ 0) × IsWord word rest
MayStand at (Quoted text) rest = (at.depth ≡ 0) × IsText text
MayStand at (Sign b) rest = (at.depth ≡ 0) × (is_sign b ≡ true)
MayStand at Opening rest = at.depth < 100
MayStand at Closing rest = 0 < at.depth
MayStand at (Within b) rest = (0 < at.depth) × (is_reserved b ≡ false) × ((b == 37 && at.fresh) ≡ false)

-- where the next piece begins
abbrev pub next_place : At → Piece → At
next_place at (Blank b) = record { depth = at.depth; fresh = b == 10 }
next_place at Opening = record { depth = at.depth + 1; fresh = false }
next_place at Closing = record { depth = at.depth - 1; fresh = false }
next_place at piece = record { depth = at.depth; fresh = false }

-- the text is those pieces, one behind the other, and each variation is closed
abbrev pub Lexes : At → List ℕ → List Piece → Type 0
Lexes at text [] = (text ≡ []) × (at.depth ≡ 0)
Lexes at text (piece ∷ pieces) =
    (rest : List ℕ) × (text ≡ piece_spelling piece ++ rest) × MayStand at piece rest
    × Lexes (next_place at piece) rest pieces

-- the text without the three bytes by which UTF-8 may be marked
abbrev pub unmarked : List ℕ → List ℕ
unmarked text = if bytes_eq (take 3 text) (239 ∷ 187 ∷ 191 ∷ []) then drop 3 text else text

abbrev pub at_start : At
at_start = record { depth = 0; fresh = true }

-- a piece that is skipped
abbrev pub is_skipped : Piece → Bool
is_skipped (Blank b) = true
is_skipped (Escape body) = true
is_skipped (Braces body) = true
is_skipped (Comment body) = true
is_skipped _ = false
