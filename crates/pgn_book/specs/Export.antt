-- The export form of a game: seven tags, an empty line, the moves in lines of at most 79 bytes, an empty line.
use Rattle.std.specs.Prelude.{ℕ, ◌+◌, ◌/◌, ◌%◌, ◌≤◌, nat_le, nat_eq, if◌then◌else◌, List, [], ◌∷◌, ◌++◌, length, map, codes, decimal}
use Rattle.chess_model.specs.Limits.{most_halves}
use Rattle.chess_model.specs.declared.moves.Move.{Move}
use Rattle.chess_model.specs.declared.variant.Variant.TheVariants.{Chess}
use Rattle.chess_model.specs.Allowed.{IsLegal}
use Rattle.rules_reading.specs.ReadsBack.{pretty_in}
use Rattle.pgn_book.specs.declared.game.PgnGame.{PgnGame}
use Rattle.pgn_book.specs.Lexing.{escaped, IsText}
use Rattle.pgn_book.specs.Games.{result_text, on_board, position_of_moves}

-- a tag on a line of its own
abbrev pub tag_line : List ℕ → List ℕ → List ℕ
tag_line name text = codes "[" ++ name ++ codes " \"" ++ escaped text ++ codes "\"]\n"

abbrev pub tag_lines : PgnGame → List ℕ
tag_lines g =
    tag_line (codes "Event") g.tags.event ++ tag_line (codes "Site") g.tags.site
    ++ tag_line (codes "Date") g.tags.date
    ++ tag_line (codes "Round") g.tags.round
    ++ tag_line (codes "White") g.tags.white
    ++ tag_line (codes "Black") g.tags.black
    ++ tag_line (codes "Result") (result_text g.result)

-- the number before each move of White, which is an even one counted from 0
abbrev pub number_at : ℕ → List (List ℕ)
number_at place = if nat_eq (place % 2) 0 then (decimal (place / 2 + 1) ++ codes ".") ∷ [] else []

-- the tokens of the moves behind those before them: numbers and pretty texts
abbrev pub move_tokens : List Move → List Move → List (List ℕ)
move_tokens before [] = []
move_tokens before (m ∷ moves) =
    number_at (length before) ++ pretty_in (position_of_moves before) m ∷ move_tokens (before ++ m ∷ []) moves

-- tokens in lines, from a column on; column 0 is the beginning of a line. A token stands behind a blank where the line
-- stays at most 79 bytes, else on a new line
abbrev pub laid : ℕ → List (List ℕ) → List ℕ
laid column [] = []
laid column (token ∷ tokens) =
    if nat_eq column 0 then token ++ laid (length token) tokens
    else if nat_le (column + 1 + length token) 79 then 32 ∷ (token ++ laid (column + 1 + length token) tokens)
    else 10 ∷ (token ++ laid (length token) tokens)

abbrev pub movetext : PgnGame → List ℕ
movetext g = laid 0 (move_tokens [] g.moves ++ result_text g.result ∷ [])

abbrev pub export_text : PgnGame → List ℕ
export_text g = tag_lines g ++ codes "\n" ++ movetext g ++ codes "\n\n"

-- a game that can be exported: what the reading allows
pub record IsExportable (g : PgnGame) : Type 0 where
  pub legal : IsLegal Chess (map on_board g.moves)
  pub most : length g.moves ≤ most_halves
  pub event : IsText g.tags.event
  pub site : IsText g.tags.site
  pub date : IsText g.tags.date
  pub round : IsText g.tags.round
  pub white : IsText g.tags.white
  pub black : IsText g.tags.black
