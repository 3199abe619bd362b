-- What holds of every state of the reader: what has come of a game may be exported, and variations stand in the moves.
use Rattle.std.specs.Prelude.{◌≡◌, ◌⊎◌, ℕ, ◌≤◌, List, length, map, Option, Some, None}
use Rattle.chess_model.specs.Limits.{most_halves}
use Rattle.chess_model.specs.declared.variant.Variant.TheVariants.{Chess}
use Rattle.chess_model.specs.Allowed.{IsLegal}
use Rattle.pgn_book.specs.declared.place.PlaceInText.{PlaceInText}
use Rattle.pgn_book.specs.declared.place.PlaceInText.TheVariants.{InWord, InQuotes, InStroke}
use Rattle.pgn_book.specs.declared.stage.GameStage.{GameStage}
use Rattle.pgn_book.specs.declared.stage.GameStage.TheVariants.{Moves}
use Rattle.pgn_book.specs.Lexing.{IsText}
use Rattle.pgn_book.specs.Games.{on_board}
use Rattle.pgn_book.specs.Reading.{Book, State}

-- a text that was told may stand in a tag
abbrev pub IsTextIfTold : Option (List ℕ) → Type 0
IsTextIfTold None = Unit {0}
IsTextIfTold (Some text) = IsText text

-- the moves so far are legal and not too many, and the texts so far may stand in tags
pub record IsSoundBook (book : Book) : Type 0 where
  pub legal : IsLegal Chess (map on_board book.moves)
  pub most : length book.moves ≤ most_halves
  pub event : IsTextIfTold book.row.event
  pub site : IsTextIfTold book.row.site
  pub date : IsTextIfTold book.row.date
  pub round : IsTextIfTold book.row.round
  pub white : IsTextIfTold book.row.white
  pub black : IsTextIfTold book.row.black

-- words and texts stand outside of variations, and these stand in the moves; a text that has begun may stand in a tag
abbrev pub IsSoundPlace : PlaceInText → ℕ → GameStage → Type 0
IsSoundPlace (InWord glyph word) depth stage = depth ≡ 0
IsSoundPlace (InQuotes text) depth stage = (depth ≡ 0) × IsText text
IsSoundPlace (InStroke text) depth stage = (depth ≡ 0) × IsText text
IsSoundPlace _ depth stage = (depth ≡ 0) ⊎ (stage ≡ Moves)

pub record IsSoundState (s : State) : Type 0 where
  pub place : IsSoundPlace s.place s.depth s.book.stage
  pub book : IsSoundBook s.book

-- the same where a text goes on
abbrev pub IsSoundIf : Option State → Type 0
IsSoundIf None = Unit {0}
IsSoundIf (Some s) = IsSoundState s
