-- Reading PGN text from left to right: what is kept between two bytes, and what a byte makes of it.
use Rattle.std.specs.Prelude.{ℕ, ◌+◌, ◌-◌, Bool, true, false, ◌==◌, ◌&&◌, nat_lt, nat_eq, not, if◌then◌else◌, List, [], ◌∷◌, ◌++◌, length, Option, Some, None, unwrap_or, bytes_eq, codes}
use Rattle.std.specs.List.{list_all}
use Rattle.std.specs.Result.{result_ok}
use Rattle.chess_model.specs.Limits.{most_halves}
use Rattle.chess_model.specs.declared.moves.Move.{Move}
use Rattle.chess_model.specs.declared.moves.MoveWord.{MoveWord}
use Rattle.chess_model.specs.Position.{Position}
use Rattle.chess_model.specs.WordAnswer.{word_answer}
use Rattle.move_reader.specs.Reading.{is_empty, reading}
use Rattle.pgn_book.specs.declared.game.PgnResult.{PgnResult}
use Rattle.pgn_book.specs.declared.game.PgnResult.TheVariants.{White, Black, Draw, Open}
use Rattle.pgn_book.specs.declared.game.PgnGame.{PgnGame}
use Rattle.pgn_book.specs.declared.game.TagRow.{TagRow}
use Rattle.pgn_book.specs.declared.stage.GameStage.{GameStage}
use Rattle.pgn_book.specs.declared.stage.GameStage.TheVariants.{Before, Tags, Opened, Named, Told, Moves}
use Rattle.pgn_book.specs.declared.tag_texts.TagTexts.{TagTexts}
use Rattle.pgn_book.specs.declared.place.PlaceInText.{PlaceInText}
use Rattle.pgn_book.specs.declared.place.PlaceInText.TheVariants.{Start, AfterOne, AfterTwo, Between, InLine, InBraces, InWord, InQuotes, InStroke}
use Rattle.pgn_book.specs.Bytes.{is_among, is_space, is_digit, is_name_byte, is_word_byte}
use Rattle.pgn_book.specs.Lexing.{Piece, Word, Glyph, Quoted, Sign, Opening, Closing, Within, is_sign, is_of_line, is_of_braces, is_of_text}
use Rattle.pgn_book.specs.Games.{is_result, position_of_moves, without_praise}

-- ---- what has come of a game

pub record Book : Type 0 where
  pub stage : GameStage
  pub row : TagTexts
  pub moves : List Move

abbrev pub empty_row : TagTexts
empty_row = record { event = None; site = None; date = None; round = None; white = None; black = None }

-- before a game
abbrev pub no_book : Book
no_book = record { stage = Before; row = empty_row; moves = [] }

-- a text that is kept, or else one of that name
abbrev pub noted_as : List ℕ → List ℕ → List ℕ → Option (List ℕ) → Option (List ℕ)
noted_as key name text None = if bytes_eq name key then Some text else None
noted_as key name text (Some first) = Some first

abbrev pub tag_noted : List ℕ → List ℕ → TagTexts → TagTexts
tag_noted name text row = record {
  event = noted_as (codes "Event") name text row.event;
  site = noted_as (codes "Site") name text row.site;
  date = noted_as (codes "Date") name text row.date;
  round = noted_as (codes "Round") name text row.round;
  white = noted_as (codes "White") name text row.white;
  black = noted_as (codes "Black") name text row.black;
}

abbrev pub result_of : List ℕ → PgnResult
result_of word =
    if bytes_eq word (codes "1-0") then White
    else if bytes_eq word (codes "0-1") then Black
    else if bytes_eq word (codes "1/2-1/2") then Draw
    else Open

-- the texts of a game with that row
abbrev pub tags_of : TagTexts → TagRow
tags_of row = record {
  event = unwrap_or row.event (codes "?");
  site = unwrap_or row.site (codes "?");
  date = unwrap_or row.date (codes "????.??.??");
  round = unwrap_or row.round (codes "?");
  white = unwrap_or row.white (codes "?");
  black = unwrap_or row.black (codes "?");
}

-- the game that a book and a result make
abbrev pub game_with : Book → PgnResult → PgnGame
game_with book result = record { tags = tags_of book.row; moves = book.moves; result = result }

abbrev pub game_of_book : Book → List ℕ → PgnGame
game_of_book book word = game_with book (result_of word)

-- what a piece makes of it: maybe a game, and the book for the pieces behind it, unless the piece may not stand there
pub record Taken : Type 0 where
  pub given : Option PgnGame
  pub on : Option Book

abbrev pub goes : Book → Taken
goes book = record { given = None; on = Some book }

abbrev pub fails : Taken
fails = record { given = None; on = None }

abbrev pub gives : PgnGame → Taken
gives g = record { given = Some g; on = Some no_book }

-- the book at another stage
abbrev pub staged : GameStage → Book → Book
staged stage book = record { stage = stage; row = book.row; moves = book.moves }

abbrev pub stage_opened : GameStage → Book → Taken
stage_opened Before book = goes (staged Opened book)
stage_opened Tags book = goes (staged Opened book)
stage_opened _ book = fails

abbrev pub closed : GameStage → Book → Taken
closed Told book = goes (staged Tags book)
closed _ book = fails

-- a piece that is passed over begins the moves, if they haven't begun
abbrev pub piece_passed : GameStage → Book → Taken
piece_passed Before book = goes (staged Moves book)
piece_passed Tags book = goes (staged Moves book)
piece_passed Moves book = goes book
piece_passed _ book = fails

abbrev pub quoted : GameStage → Book → List ℕ → Taken
quoted (Named name) book text =
    goes (record { stage = Told; row = tag_noted name text book.row; moves = book.moves })
quoted _ book text = fails

-- the name of a tag
abbrev pub tag_named : Book → List ℕ → Taken
tag_named book word =
    if list_all is_name_byte word && not (bytes_eq word (codes "FEN")) then goes (staged (Named word) book) else fails

abbrev pub from_word : Position → Option MoveWord → Option Move
from_word p None = None
from_word p (Some word) = result_ok (word_answer p word)

-- the move that a text is read as
unfoldable pub move_read : Position → List ℕ → Option Move
move_read p text = from_word p (reading text)

abbrev pub with_move : Book → Option Move → Taken
with_move book None = fails
with_move book (Some m) = goes (record { stage = Moves; row = book.row; moves = book.moves ++ m ∷ [] })

abbrev pub move_taken : Book → List ℕ → Taken
move_taken book word =
    if nat_lt (length book.moves) most_halves
    then with_move book (move_read (position_of_moves book.moves) (without_praise word))
    else fails

-- a number, a result or a move
abbrev pub piece_told : Book → List ℕ → Taken
piece_told book word =
    if list_all is_digit word then piece_passed book.stage book
    else if is_result word then gives (game_of_book book word)
    else move_taken book word

abbrev pub worded : GameStage → Book → List ℕ → Taken
worded Before book word = piece_told book word
worded Tags book word = piece_told book word
worded Opened book word = tag_named book word
worded (Named name) book word = fails
worded Told book word = fails
worded Moves book word = piece_told book word

abbrev pub signed : Book → ℕ → Taken
signed book b =
    if b == 91 then stage_opened book.stage book else if b == 93 then closed book.stage book
    else piece_passed book.stage book

abbrev pub glyphed : Book → List ℕ → Taken
glyphed book word =
    if is_empty word then fails
    else if list_all is_digit word then piece_passed book.stage book
    else fails

-- what a piece that isn't skipped makes of a book
unfoldable pub took : Book → Piece → Taken
took book (Word word) = worded book.stage book word
took book (Glyph word) = glyphed book word
took book (Quoted text) = quoted book.stage book text
took book (Sign b) = signed book b
took book Opening = piece_passed book.stage book
took book Closing = piece_passed book.stage book
took book (Within b) = piece_passed book.stage book
took book piece = goes book

-- ---- games from pieces

-- the games so far, and whether the text ends behind a whole game
pub record Outcome : Type 0 where
  pub games : List PgnGame
  pub whole : Bool

abbrev pub with_game_first : Option PgnGame → Outcome → Outcome
with_game_first None outcome = outcome
with_game_first (Some g) outcome = record { games = g ∷ outcome.games; whole = outcome.whole }

abbrev pub nothing_read : Outcome
nothing_read = record { games = []; whole = false }

abbrev pub is_before : GameStage → Bool
is_before Before = true
is_before _ = false

abbrev pub all_told : Option Book → List Piece → Outcome
all_told None pieces = nothing_read
all_told (Some book) [] = record { games = []; whole = is_before book.stage }
all_told (Some book) (piece ∷ pieces) = with_game_first (took book piece).given (all_told (took book piece).on pieces)

-- ---- pieces from bytes

pub record State : Type 0 where
  pub place : PlaceInText
  pub depth : ℕ
  pub book : Book

-- what a byte makes of a state: maybe a game, and the state for the bytes behind it, unless no text goes on so
pub record Step : Type 0 where
  pub given : Option PgnGame
  pub on : Option State

abbrev pub state_at : PlaceInText → ℕ → Book → State
state_at place depth book = record { place = place; depth = depth; book = book }

abbrev pub to_place : PlaceInText → ℕ → Option Book → Option State
to_place place depth None = None
to_place place depth (Some book) = Some (state_at place depth book)

-- outside of variations, a byte that is no word's, no white space, and begins no comment and no variation
abbrev pub outside : Book → ℕ → Option State
outside book b =
    if b == 36 then Some (state_at (InWord true []) 0 book)
    else if b == 34 then Some (state_at (InQuotes []) 0 book)
    else if is_sign b then to_place (Between false) 0 (took book (Sign b)).on
    else None

abbrev pub opens : ℕ → Book → Option State
opens depth book = if nat_lt depth 100 then to_place (Between false) (depth + 1) (took book Opening).on else None

abbrev pub closes : ℕ → Book → Option State
closes depth book = if nat_eq depth 0 then None else to_place (Between false) (depth - 1) (took book Closing).on

-- a parenthesis, or another byte that begins no comment
abbrev pub nested : ℕ → Book → ℕ → Option State
nested depth book b =
    if b == 40 then opens depth book
    else if b == 41 then closes depth book
    else if nat_eq depth 0 then outside book b
    else to_place (Between false) depth (took book (Within b)).on

-- the first byte of a comment
abbrev pub skipping : Bool → ℕ → Book → ℕ → Option State
skipping fresh depth book b =
    if b == 37 && fresh then Some (state_at InLine depth book)
    else if b == 59 then Some (state_at InLine depth book)
    else if b == 123 then Some (state_at InBraces depth book)
    else nested depth book b

abbrev pub spaced : Bool → ℕ → Book → ℕ → Option State
spaced fresh depth book b =
    if is_space b then Some (state_at (Between (b == 10)) depth book) else skipping fresh depth book b

-- the first byte of a piece
abbrev pub piece_begun : Bool → ℕ → Book → ℕ → Option State
piece_begun fresh depth book b =
    if is_word_byte b && nat_eq depth 0 then Some (state_at (InWord false (b ∷ [])) depth book)
    else spaced fresh depth book b

abbrev pub begun_behind : ℕ → Option Book → ℕ → Option State
begun_behind depth None b = None
begun_behind depth (Some book) b = piece_begun false depth book b

abbrev pub piece_of : Bool → List ℕ → Piece
piece_of true word = Glyph word
piece_of false word = Word word

-- a byte more in a text of at most 255
abbrev pub longer : PlaceInText → List ℕ → ℕ → Book → Option State
longer place text depth book = if nat_lt (length text) 255 then Some (state_at place depth book) else None

abbrev pub silent : Option State → Step
silent on = record { given = None; on = on }

abbrev pub word_ended : Taken → ℕ → ℕ → Step
word_ended taken depth b = record { given = taken.given; on = begun_behind depth taken.on b }

-- the first byte of the text
abbrev pub text_started : ℕ → Book → ℕ → Option State
text_started depth book b = if b == 239 then Some (state_at AfterOne depth book) else piece_begun true depth book b

-- a byte in a line that is skipped, and in braces
abbrev pub in_line : ℕ → Book → ℕ → Option State
in_line depth book b =
    if is_of_line b then Some (state_at InLine depth book) else Some (state_at (Between true) depth book)

abbrev pub in_braces : ℕ → Book → ℕ → Option State
in_braces depth book b =
    if is_of_braces b then Some (state_at InBraces depth book) else Some (state_at (Between false) depth book)

-- a byte in quotes, and behind a stroke in them
abbrev pub in_quotes : List ℕ → ℕ → Book → ℕ → Option State
in_quotes text depth book b =
    if b == 34 then to_place (Between false) depth (took book (Quoted text)).on
    else if b == 92 then Some (state_at (InStroke text) depth book)
    else if is_of_text b then longer (InQuotes (text ++ b ∷ [])) text depth book
    else None

abbrev pub in_stroke : List ℕ → ℕ → Book → ℕ → Option State
in_stroke text depth book b =
    if is_among (34 ∷ 92 ∷ []) b then longer (InQuotes (text ++ b ∷ [])) text depth book else None

abbrev pub step_in : PlaceInText → ℕ → Book → ℕ → Step
step_in Start depth book b = silent (text_started depth book b)
step_in AfterOne depth book b = silent (if b == 187 then Some (state_at AfterTwo depth book) else None)
step_in AfterTwo depth book b = silent (if b == 191 then Some (state_at (Between true) depth book) else None)
step_in (Between fresh) depth book b = silent (piece_begun fresh depth book b)
step_in InLine depth book b = silent (in_line depth book b)
step_in InBraces depth book b = silent (in_braces depth book b)
step_in (InWord glyph word) depth book b =
    if is_word_byte b then silent (longer (InWord glyph (word ++ b ∷ [])) word depth book)
    else word_ended (took book (piece_of glyph word)) depth b
step_in (InQuotes text) depth book b = silent (in_quotes text depth book b)
step_in (InStroke text) depth book b = silent (in_stroke text depth book b)

unfoldable pub step : State → ℕ → Step
step s b = step_in s.place s.depth s.book b

-- whether nothing of a game is left
abbrev pub is_at_rest : ℕ → Option Book → Bool
is_at_rest depth None = false
is_at_rest depth (Some book) = nat_eq depth 0 && is_before book.stage

abbrev pub resting : ℕ → Option Book → Outcome
resting depth book = record { games = []; whole = is_at_rest depth book }

-- the end of the text
abbrev pub finished_in : PlaceInText → ℕ → Book → Outcome
finished_in Start depth book = resting depth (Some book)
finished_in (Between fresh) depth book = resting depth (Some book)
finished_in InLine depth book = resting depth (Some book)
finished_in (InWord glyph word) depth book =
    with_game_first (took book (piece_of glyph word)).given (resting depth (took book (piece_of glyph word)).on)
finished_in _ depth book = nothing_read

-- what the end of the text makes of a state: maybe a game, and the state behind it, unless the text may not end there
abbrev pub ended_in : PlaceInText → ℕ → Book → Step
ended_in Start depth book = silent (Some (state_at (Between false) depth book))
ended_in (Between fresh) depth book = silent (Some (state_at (Between false) depth book))
ended_in InLine depth book = silent (Some (state_at (Between false) depth book))
ended_in (InWord glyph word) depth book = record {
  given = (took book (piece_of glyph word)).given;
  on = to_place (Between false) depth (took book (piece_of glyph word)).on;
}
ended_in _ depth book = silent None

-- the games of what follows, and whether it ends behind a whole game
abbrev pub read_from : Option State → List ℕ → Outcome
read_from None text = nothing_read
read_from (Some s) [] = finished_in s.place s.depth s.book
read_from (Some s) (b ∷ text) = with_game_first (step s b).given (read_from (step s b).on text)

abbrev pub first_state : State
first_state = state_at Start 0 no_book

-- ---- pieces of a text

-- the games that some bytes give, and the state for the bytes behind them, unless no text goes on so
pub record Gone : Type 0 where
  pub games : List PgnGame
  pub on : Option State

abbrev pub with_given : Option PgnGame → Gone → Gone
with_given None rest = rest
with_given (Some g) rest = record { games = g ∷ rest.games; on = rest.on }

abbrev pub gone : Option State → List ℕ → Gone
gone None text = record { games = []; on = None }
gone (Some s) [] = record { games = []; on = Some s }
gone (Some s) (b ∷ text) = with_given (step s b).given (gone (step s b).on text)

-- what is gone through one behind the other
abbrev pub gone_both : Gone → Gone → Gone
gone_both one other = record { games = one.games ++ other.games; on = other.on }

abbrev pub adding_all : List PgnGame → Outcome → Outcome
adding_all games outcome = record { games = games ++ outcome.games; whole = outcome.whole }
