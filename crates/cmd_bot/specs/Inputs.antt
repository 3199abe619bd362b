-- What the lines of `bot` say, as a player reads them: a variant, and half-moves from its start.
use Rattle.std.specs.Prelude.{◌≡◌, ◌≢◌, ℕ, ◌-◌, ◌<◌, ◌≤◌, false, List, [], ◌∷◌, length, filter, take, All, Some, None, ⊤}
use Rattle.fics_words.specs.Line.{most_line_bytes}
use Rattle.chess_model.specs.Limits.{most_halves}
use Rattle.chess_model.specs.declared.moves.Move.{Move}
use Rattle.chess_model.specs.declared.moves.MoveWord.{MoveWord}
use Rattle.chess_model.specs.declared.variant.Variant.{Variant}
use Rattle.chess_model.specs.declared.variant.Variant.TheVariants.{Bughouse, Crazyhouse}
use Rattle.chess_model.specs.Answer.{IsAnswer}
use Rattle.chess_model.specs.Result.{is_end, result}
use Rattle.chess_model.specs.VariantWord.{IsNumbered, word_of}
use Rattle.move_reader.specs.Spellings.{IsReading}
use Rattle.cmd_lines.specs.Lines.{is_written}
use Rattle.cmd_bot.specs.BotLines.{BotState}
use Rattle.cmd_bot.specs.Game.{BotGame, new_game, bot_position, with_move}

-- the line names a variant of one board that the bot plays so many half-moves ahead
pub record NamesVariant (depth : ℕ) (line : List ℕ) (variant : Variant) : Type 0 where
  pub named : line ≡ word_of variant
  pub numbered : IsNumbered variant
  pub one_board : variant ≢ Bughouse
  pub shallow : variant ≡ Crazyhouse → depth ≤ 3

-- the game goes on, and the half-move is the answer to the move word that the line spells
pub record IsNextMove (game : BotGame) (line : List ℕ) (m : Move) : Type 0 where
  pub word : MoveWord
  pub reads : IsReading line word
  pub answers : IsAnswer (bot_position game) word m
  pub goes_on : is_end (result (bot_position game)) ≡ false
  pub few : length game.moves < most_halves

-- these lines give these half-moves, each in the position of those before it
abbrev pub Follow : BotGame → List (List ℕ) → List Move → Type 0
Follow game [] [] = ⊤
Follow game [] (m ∷ moves) = ⊥
Follow game (line ∷ lines) [] = ⊥
Follow game (line ∷ lines) (m ∷ moves) = IsNextMove game line m × Follow (with_move game m) lines moves

-- these lines, none of which is empty, give this game: the first names its variant, the others its half-moves
abbrev pub Give : ℕ → List (List ℕ) → BotState → Type 0
Give depth [] state = state ≡ None
Give depth (first ∷ lines) state =
    (game : BotGame) × (state ≡ Some game) × NamesVariant depth first game.variant
    × Follow (new_game game.variant) lines game.moves

-- the line of this number, counted from 1, is the first one that isn't a line of a game: those before it give a game,
-- and with it they give none
pub record IsFirstBadLine (depth : ℕ) (lines : List (List ℕ)) (number : ℕ) : Type 0 where
  pub counted : 1 ≤ number
  pub there : number ≤ length lines
  pub game : BotState
  pub before : Give depth (filter is_written (take (number - 1) lines)) game
  pub none : All (λ line. length line ≤ most_line_bytes) lines → (state : BotState)
      → Give depth (filter is_written (take number lines)) state → ⊥
