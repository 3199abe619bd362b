-- The game whose variant and half-moves are the lines of `bot`. This program's own.
use Rattle.std.specs.Prelude.{ℕ, nat_le, Bool, ◌||◌, if◌then◌else◌, List, [], ◌∷◌, ◌++◌, length, map, Option, Some, None, option_map, bytes_eq, codes, decimal}
use Rattle.std.specs.List.{find, range_with_len}
use Rattle.std.specs.Option.{option_and_then}
use Rattle.std.specs.Result.{result_ok}
use Rattle.chess_model.specs.Limits.{arrays, most_halves}
use Rattle.chess_model.specs.declared.moves.Move.{Move}
use Rattle.chess_model.specs.declared.moves.MoveWord.{MoveWord}
use Rattle.chess_model.specs.declared.variant.Variant.{Variant}
use Rattle.chess_model.specs.declared.variant.Variant.TheVariants.{Chess, Crazyhouse, Fischer}
pub use Rattle.chess_model.specs.MoveList.{on_board}
use Rattle.chess_model.specs.Position.{Position, position_after}
use Rattle.chess_model.specs.Result.{is_end, result}
use Rattle.chess_model.specs.WordAnswer.{word_answer}
use Rattle.move_reader.specs.Reading.{reading}

-- a variant of one board, and the half-moves from its start
pub record BotGame : Type 0 where
  pub variant : Variant
  pub moves : List Move

-- the position after these half-moves from the start of a variant
abbrev pub bot_position : BotGame → Position
bot_position game = position_after game.variant (map on_board game.moves) 1

-- a game before its first half-move
abbrev pub new_game : Variant → BotGame
new_game variant = record { variant = variant; moves = [] }

-- a game with one more half-move
abbrev pub with_move : BotGame → Move → BotGame
with_move game m = record game { moves = game.moves ++ m ∷ [] }

-- ---- the first line

-- the number from 0 to 959 of the array that the line names
unfoldable pub array_named : List ℕ → Option ℕ
array_named line = find (λ n. bytes_eq (codes "fischer " ++ decimal n) line) (range_with_len 0 arrays)

-- crazyhouse is looked at 3 half-moves ahead at most
abbrev pub with_drops : ℕ → Option Variant
with_drops depth = if nat_le depth 3 then Some Crazyhouse else None

-- the variant that the line names: `chess`, `crazyhouse` or `fischer N`
abbrev pub variant_named : ℕ → List ℕ → Option Variant
variant_named depth line =
    if bytes_eq line (codes "chess") then Some Chess
    else (if bytes_eq line (codes "crazyhouse") then with_drops depth else option_map Fischer (array_named line))

-- ---- the other lines

-- a game takes no further half-move: it has ended by mate or stalemate, or has 1,200 half-moves
abbrev pub is_over : BotGame → Bool
is_over game = is_end (result (bot_position game)) || nat_le most_halves (length game.moves)

-- the half-move that answers a word, where the game goes on
abbrev pub word_played : BotGame → MoveWord → Option Move
word_played game word = if is_over game then None else result_ok (word_answer (bot_position game) word)

-- the half-move of a line: the answer to its word
unfoldable pub move_named : BotGame → List ℕ → Option Move
move_named game line = option_and_then (word_played game) (reading line)
