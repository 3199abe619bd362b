-- The position that stands in a game, and what a line of it names.
use Rattle.std.proofs.Common.{◌≡◌, ℕ, true, false, cond, List, map, length, Some, None, sym, ap, ◌∙◌}
use Rattle.std.specs.Prelude.{◌||◌, nat_le, Result}
use Rattle.std.specs.Option.{option_and_then}
use Rattle.std.specs.Result.{result_ok}
use Rattle.chess_model.specs.declared.moves.Move.{Move}
use Rattle.chess_model.specs.declared.moves.MoveWord.{MoveWord}
use Rattle.chess_model.specs.declared.moves.Rejection.{Rejection}
use Rattle.chess_model.specs.Position.{Position, Stands}
use Rattle.chess_model.specs.Result.{is_end, result}
use Rattle.chess_model.specs.WordAnswer.{word_answer}
use Rattle.move_reader.specs.Reading.{reading}
use Rattle.cmd_bot.specs.Game.{BotGame, is_over, move_named, on_board, bot_position, word_played}

-- the position that is kept is the game's
pub stands_at : (p : Position) (kept : List Move) (game : BotGame) → Stands p (map on_board kept) 1
    → record { variant = p.variant; moves = kept } ≡ game → p ≡ bot_position game
stands_at p kept game s view = s.same ∙ ap bot_position view

-- a game that has ended, and one that hasn't
pub over_at_end : (p : Position) (game : BotGame) → p ≡ bot_position game → is_end (result p) ≡ true
    → true ≡ is_over game
over_at_end p game at e =
    sym (ap (λ t. t || nat_le 1200 (length game.moves)) (ap (λ x. is_end (result x)) (sym at) ∙ e))

pub over_by_count : (p : Position) (game : BotGame) (n : ℕ) → p ≡ bot_position game → n ≡ length game.moves
    → is_end (result p) ≡ false → nat_le 1200 n ≡ is_over game
over_by_count p game n at count e =
    ap (nat_le 1200) count
    ∙ sym (ap (λ t. t || nat_le 1200 (length game.moves)) (ap (λ x. is_end (result x)) (sym at) ∙ e))

-- a line that is no word
pub no_word : (game : BotGame) (line : List ℕ) → reading line ≡ None → None ≡ move_named game line
unfolding move_named
no_word game line e = sym (ap (option_and_then (word_played game)) e)

-- a word of a game that takes no more
pub word_over : (game : BotGame) (line : List ℕ) (word : MoveWord) → Some word ≡ reading line → is_over game ≡ true
    → None ≡ move_named game line
unfolding move_named
word_over game line word e over =
    sym (ap (λ t. cond t None (result_ok (word_answer (bot_position game) word))) over)
    ∙ ap (option_and_then (word_played game)) e

-- any other word
pub word_answered : (p : Position) (game : BotGame) (line : List ℕ) (word : MoveWord) (r : Result Move Rejection)
    → Some word ≡ reading line → is_over game ≡ false → r ≡ word_answer p word → p ≡ bot_position game
    → result_ok r ≡ move_named game line
unfolding move_named
word_answered p game line word r e over f at =
    ap result_ok f ∙ ap (λ (x : Position). result_ok (word_answer x word)) at
    ∙ sym (ap (λ t. cond t None (result_ok (word_answer (bot_position game) word))) over)
    ∙ ap (option_and_then (word_played game)) e
