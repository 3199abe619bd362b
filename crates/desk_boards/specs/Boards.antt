-- The boards of a game: one, or two in bughouse.
use Rattle.std.specs.Prelude.{◌≡◌, ℕ, zero, suc, max, List, [], ◌∷◌, map, Option, Some, None, Result, Ok, Err, slice_get, slice_set, refl}
use Rattle.std.specs.Option.{option_map}
use Rattle.chess_model.specs.declared.man.Colour.{Colour}
use Rattle.chess_model.specs.declared.man.Man.{Man}
use Rattle.chess_model.specs.declared.moves.Move.{Move}
use Rattle.chess_model.specs.declared.moves.MoveWord.{MoveWord}
use Rattle.chess_model.specs.declared.variant.Terms.{Terms}
use Rattle.chess_model.specs.declared.variant.Variant.{Variant}
use Rattle.chess_model.specs.declared.variant.Variant.TheVariants.{Chess, Crazyhouse, Bughouse, Fischer}
use Rattle.fics_words.specs.Boards.{board_place, other_number}
use Rattle.fics_words.specs.declared.board_number.BoardNumber.{BoardNumber}
use Rattle.fics_words.specs.declared.refusal.Refusal.{Refusal}
use Rattle.fics_words.specs.declared.refusal.Refusal.TheVariants.{NotPlaying}
use Rattle.game_board.specs.Acked.{acknowledged}
use Rattle.game_board.specs.Board.{Board, new_board}
use Rattle.game_board.specs.Flag.{flag_answer}
use Rattle.game_board.specs.Learn.{learnt}
use Rattle.game_board.specs.Play.{move_answer, play_after, play_reply}

-- the numbers of the boards on which a variant is played
abbrev pub board_numbers : Variant → List ℕ
board_numbers Bughouse = 1 ∷ 2 ∷ []
board_numbers Chess = 1 ∷ []
board_numbers Crazyhouse = 1 ∷ []
board_numbers (Fischer number) = 1 ∷ []

-- the boards at the start of a game
abbrev pub new_boards : Terms → ℕ → List Board
new_boards terms moment = map (λ number. new_board number terms moment) (board_numbers terms.variant)

-- the latest moment from which a player is thinking at one of the boards
abbrev pub latest : List Board → ℕ
latest [] = 0
latest (b ∷ boards) = max b.begin (latest boards)

-- the half-move that a word stands for at a board, or the refusal; where there is no board, nobody plays
abbrev pub word_at : Option Board → Colour → MoveWord → Result Move Refusal
word_at None colour word = Err NotPlaying
word_at (Some b) colour word = move_answer b colour word

-- the reply to a word at a board: the captured man, or the refusal
abbrev pub reply_at : Option Board → Result Move Refusal → Result (Option Man) Refusal
reply_at None answer = Err NotPlaying
reply_at (Some b) answer = play_reply b answer

-- what the call of a flag brings at a board: the winner, None for a draw, or the refusal
abbrev pub flag_at : Option Board → Colour → ℕ → Result (Option Colour) Refusal
flag_at None caller moment = Err NotPlaying
flag_at (Some b) caller moment = flag_answer b caller moment

-- the boards with another one in a place
abbrev pub set_board : List Board → ℕ → Option Board → List Board
set_board boards k None = boards
set_board boards k (Some b) = slice_set boards k b

-- the boards with a change of the one in that place, where there is one
abbrev pub changed_at : List Board → ℕ → (Board → Board) → List Board
changed_at boards k change = set_board boards k (option_map change (slice_get boards k))

-- a board once it has learnt what a word at its partner's board was answered: of the half-move, if it was one
abbrev pub told_answer : Board → Result Move Refusal → Board
told_answer b (Ok m) = learnt b m
told_answer b (Err cause) = b

-- the boards after a word at one of them: this board has the half-move, and the other one, if there is one, learns of
-- it in the same step, so that a man who is captured comes into a hand there
abbrev pub boards_after : List Board → BoardNumber → ℕ → Option ℕ → Result Move Refusal → List Board
boards_after boards board moment stamp answer =
    changed_at (changed_at boards (board_place board) (λ b. play_after b moment stamp answer))
    (board_place (other_number board))
    (λ b. told_answer b answer)

-- the boards once a client of that colour has acknowledged one of them
abbrev pub boards_acked : List Board → BoardNumber → Colour → ℕ → List Board
boards_acked boards board colour stamp = changed_at boards (board_place board) (λ b. acknowledged b colour stamp)
