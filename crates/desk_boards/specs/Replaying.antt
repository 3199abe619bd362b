-- A game that is played again from its half-moves, each with the charge that it had: as where an adjourned game is
-- resumed (FIDE Laws, Guidelines I: it goes on with the position and the times at which it was left).
use Rattle.std.specs.Prelude.{ℕ, Bool, true, false, ◌&&◌, not, if◌then◌else◌, List, [], ◌∷◌, length, Option, Some, None, option_and_then, slice_get}
use Rattle.chess_model.specs.declared.variant.Terms.{Terms}
use Rattle.chess_model.specs.Result.{result, is_end}
use Rattle.game_board.specs.declared.played.Played.{Played}
use Rattle.game_board.specs.Board.{Board, position_of}
use Rattle.game_board.specs.Learn.{learnt}
use Rattle.game_board.specs.Put.{takes_played, with_put}
use Rattle.game_records.specs.declared.stored_game.Half.{Half}
use Rattle.fics_words.specs.Boards.{numbered_board, other_number, board_place}
use Rattle.desk_boards.specs.Boards.{changed_at, new_boards}
use Rattle.fics_words.specs.declared.board_number.BoardNumber.{BoardNumber}
use Rattle.desk_boards.specs.Halves.{played_of}

-- whether a board is at no end: its player to move is neither mated nor stalemated
abbrev pub goes_on : Board → Bool
goes_on b = not (is_end (result (position_of b)))

-- whether there is a board, and it takes a half-move with the charge that it has, if it has one
abbrev pub own_takes : Option Board → Played → Bool
own_takes None p = false
own_takes (Some b) p = takes_played b p

-- whether the other board, if there is one, is at no end
abbrev pub other_goes_on : Option Board → Bool
other_goes_on None = true
other_goes_on (Some b) = goes_on b

-- whether the boards take a half-move at one of them: it takes it, and the other one of a pair hasn't ended the game
abbrev pub takes_half : List Board → BoardNumber → Played → Bool
takes_half boards board p =
    own_takes (slice_get boards (board_place board)) p
    && other_goes_on (slice_get boards (board_place (other_number board)))

-- the boards with one half-move more at one of them, with the charge that it has; the other of a pair learns of it
abbrev pub boards_put : List Board → BoardNumber → Played → List Board
boards_put boards board p =
    changed_at (changed_at boards (board_place board) (λ b. with_put b p)) (board_place (other_number board))
    (λ b. learnt b p.what)

-- and if they take it
abbrev pub boards_with : List Board → Played → BoardNumber → Option (List Board)
boards_with boards p board = if takes_half boards board p then Some (boards_put boards board p) else None

-- the boards after half-moves of a record, if they take each of them in its turn
abbrev pub played_on : List Board → List Half → Option (List Board)
played_on boards [] = Some boards
played_on boards (h ∷ halves) =
    option_and_then (λ after. played_on after halves)
    (option_and_then (boards_with boards (played_of h)) (numbered_board h.board))

-- the boards of a game on these terms that was played so, and is resumed at that moment
abbrev pub replayed : Terms → List Half → ℕ → Option (List Board)
replayed terms halves moment = played_on (new_boards terms moment) halves

-- a board as it is where its game is resumed at that moment: it has the half-moves and charges that it had, the player
-- to move is thinking since then and hasn't acknowledged it, and what was taken back before counts no more as played
abbrev pub resumed_at : ℕ → Board → Board
resumed_at moment b = record b { begin = moment; kept = None; played = length b.list; resumed = length b.list }
