-- The half-moves of a game as its record has them: those of all boards in their order, each with its own charge.
use Rattle.std.specs.Prelude.{ℕ, ◌-◌, List, [], ◌∷◌, map, filter, drop, length, nat_eq, if◌then◌else◌, Option, None, option_and_then, slice_get}
use Rattle.chess_model.specs.MoveList.{HalfMove}
use Rattle.clock_ledger.specs.declared.charges.Charge.{Charge}
use Rattle.game_board.specs.declared.played.Played.{Played}
use Rattle.game_board.specs.Board.{Board}
use Rattle.game_records.specs.declared.stored_game.Half.{Half}
use Rattle.fics_words.specs.Boards.{numbered_board}
use Rattle.fics_words.specs.declared.board_number.BoardNumber.{BoardNumber}

-- a half-move of a record, as the list of its board has it
abbrev pub played_of : Half → Played
played_of h = record { what = h.what; charge = h.charge }

-- what a record has of the half-moves of one board, as the list of that board
abbrev pub list_on : ℕ → List Half → List Played
list_on board halves = map played_of (filter (λ h. nat_eq h.board board) halves)

-- the board on which the last of some half-moves was made, if there is one
abbrev pub last_board : List Half → Option BoardNumber
last_board halves = option_and_then (λ (h : Half). numbered_board h.board) (slice_get halves (length halves - 1))

-- the charge of the first half-move of a list, if it has one
abbrev pub first_charge : List Played → Option Charge
first_charge [] = None
first_charge (p ∷ list) = p.charge

-- a half-move, with the charge that is the next one in the list of its board
abbrev pub half_of : HalfMove → List Played → Half
half_of h list = record { board = h.board; what = h.what; charge = first_charge list }

-- half-moves, each with the charge that stands for it in the list of its board: `one` are the half-moves of board 1
-- among them, and `two` are those of board 2
abbrev pub halves_from : List Played → List Played → List HalfMove → List Half
halves_from one two [] = []
halves_from one two (h ∷ T) =
    if nat_eq h.board 1 then half_of h one ∷ halves_from (drop 1 one) two T
    else half_of h two ∷ halves_from one (drop 1 two) T

-- the half-moves of all boards in their order, each with its own charge
abbrev pub halves_of : List Board → List Half
halves_of [] = []
halves_of (b ∷ []) = halves_from b.list [] b.all
halves_of (b ∷ c ∷ boards) = halves_from b.list c.list b.all
