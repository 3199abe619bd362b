-- Boards and their records that are written out.
use Rattle.std.specs.Prelude.{◌≡◌, ℕ, List, [], ◌∷◌, Option, Some, None, refl}
use Rattle.chess_model.specs.declared.moves.Move.{Move}
use Rattle.chess_model.specs.declared.moves.Move.TheVariants.{Plain}
use Rattle.chess_model.specs.declared.variant.Terms.{Terms}
use Rattle.chess_model.specs.declared.variant.Variant.TheVariants.{Bughouse}
use Rattle.chess_model.specs.MoveList.{HalfMove, on}
use Rattle.clock_ledger.specs.declared.charges.Charge.{Charge}
use Rattle.game_board.specs.declared.played.Played.{Played}
use Rattle.game_board.specs.Board.{Board}
use Rattle.game_records.specs.declared.stored_game.Half.{Half}
use Rattle.desk_boards.specs.Boards.{new_boards}
use Rattle.desk_boards.specs.Halves.{halves_of, list_on}
use Rattle.desk_boards.specs.Replaying.{replayed}

-- a pair with two minutes for each player
abbrev pair : Terms
pair = record { minutes = 2; increment = 0; variant = Bughouse; colour = None }

-- e2e4, d2d4, e7e5 and g1f3
abbrev king_pawn : Move
king_pawn = Plain 12 28 None

abbrev queen_pawn : Move
queen_pawn = Plain 11 27 None

abbrev answer : Move
answer = Plain 52 36 None

abbrev knight : Move
knight = Plain 6 21 None

-- the charge of a half-move that took five seconds
abbrev five : Option Charge
five = Some (record { begin = 3000; end = 8000; client = None })

abbrev free : Move → Played
free m = record { what = m; charge = None }

-- e2e4 on board 1, d2d4 on board 2, then e7e5 and g1f3 on board 1
abbrev all : List HalfMove
all = on 1 king_pawn ∷ on 2 queen_pawn ∷ on 1 answer ∷ on 1 knight ∷ []

-- a board with these half-moves of its own
abbrev board : ℕ → List Played → Board
board number list =
    record { number = number; terms = pair; list = list; begin = 8000; kept = None; played = 4; resumed = 0; all = all }

abbrev boards : List Board
boards =
    board 1 (free king_pawn ∷ free answer ∷ record { what = knight; charge = five } ∷ [])
    ∷ board 2 (free queen_pawn ∷ []) ∷ []

abbrev half : ℕ → Move → Option Charge → Half
half number m charge = record { board = number; what = m; charge = charge }

-- their record has the half-moves in the order in which they were made, and the charge stands at White's knight
record_of_a_pair : halves_of boards
    ≡ half 1 king_pawn None ∷ half 2 queen_pawn None ∷ half 1 answer None ∷ half 1 knight five ∷ []
record_of_a_pair = refl

-- in it each board has its list again
list_of_the_first : list_on 1 (halves_of boards)
    ≡ free king_pawn ∷ free answer ∷ record { what = knight; charge = five } ∷ []
list_of_the_first = refl

list_of_the_second : list_on 2 (halves_of boards) ≡ free queen_pawn ∷ []
list_of_the_second = refl

-- a game without half-moves is resumed at new boards, and no board has the number 3
nothing_played : replayed pair [] 8000 ≡ Some (new_boards pair 8000)
nothing_played = refl

no_third_board : replayed pair (half 3 king_pawn None ∷ []) 8000 ≡ None
no_third_board = refl
