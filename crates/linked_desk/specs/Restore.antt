-- How a game that was adjourned goes on at a desk, from where it stood.
use Rattle.std.specs.Prelude.{ℕ, List, Option, Some, None}
use Rattle.std.specs.Option.{option_map}
use Rattle.fics_words.specs.declared.seats.Seats.{Seats}
use Rattle.game_board.specs.Board.{Board}
use Rattle.game_records.specs.declared.stored_game.StoredGame.{StoredGame}
use Rattle.fics_words.specs.declared.board_number.BoardNumber.{BoardNumber}
use Rattle.desk_boards.specs.Halves.{last_board}
use Rattle.desk_boards.specs.Replaying.{replayed}
use Rattle.linked_desk.specs.declared.occasion.Occasion.TheVariants.{Resumption}
use Rattle.linked_desk.specs.Desk.{DeskState, GameState}
use Rattle.linked_desk.specs.Finish.{finished}
use Rattle.linked_desk.specs.Seating.{game_begun}

-- the game where the last half-move was made on that board, or none was made: it has ended if that half-move brings it
abbrev pub finished_at : ℕ → GameState → ℕ → Option BoardNumber → GameState
finished_at desk g moment None = g
finished_at desk g moment (Some board) = finished desk g moment board

-- a stored game that goes on at these boards from that moment, as if its last half-move had just been made
abbrev pub game_resumed : ℕ → ℕ → StoredGame → Seats → ℕ → List Board → GameState
game_resumed desk serial g seats moment boards =
    finished_at desk (game_begun Resumption desk serial g.terms seats boards moment) moment (last_board g.halves)

-- the desk with that game, whose boards are those on which its half-moves were played again, if they can be
abbrev pub restored : DeskState → ℕ → StoredGame → Seats → ℕ → Option DeskState
restored d serial g seats moment =
    option_map (λ (boards : List Board). record d { game = Some (game_resumed d.number serial g seats moment boards) })
    (replayed g.terms g.halves moment)
