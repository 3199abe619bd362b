-- The half-moves that a session could make at its present board. This server's own.
use Rattle.std.specs.Prelude.{ℕ, List, [], Option, None, Some, if◌then◌else◌, is_some, slice_get}
use Rattle.chess_model.specs.declared.man.Colour.{Colour}
use Rattle.chess_model.specs.declared.moves.Move.{Move}
use Rattle.chess_model.specs.AllMoves.{allowed_moves}
use Rattle.chess_model.specs.Holdings.{same_colour}
use Rattle.game_board.specs.Board.{Board, position_of, to_move}
use Rattle.fics_words.specs.Boards.{board_place}
use Rattle.linked_desk.specs.Desk.{DeskState, boards_at, ended_at}
use Rattle.linked_desk.specs.Seats.{board_of, colour_at}
use Rattle.lobby_state.specs.Lobby.{places_of}
use Rattle.one_server.specs.declared.part.Part.{Part}
use Rattle.one_server.specs.declared.part.Part.TheVariants.{Lobby as TheLobby, Desk as ADesk}
use Rattle.simul_control.specs.declared.place.Place.{Place}
use Rattle.simul_control.specs.Places.{PlaceList}

-- the present one of some places, if there is any
abbrev pub present_of : PlaceList → Option Place
present_of places = slice_get places.rows places.at

-- where a session plays at present, if it plays: the lobby is the first of the parts
abbrev pub place_in : Option Part → ℕ → Option Place
place_in (Some (TheLobby lobby)) session = present_of (places_of lobby session)
place_in _ session = None

-- the half-moves that a colour could make on a board, in the order in which all allowed ones are listed: none where it
-- isn't to move
abbrev pub moves_on : Colour → Board → List Move
moves_on colour board = if same_colour (to_move board) colour then allowed_moves (position_of board) else []

abbrev pub moves_on_one : Colour → Option Board → List Move
moves_on_one colour None = []
moves_on_one colour (Some board) = moves_on colour board

-- those that the player of a seat could make at a desk: none where its game has ended
abbrev pub moves_at : ℕ → DeskState → List Move
moves_at seat desk =
    if is_some (ended_at desk) then []
    else moves_on_one (colour_at seat) (slice_get (boards_at desk) (board_place (board_of seat)))

abbrev pub moves_in : ℕ → Option Part → List Move
moves_in seat (Some (ADesk desk)) = moves_at seat desk
moves_in seat _ = []

-- those that a player could make from its place: the desk of number d is the part d
abbrev pub moves_from_place : Option Place → List Part → List Move
moves_from_place None parts = []
moves_from_place (Some place) parts = moves_in place.seat (slice_get parts place.desk)

-- those that a session could make where it plays at present
unfoldable pub moves_of_session : ℕ → List Part → List Move
moves_of_session session parts = moves_from_place (place_in (slice_get parts 0) session) parts
