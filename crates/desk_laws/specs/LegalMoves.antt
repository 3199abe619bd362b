-- Which moves a desk accepts, in every state: exactly the legal ones of those who are to move there. What is legal are
-- the Laws of Chess (FIDE 3), by the definitions of `chess_model`; that a word has to stand for one move alone, and
-- that 1,200 half-moves are the most on a board, is this server's own.
use Rattle.std.specs.Prelude.{◌≡◌, ℕ, ◌<◌, List, [], ◌∷◌, ◌++◌, None, Some, slice_get, IfSome}
use Rattle.std.specs.declared.option.Option.{Option}
use Rattle.chess_model.specs.Limits.{most_halves}
use Rattle.chess_model.specs.declared.moves.Move.{Move}
use Rattle.chess_model.specs.declared.moves.MoveWord.{MoveWord}
use Rattle.chess_model.specs.Allowed.{Allowed, IsLegal}
use Rattle.chess_model.specs.Answer.{IsAnswer}
use Rattle.game_board.specs.declared.played.Played.{Played}
use Rattle.game_board.specs.Board.{Board, position_of, to_move}
use Rattle.histories.specs.Core.{after, reply}
use Rattle.linked_desk.specs.declared.acts.DeskAct.TheVariants as act
use Rattle.linked_desk.specs.declared.acts.DeskReply.TheVariants.{Done}
use Rattle.linked_desk.specs.Desk.{DeskState, GameState, moment_at, seat_of}
use Rattle.fics_words.specs.Boards.{board_place}
use Rattle.linked_desk.specs.Seats.{board_of, colour_at}
use Rattle.move_reader.specs.Reading.{reading}
use Rattle.one_server.specs.declared.act.Act.TheVariants.{Desk}
use Rattle.one_server.specs.declared.act.Timed.{Timed}
use Rattle.one_server.specs.declared.part.Part.{Part}
use Rattle.one_server.specs.declared.part.Part.TheVariants.{Desk as ADesk}
use Rattle.one_server.specs.declared.reply.Reply.TheVariants as reply
use Rattle.one_server.specs.House.{house}
use Rattle.rules_reading.specs.ReadsBack.{pretty_in}

-- the session is to move at this board: it has a seat there of the colour that is to move, the game runs, and fewer
-- than 1,200 half-moves were played on the board
pub record IsToMove (game : GameState) (session : ℕ) (b : Board) : Type 0 where
  pub seat : ℕ
  pub sits : seat_of game session ≡ Some seat
  pub board : slice_get game.boards (board_place (board_of seat)) ≡ Some b
  pub turn : to_move b ≡ colour_at seat
  pub runs : game.ended ≡ None
  pub room : b.played < most_halves

-- the act by which a session plays a word in this game at a desk, with its client's stamp if there is one
abbrev pub playing : ℕ → GameState → MoveWord → Option ℕ → ℕ → Timed
playing number game word stamp moment = record { moment = moment; act = Desk number game.serial (act.Move word stamp) }

-- behind the half-moves that the board of this seat had stands this one, at the desk of that number. If it was charged,
-- this is from where the board's clock began to run up to this moment, that of the act
pub record IsPlayed (later : List Part) (number seat moment : ℕ) (b : Board) (m : Move) : Type 0 where
  pub desk : DeskState
  pub stands : slice_get later number ≡ Some (ADesk desk)
  pub game : GameState
  pub plays : desk.game ≡ Some game
  pub board : Board
  pub there : slice_get game.boards (board_place (board_of seat)) ≡ Some board
  pub last : Played
  pub half_moves : board.list ≡ b.list ++ last ∷ []
  pub is_move : last.what ≡ m
  pub charged : IfSome last.charge (λ charge. (charge.begin ≡ b.begin) × (charge.end ≡ moment))

-- a word that a desk accepted: it was said by who is to move, it stands for exactly one legal half-move in the
-- position on that board, and this one was played at the moment of the act, which counts as no earlier than that of the
-- act before it
pub record IsLegalMove (parts later : List Part) (number session moment : ℕ) (game : GameState) (word : MoveWord)
    : Type 0 where
  pub board : Board
  pub mover : IsToMove game session board
  pub half_move : Move
  pub answer : IsAnswer (position_of board) word half_move
  pub played : IsPlayed later number mover.seat (moment_at game moment) board half_move

-- the moves of a game at a desk in this state
pub record TakesLegalMoves (parts : List Part) (number : ℕ) (game : GameState) : Type 0 where
  -- what is accepted is a legal move of who is to move
  pub accepted : (session moment : ℕ) (word : MoveWord) (stamp : Option ℕ)
      → reply house parts session (playing number game word stamp moment) ≡ Some (reply.Desk Done)
      → IsLegalMove parts (after house parts session (playing number game word stamp moment)) number session moment
      game word
  -- who is to move has each word accepted that stands for exactly one legal half-move
  pub taken : (session moment : ℕ) (word : MoveWord) (stamp : Option ℕ) (b : Board) (m : Move) → IsToMove game session b
      → IsAnswer (position_of b) word m
      → reply house parts session (playing number game word stamp moment) ≡ Some (reply.Desk Done)
  -- and each legal half-move is the one for which its pretty text stands
  pub each : (session : ℕ) (b : Board) (m : Move) → IsToMove game session b → Allowed (position_of b) m
      → (word : MoveWord) × (reading (pretty_in (position_of b) m) ≡ Some word) × IsAnswer (position_of b) word m
  -- the position there is the one to which legal half-moves have led
  pub legal : (session : ℕ) (b : Board) → IsToMove game session b → IsLegal b.terms.variant b.all

-- each desk accepts exactly the legal moves of the game that is played there
abbrev pub AcceptsLegalMoves : List Part → Type 0
AcceptsLegalMoves parts =
    (number : ℕ) (desk : DeskState) (game : GameState) → slice_get parts number ≡ Some (ADesk desk)
    → desk.game ≡ Some game → TakesLegalMoves parts number game
