-- A move at a desk: the half-move is played, which clears the opponent's offers and every takeback, and the other board
-- of a pair learns of it; the board is told, then its hands where they have changed, then those of the other board
-- where a captured man has come into one of them, and then the end if the half-move brings it.
use Rattle.std.specs.Prelude.{ℕ, true, ◌∷◌, Option, Some, None, Result, Ok, Err, slice_get}
use Rattle.chess_model.specs.declared.man.Man.{Man}
use Rattle.chess_model.specs.declared.moves.Move.{Move}
use Rattle.chess_model.specs.declared.moves.MoveWord.{MoveWord}
use Rattle.fics_words.specs.Effect.{Effect, refused_by}
use Rattle.fics_words.specs.declared.refusal.Refusal.{Refusal}
use Rattle.fics_words.specs.declared.refusal.Refusal.TheVariants.{NotPlaying}
use Rattle.offer_book.specs.Offers.{after_half_move, where_stand}
use Rattle.linked_desk.specs.declared.acts.DeskReply.{DeskReply}
use Rattle.linked_desk.specs.declared.acts.DeskReply.TheVariants.{Done}
use Rattle.fics_words.specs.Boards.{board_place}
use Rattle.desk_boards.specs.Boards.{word_at, reply_at, boards_after}
use Rattle.fics_words.specs.declared.board_number.BoardNumber.{BoardNumber}
use Rattle.linked_desk.specs.Desk.{GameState, moment_at, seat_of}
use Rattle.linked_desk.specs.Ends.{no_seat_cause, over_cause}
use Rattle.linked_desk.specs.Finish.{finished}
use Rattle.linked_desk.specs.Hands.{hands_at, partner_hands_at}
use Rattle.linked_desk.specs.Seats.{board_of, colour_at}
use Rattle.linked_desk.specs.Views.{with_board_item, game_with_item}

-- the half-move that a word of a seat stands for, or the refusal
abbrev pub seat_word : GameState → ℕ → MoveWord → Result Move Refusal
seat_word g seat word = word_at (slice_get g.boards (board_place (board_of seat))) (colour_at seat) word

-- and of who has that seat, or none
abbrev pub word_by : GameState → Option ℕ → MoveWord → Result Move Refusal
word_by g None word = Err NotPlaying
word_by g (Some seat) word = seat_word g seat word

-- the game with the half-move played at a board, and this board told
abbrev pub shown_moved : ℕ → GameState → ℕ → BoardNumber → Option ℕ → Result Move Refusal → GameState
shown_moved desk g moment board stamp answer =
    with_board_item desk board
    (record g {
      boards = boards_after g.boards board (moment_at g moment) stamp answer;
      last = moment_at g moment;
    })

-- the man that a reply gives, if it does
abbrev pub captured_man : Result (Option Man) Refusal → Option Man
captured_man (Ok man) = man
captured_man (Err cause) = None

-- the game with what is told of the hands at a board, where a half-move there captured this man
abbrev pub with_hands : ℕ → BoardNumber → Option Man → GameState → GameState
with_hands desk board man g = game_with_item g (hands_at desk g board man)

-- and with what is told of the hands at the other board of a pair
abbrev pub with_partner_hands : ℕ → BoardNumber → Option Man → GameState → GameState
with_partner_hands desk board man g = game_with_item g (partner_hands_at desk g board man)

-- and the hands told that the half-move has changed, those of the own board first
abbrev pub held_moved : ℕ → GameState → ℕ → BoardNumber → Option ℕ → Result Move Refusal → GameState
held_moved desk g moment board stamp answer =
    let man = captured_man (reply_at (slice_get g.boards (board_place board)) answer) in
    with_partner_hands desk board man
    (with_hands desk board man (shown_moved desk g moment board stamp answer))

-- and ended, where the half-move mates or leaves the other player no move
abbrev pub game_moved : ℕ → GameState → ℕ → BoardNumber → Option ℕ → Result Move Refusal → GameState
game_moved desk g moment board stamp answer = finished desk (held_moved desk g moment board stamp answer) moment board

-- the game where the offers of the seat's opponent have gone, and every takeback, since the seat has moved
abbrev pub with_cleared : ℕ → GameState → GameState
with_cleared seat g = record g { offers = where_stand (after_half_move seat g.offers.standing) g.offers }

-- the game once who has that seat, or none, has played a word, with the client's stamp if there is one
abbrev pub moved_by : ℕ → GameState → ℕ → Option ℕ → MoveWord → Option ℕ → GameState
moved_by desk g moment None word stamp = g
moved_by desk g moment (Some seat) word stamp =
    game_moved desk (with_cleared seat g) moment (board_of seat) stamp (seat_word g seat word)

-- plays a word of a seat of the running game: refused as the board answers
abbrev pub seat_move_effect : ℕ → GameState → ℕ → ℕ → MoveWord → Option ℕ → Effect GameState DeskReply
seat_move_effect desk g seat moment word stamp = record {
  causes = refused_by (seat_word g seat word);
  memory = true;
  reply = Done;
  after = game_moved desk (with_cleared seat g) moment (board_of seat) stamp (seat_word g seat word);
}

-- plays a word at the session's board: refused where it has no seat, where the game has ended, and then as the board
-- answers
abbrev pub move_effect : ℕ → GameState → ℕ → ℕ → MoveWord → Option ℕ → Effect GameState DeskReply
move_effect desk g session moment word stamp = record {
  causes = no_seat_cause g session ∷ over_cause g ∷ refused_by (word_by g (seat_of g session) word);
  memory = true;
  reply = Done;
  after = moved_by desk g moment (seat_of g session) word stamp;
}
