-- What a session writes: the texts of replies, of what waits for it, and of the news of its games. Each line ends with
-- line feed and carriage return, as on FICS.
use Rattle.std.specs.Prelude.{ℕ, zero, suc, Bool, true, false, ℤ, pos, List, [], ◌∷◌, ◌++◌, Option, codes, decimal, if◌then◌else◌}
use Rattle.command_words.specs.declared.style.Style.{Style}
use Rattle.command_words.specs.declared.style.Style.TheVariants.{One, Twelve}
use Rattle.fics_words.specs.declared.refusal.Refusal.{Refusal}
use Rattle.fics_words.specs.Refusal.{refusal_words}
use Rattle.linked_desk.specs.declared.acts.DeskReply.TheVariants.{Items}
use Rattle.linked_desk.specs.Sight.{board_shown_as, sight}
use Rattle.lobby_state.specs.declared.acts.LobbyReply.TheVariants.{Asked, Done, Entered, Told, Number, Lines, Waiting}
use Rattle.one_server.specs.declared.reply.PairReply.TheVariants as pair
use Rattle.one_server.specs.declared.reply.Reply.{Reply}
use Rattle.one_server.specs.declared.reply.Reply.TheVariants as reply
use Rattle.session_core.specs.declared.reader.Reader.{Reader}
use Rattle.session_asks.specs.declared.standing.LinkMark.{LinkMark}
use Rattle.session_asks.specs.declared.standing.LinkMark.TheVariants.{Stamped}
use Rattle.session_asks.specs.declared.standing.Standing.{Standing}
use Rattle.session_asks.specs.declared.standing.Standing.TheVariants.{Login, Password, In, Gone}
use Rattle.style12_writer.specs.declared.item.Item.{Item}
use Rattle.style12_writer.specs.declared.item.Item.TheVariants.{Board, Hold, Talk, End}
use Rattle.style12_writer.specs.EndLine.{end_text}
use Rattle.style12_writer.specs.HoldingsLine.{holdings_text}
use Rattle.style12_writer.specs.Line12.{line12_text}
use Rattle.style12_writer.specs.TextBoard.{board1_lines}
use Rattle.style12_writer.specs.declared.view.BoardView.{BoardView}

-- the end of a line
abbrev pub line_end : List ℕ
line_end = codes "\n\r"

-- what a connection opens with
abbrev pub opening_text : List ℕ
opening_text = codes "Free Internet Chess Server profile\n\rlogin: "

-- what stands at the end of an answer: where a line is awaited its prompt, and a farewell where none is any more
abbrev pub prompt_of : Standing → List ℕ
prompt_of Login = codes "login: "
prompt_of (Password name) = codes "password: "
prompt_of (In name) = codes "fics% "
prompt_of Gone = codes "Goodbye." ++ line_end

-- the line of a refusal
abbrev pub refusal_line : Refusal → List ℕ
refusal_line cause = refusal_words cause ++ line_end

-- the line of a session that comes in
abbrev pub entered_line : List ℕ → List ℕ
entered_line name = codes "Entered as " ++ name ++ codes "." ++ line_end

-- the line of what was done
abbrev pub done_line : List ℕ
done_line = codes "Ok." ++ line_end

-- the line of what another was asked
abbrev pub asked_line : List ℕ
asked_line = codes "Asked." ++ line_end

-- the line of how many were told
abbrev pub told_line : ℕ → List ℕ
told_line count = codes "(told " ++ decimal count ++ codes ")" ++ line_end

-- the line that tells the number of a new seek
abbrev pub number_line : ℕ → List ℕ
number_line number = codes "Your seek is " ++ decimal number ++ codes "." ++ line_end

-- lines, each with its end
abbrev pub lines_text : List (List ℕ) → List ℕ
lines_text [] = []
lines_text (line ∷ lines) = line ++ line_end ++ lines_text lines

-- the lines of a list; a list without lines says so
abbrev pub list_text : List (List ℕ) → List ℕ
list_text [] = codes "none" ++ line_end
list_text (line ∷ lines) = lines_text (line ∷ lines)

-- what a reply prints: the refusal; that an act of the lobby was done; that another was asked; under which name the
-- session is in; how many were told; the number of a new seek; a list that was asked for; and else nothing
abbrev pub reply_text : Reply → List ℕ
reply_text (reply.Refused cause) = refusal_line cause
reply_text (reply.Lobby Done) = done_line
reply_text (reply.Lobby Asked) = asked_line
reply_text (reply.Pair pair.Asked) = asked_line
reply_text (reply.Lobby (Entered name)) = entered_line name
reply_text (reply.Lobby (Told count)) = told_line count
reply_text (reply.Lobby (Number number)) = number_line number
reply_text (reply.Lobby (Lines lines)) = list_text lines
reply_text _ = []

-- a board as it is printed: in style 12 it is seen as the desk shows it to the player of that seat, or to who looks on
abbrev pub board_text : Style → Option ℕ → BoardView → List ℕ
board_text One seat view = lines_text (board1_lines view)
board_text Twelve seat view = line12_text view (sight seat (board_shown_as view.game) view.face.to_move) ++ line_end

-- the lines of an item, for the player of a seat, or for who looks on
abbrev pub item_text : Style → Option ℕ → Item → List ℕ
item_text style seat (Board view) = board_text style seat view
item_text style seat (Hold game white black came) = holdings_text game white black came ++ line_end
item_text style seat (Talk line) = line ++ line_end
item_text style seat (End view why winner on_own) = end_text view why winner on_own ++ line_end

-- whether a board shows that the viewer plays and is to move: style 12's relation 1
abbrev pub is_to_move : ℤ → Bool
is_to_move (pos (suc zero)) = true
is_to_move _ = false

-- on a stamped link the client is asked to acknowledge each board that shows its own turn, by `[G]` and a zero byte
abbrev pub asks_back : LinkMark → Option ℕ → Item → List ℕ
asks_back Stamped seat (Board view) =
    if is_to_move (sight seat (board_shown_as view.game) view.face.to_move).relation
    then codes "[G]" ++ 0 ∷ []
    else []
asks_back _ seat _ = []

-- an item as it is written: its lines, and what asks the client to acknowledge it
abbrev pub item_line : Reader → Item → List ℕ
item_line reader item = item_text reader.style reader.seat item ++ asks_back reader.link reader.seat item

-- the lines of items
abbrev pub items_text : Reader → List Item → List ℕ
items_text reader [] = []
items_text reader (item ∷ items) = item_line reader item ++ items_text reader items

-- the news of a game
abbrev pub news_text : Reader → Reply → List ℕ
news_text reader (reply.Desk (Items items is_over)) = items_text reader items
news_text reader _ = []

-- what a reply of a desk prints: the items that it shows, or what any other reply prints
abbrev pub shown_text : Reader → Reply → List ℕ
shown_text reader (reply.Desk (Items items is_over)) = items_text reader items
shown_text reader other = reply_text other

-- the lines that waited
abbrev pub waiting_text : Reply → List ℕ
waiting_text (reply.Lobby (Waiting lines places)) = lines_text lines
waiting_text _ = []
