-- What comes from a session that is drawn, by what it wants to do and where the server stands. This server's own.
use Rattle.std.specs.Prelude.{◌≡◌, ℕ, ◌+◌, ◌≤◌, ◌==◌, All, if◌then◌else◌, List, [], ◌∷◌, ◌++◌, length, Option, None, Some, codes, decimal, get_or}
use Rattle.std.specs.Option.{option_or}
use Rattle.chess_model.specs.declared.moves.Move.{Move}
use Rattle.fics_words.specs.Line.{IsPrintable}
use Rattle.histories.specs.declared.entry.Entry.{Entry}
use Rattle.lobby_state.specs.declared.acts.LobbyReply.TheVariants.{Entered}
use Rattle.move_writer.specs.Spelling.{spelling_of}
use Rattle.one_server.specs.declared.act.Timed.{Timed}
use Rattle.one_server.specs.declared.reply.Reply.{Reply}
use Rattle.one_server.specs.declared.reply.Reply.TheVariants as reply
use Rattle.one_server.specs.Running.{Log}
use Rattle.one_server.specs.Server.{ServerState, parts_in}
use Rattle.replay_core.specs.declared.script.ScriptEvent.{ScriptEvent}
use Rattle.replay_core.specs.declared.script.ScriptEvent.TheVariants as event
use Rattle.replay_core.specs.Script.{IsScriptEvent}
use Rattle.replay_core.specs.Draws.{drawn, drawn_on}
use Rattle.cmd_demo.specs.declared.wish.Wish.{Wish}
use Rattle.cmd_demo.specs.declared.wish.Wish.TheVariants as wish
use Rattle.cmd_demo.specs.Turns.{moves_of_session}

-- ---- wishes

-- the wishes that have a number of their own, from 0 on
abbrev pub wishes : List Wish
wishes =
    wish.SeekChess ∷ wish.SeekCrazyhouse ∷ wish.Play ∷ wish.Tell ∷ wish.Join ∷ wish.Observe ∷ wish.Partner
    ∷ wish.MatchPairs ∷ wish.Accept ∷ wish.Draw ∷ wish.TakeBack ∷ wish.Flag ∷ wish.Kibitz ∷ []

-- the wish of a number: behind those of their own it is a half-move
abbrev pub wish_of : ℕ → Wish
wish_of number = get_or wishes number wish.Move

-- ---- names

-- the name under which a session is in, if the reply tells that it is
abbrev pub name_told : Reply → Option (List ℕ)
name_told (reply.Lobby (Entered name)) = Some name
name_told _ = None

-- the name with which a session has entered by an entry, if it has
abbrev pub name_by : ℕ → Entry Timed Reply → Option (List ℕ)
name_by session e = if e.session == session then name_told e.reply else None

-- the name with which a session has entered, by its first entry of that kind
abbrev pub name_in : ℕ → Log → Option (List ℕ)
name_in session [] = None
name_in session (e ∷ log) = option_or (name_by session e) (name_in session log)

-- as it stands in a line
abbrev pub letters_of : Option (List ℕ) → List ℕ
letters_of None = []
letters_of (Some name) = name

-- ---- lines

-- what comes from a session, and where the draws then stand
pub record Said : Type 0 where
  pub event : ScriptEvent
  pub number : ℕ

-- a line comes
abbrev pub says : List ℕ → ℕ → Said
says text number = record { event = event.Plain text; number = number }

-- the name of one of the 40 sessions, by a draw
abbrev pub name_drawn : ℕ → Log → List ℕ
name_drawn number log = letters_of (name_in (1 + drawn number 40) log)

-- a line of these words and a number from 1 on comes, by a draw
abbrev pub numbered : List ℕ → ℕ → ℕ → Said
numbered front most number = says (front ++ decimal (1 + drawn number most)) (drawn_on number)

-- a line with one of those names between these words comes
abbrev pub naming_one : List ℕ → List ℕ → ℕ → Log → Said
naming_one front back number log = says (front ++ name_drawn number log ++ back) (drawn_on number)

-- one of these half-moves comes, by a draw; nothing where there are none
abbrev pub moving : List Move → ℕ → Said
moving [] number = record { event = event.Quiet; number = number }
moving (m ∷ moves) number =
    says (spelling_of (get_or (m ∷ moves) (drawn number (length (m ∷ moves))) m)) (drawn_on number)

-- what comes from a session by its wish, where the draws stand at this number; only what the line needs is drawn
abbrev pub said_by : Wish → ℕ → ℕ → ServerState → Said
said_by wish.SeekChess session number server = says (codes "seek 5 0") number
said_by wish.SeekCrazyhouse session number server = says (codes "seek 3 2 crazyhouse") number
said_by wish.Play session number server = numbered (codes "play ") 8 number
said_by wish.Tell session number server = says (codes "tell 1 hello") number
said_by wish.Join session number server = says (codes "+channel 1") number
said_by wish.Observe session number server = numbered (codes "observe ") 16 number
said_by wish.Partner session number server = naming_one (codes "partner ") [] number server.log
said_by wish.MatchPairs session number server = naming_one (codes "match ") (codes " 2 0 bughouse") number server.log
said_by wish.Accept session number server = says (codes "accept") number
said_by wish.Draw session number server = says (codes "draw") number
said_by wish.TakeBack session number server = says (codes "takeback 1") number
said_by wish.Flag session number server = says (codes "flag") number
said_by wish.Kibitz session number server = says (codes "kibitz good") number
said_by wish.Move session number server = moving (moves_of_session session (parts_in server)) number

-- ---- what the program says

-- the event is what is said, a line that a session may send, and the draws have come to where they then stand
pub record IsSaid (said : Said) (number : ℕ) (event : ScriptEvent) : Type 0 where
  pub event_is : event ≡ said.event
  pub fits : IsScriptEvent event
  pub on : number ≡ said.number

-- words of a line: printable, and not many
pub record AreWords (words : List ℕ) : Type 0 where
  pub short : length words ≤ 500
  pub shown : All IsPrintable words
