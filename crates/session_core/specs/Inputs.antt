-- What a session does for an input, and what it answers. This server's own.
use Rattle.std.specs.Prelude.{ℕ, Bool, true, false, ◌||◌, if◌then◌else◌, List, [], ◌∷◌, ◌++◌, codes, nat_eq}
use Rattle.std.specs.Prelude.{Option, None, Some, Result, Ok, Err}
use Rattle.std.specs.List.{starts_with}
use Rattle.clock_ledger.specs.Span.{IsStamp}
use Rattle.command_words.specs.declared.aliases.Alias.{Alias}
use Rattle.command_words.specs.declared.command.Command.{Command}
use Rattle.command_words.specs.declared.command.Command.TheVariants as command
use Rattle.command_words.specs.declared.rows.Bare.TheVariants.{Quit}
use Rattle.command_words.specs.Commands.{command_in}
use Rattle.fics_words.specs.declared.refusal.Refusal.{Refusal}
use Rattle.fics_words.specs.declared.refusal.Refusal.TheVariants as refusal
use Rattle.line_reader.specs.declared.incoming.Incoming.{Incoming}
use Rattle.line_reader.specs.declared.incoming.Incoming.TheVariants as incoming
use Rattle.session_core.specs.declared.framing.Framing.{Framing}
use Rattle.session_core.specs.declared.framing.Framing.TheVariants as framing
use Rattle.session_core.specs.declared.input.Input.{Input}
use Rattle.session_core.specs.declared.input.Input.TheVariants.{Line, Quiet}
use Rattle.session_asks.specs.declared.standing.LinkMark.{LinkMark}
use Rattle.session_asks.specs.declared.standing.LinkMark.TheVariants.{Fresh, Stamped}
use Rattle.session_asks.specs.declared.standing.Standing.{Standing}
use Rattle.session_asks.specs.declared.standing.Standing.TheVariants.{Login, Password, In, Gone}
use Rattle.session_core.specs.Course.{Course, Done, Writes}
use Rattle.session_core.specs.Login.{name_course, proving, turned_away}
use Rattle.session_core.specs.Memory.{MemoryState, is_gone, past_first}
use Rattle.session_core.specs.Session.{command_course, round, to_acked}
use Rattle.session_core.specs.Texts.{line_end, prompt_of, refusal_line}

-- the greeting of a client that stamps its lines: the first line of the link, where it is stamped and begins so
abbrev pub is_greeting : LinkMark → Incoming → Bool
is_greeting Fresh (incoming.Stamped text stamp) = starts_with nat_eq text (codes "TIMESTAMP|")
is_greeting _ _ = false

-- the stamp that a move carries: that of its line, on a stamped link
abbrev pub stamp_on : LinkMark → ℕ → Option ℕ
stamp_on Stamped stamp = Some stamp
stamp_on _ stamp = None

-- the session refuses a line by itself: one that has entered makes its round, another begins anew
abbrev pub refusing : Refusal → Standing → MemoryState → Course
refusing cause (In name) memory = Writes (refusal_line cause) (round memory)
refusing cause Gone memory = Done memory
refusing cause _ memory = turned_away cause memory

-- what is read of a line, once the session has entered: a command, or why it is none
abbrev pub asked_course : Result Command Refusal → Option ℕ → MemoryState → Course
asked_course (Ok command) stamp memory = command_course command stamp memory
asked_course (Err cause) stamp memory = Writes (refusal_line cause) (round memory)

-- a text, by where the session stands
abbrev pub text_course : List ℕ → Option ℕ → Standing → MemoryState → Course
text_course text stamp Login memory = name_course text memory
text_course text stamp (Password name) memory = proving name text memory
text_course text stamp (In name) memory = asked_course (command_in memory.aliases text) stamp memory
text_course text stamp Gone memory = Done memory

-- an acknowledgement counts once the session has entered
abbrev pub ack_course : ℕ → Standing → MemoryState → Course
ack_course stamp (In name) memory = to_acked stamp memory
ack_course stamp _ memory = Done memory

-- a line that is no greeting
abbrev pub line_course : Incoming → MemoryState → Course
line_course (incoming.Plain text) memory = text_course text None memory.standing memory
line_course (incoming.Stamped text stamp) memory =
    text_course text (stamp_on memory.link stamp) memory.standing memory
line_course (incoming.Ack stamp) memory = ack_course stamp memory.standing memory
line_course incoming.TooLong memory = refusing refusal.TooLong memory.standing memory
line_course incoming.BadByte memory = refusing refusal.BadByte memory.standing memory

-- the session knows that a first line came
abbrev pub past_line : MemoryState → MemoryState
past_line memory = record memory { link = past_first memory.link }

abbrev pub quiet_course : Standing → MemoryState → Course
quiet_course (In name) memory = round memory
quiet_course _ memory = Done memory

-- what a session does for an input: a greeting marks the link, a Quiet makes the round alone
abbrev pub input_course : Input → MemoryState → Course
input_course Quiet memory = quiet_course memory.standing memory
input_course (Line line) memory =
    if is_greeting memory.link line
    then Done (record memory { link = Stamped })
    else line_course line (past_line memory)

abbrev pub is_ack : Incoming → Bool
is_ack (incoming.Ack stamp) = true
is_ack _ = false

-- a line that isn't answered: the greeting, an acknowledgement, and what comes to a session that has left
abbrev pub is_unanswered : MemoryState → Incoming → Bool
is_unanswered memory line = is_greeting memory.link line || (is_ack line || is_gone memory)

-- news that come without a line begin on a line of their own; where there are none nothing is written
abbrev pub unasked : List ℕ → Standing → List ℕ
unasked [] standing = []
unasked (byte ∷ bytes) standing = line_end ++ (byte ∷ bytes) ++ prompt_of standing

-- how the text of a course stands in an answer
abbrev pub framing_of : Input → MemoryState → Framing
framing_of Quiet memory = framing.News
framing_of (Line line) memory = if is_unanswered memory line then framing.Bare else framing.Answer

-- an answer ends with the prompt of where the session then stands
abbrev pub framed : Framing → Standing → List ℕ → List ℕ
framed framing.Bare standing text = text
framed framing.Answer standing text = text ++ prompt_of standing
framed framing.News standing text = unasked text standing

-- what an input makes the session write, by what it remembered before and after, and by the text of its course
abbrev pub text_for_input : Input → MemoryState → MemoryState → List ℕ → List ℕ
text_for_input input before after text = framed (framing_of input before) after.standing text

-- what is read of a line asks to quit
abbrev pub is_quit : Result Command Refusal → Bool
is_quit (Ok (command.Bare Quit)) = true
is_quit _ = false

abbrev pub text_quits : List ℕ → Standing → List Alias → Bool
text_quits text (In name) aliases = is_quit (command_in aliases text)
text_quits text _ aliases = false

abbrev pub line_quits : Incoming → MemoryState → Bool
line_quits (incoming.Plain text) memory = text_quits text memory.standing memory.aliases
line_quits (incoming.Stamped text stamp) memory = text_quits text memory.standing memory.aliases
line_quits _ memory = false

-- an input asks to quit: a line of a session that has entered, which isn't the greeting and reads as `quit`
abbrev pub asks_to_quit : Input → MemoryState → Bool
asks_to_quit Quiet memory = false
asks_to_quit (Line line) memory = if is_greeting memory.link line then false else line_quits line memory

-- the stamps of an input are below 10,000,000
abbrev pub HasStamp : Incoming → Type 0
HasStamp (incoming.Stamped text stamp) = IsStamp stamp
HasStamp (incoming.Ack stamp) = IsStamp stamp
HasStamp _ = Unit {0}

abbrev pub FitsInput : Input → Type 0
FitsInput (Line line) = HasStamp line
FitsInput Quiet = Unit {0}
