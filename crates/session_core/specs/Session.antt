-- What a session that has entered does: for a command, for its news, for an acknowledgement, and when it leaves. This
-- server's own.
use Rattle.std.specs.Prelude.{ℕ, Bool, true, false, ◌&&◌, if◌then◌else◌, List, [], ◌∷◌, Option, None, Some, codes}
use Rattle.chess_model.specs.declared.moves.MoveWord.{MoveWord}
use Rattle.command_words.specs.declared.command.Command.{Command}
use Rattle.fics_words.specs.declared.refusal.Refusal.TheVariants.{ListFull, NotPlaying, NotWatching}
use Rattle.linked_desk.specs.declared.acts.DeskAct.{DeskAct}
use Rattle.linked_desk.specs.declared.acts.DeskAct.TheVariants as desk_act
use Rattle.linked_desk.specs.declared.acts.DeskReply.TheVariants as desk_reply
use Rattle.linked_desk.specs.declared.acts.DeskReply.TheVariants.{Items}
use Rattle.lobby_state.specs.declared.acts.LobbyAct.{LobbyAct}
use Rattle.lobby_state.specs.declared.acts.LobbyAct.TheVariants as lobby_act
use Rattle.lobby_state.specs.declared.acts.LobbyReply.TheVariants.{Found}
use Rattle.lobby_state.specs.declared.acts.PairAct.TheVariants as pair_act
use Rattle.simul_control.specs.declared.place.Place.{Place}
use Rattle.lobby_state.specs.FindGame.{desk_of_game}
use Rattle.lobby_state.specs.Said.{spoken_line}
use Rattle.one_server.specs.declared.act.Act.{Act}
use Rattle.one_server.specs.declared.act.Act.TheVariants.{Lobby, Desk, Pair}
use Rattle.one_server.specs.declared.reply.Reply.{Reply}
use Rattle.one_server.specs.declared.reply.Reply.TheVariants as reply
use Rattle.session_core.specs.declared.reaction.Reaction.{Reaction}
use Rattle.session_core.specs.Course.{Course, Done, Asks, Writes}
use Rattle.session_core.specs.Memory.{MemoryState, departed, present_in, memory_told, looks_on_at_most, is_giving, observed_at, reader_in, remark_place}
use Rattle.session_core.specs.OwnCommands.{OwnAnswer, own_answer}
use Rattle.session_core.specs.Reactions.{in_lobby, of_desk, says_no_offer}
use Rattle.session_core.specs.Texts.{refusal_line, reply_text, news_text, waiting_text, shown_text}
use Rattle.session_core.specs.Memory.{with_observed, without_observed}
use Rattle.session_core.specs.Visits.{visits_in}
use Rattle.session_core.specs.Ways.{way_of}
pub use Rattle.session_asks.specs.News.{says_over}
use Rattle.session_asks.specs.declared.standing.Standing.{Standing}
use Rattle.session_asks.specs.declared.standing.Standing.TheVariants.{In}
use Rattle.session_asks.specs.declared.visit.Visit.{Visit}
use Rattle.session_core.specs.declared.way.Way.{Way}
use Rattle.session_core.specs.declared.way.Way.TheVariants as way

-- an act at the game of a place
abbrev pub at_place : Place → DeskAct → Act
at_place place act = Desk place.desk place.serial act

-- an act at the game of a visit
abbrev pub at_game : Visit → DeskAct → Act
at_game visit act = Desk visit.desk visit.serial act

-- a game is given up
abbrev pub clear_at : Visit → Act
clear_at visit = Pair (pair_act.Clear visit.desk visit.serial)

-- where nothing more will come, the game is given up
abbrev pub given_up : Visit → Bool → Course → Course
given_up visit true rest = Asks (clear_at visit) (λ cleared. rest)
given_up visit false rest = rest

-- what the session remembers once it has given up a game: it looks on there no longer; of its places the lobby tells
abbrev pub forgets : Option ℕ → ℕ → MemoryState → MemoryState
forgets None desk memory = without_observed desk memory
forgets (Some seat) desk memory = memory

-- and behind a visit, by whether nothing more will come
abbrev pub behind_visit : Visit → Bool → MemoryState → MemoryState
behind_visit visit true memory = forgets visit.seat visit.desk memory
behind_visit visit false memory = memory

-- a visit at each game, in order: its news are told, and where nothing more will come it is given up
abbrev pub visits : List Visit → MemoryState → Course
visits [] memory = Done memory
visits (visit ∷ rest) memory =
    Asks (at_game visit desk_act.Fetch)
    (λ reply. Writes (news_text (reader_in memory visit.seat) reply)
    (given_up visit (says_over reply) (visits rest (behind_visit visit (says_over reply) memory))))

-- the lobby has told what waits there and which places there are, and the visits follow
abbrev pub rounding : MemoryState → Course
rounding memory = visits (visits_in memory) memory

-- the round, which tells all that is new: the lines that wait in the lobby, and then the news of each game that the
-- session plays or at which it looks on
abbrev pub round : MemoryState → Course
round memory = Asks (Lobby lobby_act.Fetch) (λ reply. Writes (waiting_text reply) (rounding (memory_told memory reply)))

-- the reply to the act of a command, and then the round
abbrev pub course_behind : Reply → MemoryState → Course
course_behind reply memory = Writes (reply_text reply) (round memory)

-- the reply to an act at a desk, as it shows a game to the player of a seat, or to who looks on, and then the round
abbrev pub shown : Option ℕ → Reply → MemoryState → Course
shown seat reply memory = Writes (shown_text (reader_in memory seat) reply) (round memory)

-- an act at this place and its reply, and then the round; without a place the session itself answers
abbrev pub at_present : DeskAct → Option Place → MemoryState → Course
at_present act None memory = Writes (refusal_line NotPlaying) (round memory)
at_present act (Some place) memory =
    Asks (at_place place act) (λ reply. shown (Some place.seat) reply memory)

-- the lobby has told which place is the present one, and the act is made there
abbrev pub placing : DeskAct → MemoryState → Course
placing act memory = at_present act (present_in memory) memory

-- a command to the present place, which the lobby knows
abbrev pub to_desk : DeskAct → MemoryState → Course
to_desk act memory = Asks (Lobby lobby_act.Where) (λ reply. placing act (memory_told memory reply))

-- the desk has accepted a half-move
abbrev pub is_accepted : Reply → Bool
is_accepted (reply.Desk desk_reply.Done) = true
is_accepted _ = false

-- behind an accepted half-move who gives a simul goes to its next place
abbrev pub turns : Reply → MemoryState → Bool
turns reply memory = is_accepted reply && is_giving memory

-- the reply to a half-move, and then the round; where the next place comes before it, what the lobby answers to that
-- isn't printed
abbrev pub behind_half_move : ℕ → Reply → MemoryState → Course
behind_half_move seat reply memory =
    Writes (shown_text (reader_in memory (Some seat)) reply)
    (if turns reply memory then Asks (Lobby lobby_act.SimNext) (λ turned. round memory) else round memory)

-- a half-move at this place, where there is one; else the session itself answers
abbrev pub moving_at : MoveWord → Option ℕ → Option Place → MemoryState → Course
moving_at word stamp None memory = Writes (refusal_line NotPlaying) (round memory)
moving_at word stamp (Some place) memory =
    Asks (at_place place (desk_act.Move word stamp)) (λ reply. behind_half_move place.seat reply memory)

-- the lobby has told which place is the present one, and the half-move is made there
abbrev pub moving : MoveWord → Option ℕ → MemoryState → Course
moving word stamp memory = moving_at word stamp (present_in memory) memory

-- a half-move at the present place, which the lobby knows; it carries the stamp of its line, where that has one
abbrev pub half_move_course : MoveWord → Option ℕ → MemoryState → Course
half_move_course word stamp memory =
    Asks (Lobby lobby_act.Where) (λ reply. moving word stamp (memory_told memory reply))

-- a remark at the present place, or else at the first game at which the session looks on
abbrev pub remarking : DeskAct → MemoryState → Course
remarking act memory = at_present act (remark_place memory) memory

abbrev pub to_remark : DeskAct → MemoryState → Course
to_remark act memory = Asks (Lobby lobby_act.Where) (λ reply. remarking act (memory_told memory reply))

-- the line of a session's remark: its own name, and what it says
abbrev pub remark_text : Standing → List ℕ → List ℕ
remark_text (In name) text = spoken_line name (codes " kibitzes: ") text
remark_text _ text = text

abbrev pub remark_of : List ℕ → MemoryState → DeskAct
remark_of text memory = desk_act.Remark (remark_text memory.standing text)

-- what the session remembers once it has asked to look on at the game of a place: where it is shown boards, it does
abbrev pub watched : Place → Reply → MemoryState → MemoryState
watched place (reply.Desk (Items items is_over)) memory = with_observed place memory
watched place _ memory = memory

-- the desk has answered whether the session looks on
abbrev pub watching : Place → Reply → MemoryState → Course
watching place reply memory = Writes (shown_text (reader_in memory None) reply) (round (watched place reply memory))

-- the lobby has answered where a game is played: there the session asks to look on
abbrev pub finding : Reply → MemoryState → Course
finding (reply.Lobby (Found place)) memory =
    Asks (at_place place desk_act.Watch) (λ reply. watching place reply memory)
finding other memory = course_behind other memory

-- looks on at one game more, for which the lobby is asked, where there aren't 32
abbrev pub to_observe : LobbyAct → MemoryState → Course
to_observe act memory =
    if looks_on_at_most memory then Writes (refusal_line ListFull) (round memory)
    else Asks (Lobby act) (λ reply. finding reply memory)

-- looks on no longer at this game; where the session doesn't, it answers itself
abbrev pub unobserved : Option Place → MemoryState → Course
unobserved None memory = Writes (refusal_line NotWatching) (round memory)
unobserved (Some place) memory =
    Asks (at_place place desk_act.Unwatch) (λ reply. course_behind reply (without_observed place.desk memory))

abbrev pub to_unobserve : ℕ → MemoryState → Course
to_unobserve number memory = unobserved (observed_at (desk_of_game number) memory) memory

-- a command that is one act
abbrev pub to_server : Act → MemoryState → Course
to_server act memory = Asks act (λ reply. course_behind reply memory)

-- the desk has answered the act that accepts or declines: where no offer stands there, the lobby is asked
abbrev pub reacted : Reaction → Reply → MemoryState → Course
reacted reaction reply memory =
    if says_no_offer reply then to_server (in_lobby reaction) memory else course_behind reply memory

-- the desk of this place is asked first, and without a place the lobby alone
abbrev pub reacting_at : Reaction → Option Place → MemoryState → Course
reacting_at reaction None memory = to_server (in_lobby reaction) memory
reacting_at reaction (Some place) memory =
    Asks (at_place place (of_desk reaction)) (λ reply. reacted reaction reply memory)

-- the lobby has told which place is the present one
abbrev pub reacting : Reaction → MemoryState → Course
reacting reaction memory = reacting_at reaction (present_in memory) memory

-- an offer is accepted or declined, where the player names nobody
abbrev pub to_react : Reaction → MemoryState → Course
to_react reaction memory = Asks (Lobby lobby_act.Where) (λ reply. reacting reaction (memory_told memory reply))

-- a command that the session carries out by itself: its line, and then the round
abbrev pub by_itself : OwnAnswer → Course
by_itself answer = Writes answer.line (round answer.memory)

-- each game is left and given up, in order, and then the member is gone
abbrev pub leave_games : List Visit → MemoryState → Course
leave_games [] memory = Asks (Lobby lobby_act.Bye) (λ reply. Done (departed memory))
leave_games (visit ∷ rest) memory =
    Asks (at_game visit desk_act.Leave) (λ left. Asks (clear_at visit) (λ cleared. leave_games rest memory))

-- the acts of leaving: the places and then the games at which the session looks on. Where Going is passed over, the
-- places are those that it remembers
abbrev pub leaving_course : MemoryState → Course
leaving_course memory =
    Asks (Lobby lobby_act.Going)
    (λ reply. leave_games (visits_in (memory_told memory reply)) (memory_told memory reply))

-- what a session does in a way; a move carries the stamp of its line, where it has one
abbrev pub way_course : Way → Option ℕ → MemoryState → Course
way_course way.Round stamp memory = round memory
way_course (way.Server act) stamp memory = to_server act memory
way_course (way.Desk act) stamp memory = to_desk act memory
way_course (way.Move word) stamp memory = half_move_course word stamp memory
way_course (way.React reaction) stamp memory = to_react reaction memory
way_course (way.Remark text) stamp memory = to_remark (remark_of text memory) memory
way_course (way.Observe act) stamp memory = to_observe act memory
way_course (way.Unobserve number) stamp memory = to_unobserve number memory
way_course (way.Own own) stamp memory = by_itself (own_answer own memory)
way_course way.Leave stamp memory = leaving_course memory

-- what a session does for a command
abbrev pub command_course : Command → Option ℕ → MemoryState → Course
command_course command stamp memory = way_course (way_of command) stamp memory

-- an acknowledgement reaches the present place, if there is any; it prints nothing, and no round follows
abbrev pub acked_at : ℕ → Option Place → MemoryState → Course
acked_at stamp None memory = Done memory
acked_at stamp (Some place) memory = Asks (at_place place (desk_act.Acked stamp)) (λ reply. Done memory)

abbrev pub acking : ℕ → MemoryState → Course
acking stamp memory = acked_at stamp (present_in memory) memory

abbrev pub to_acked : ℕ → MemoryState → Course
to_acked stamp memory = Asks (Lobby lobby_act.Where) (λ reply. acking stamp (memory_told memory reply))
