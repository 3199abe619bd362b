-- The stages of a session: what stands between an act and its reply, and what follows. This server's own.
use Rattle.std.specs.Prelude.{◌≡◌, ℕ, ◌+◌, ◌*◌, ◌≤◌, Bool, ◌&&◌, true, false, List, ◌++◌, length, Option, Some, IfSome, Ok, Err, Result}
use Rattle.clock_ledger.specs.Span.{IsStamp}
use Rattle.linked_desk.specs.Acts.{FitsDeskAct}
use Rattle.linked_desk.specs.declared.acts.DeskAct.TheVariants as desk_act
use Rattle.lobby_state.specs.declared.acts.LobbyAct.TheVariants as lobby_act
use Rattle.lobby_state.specs.Acts.{FitsLobby}
use Rattle.memory.specs.declared.NoMemory.{NoMemory}
use Rattle.fics_words.specs.Line.{most_text_bytes}
use Rattle.one_server.specs.declared.act.Act.{Act}
use Rattle.one_server.specs.declared.act.Act.TheVariants.{Lobby}
use Rattle.one_server.specs.declared.reply.Reply.{Reply}
use Rattle.one_server.specs.Acts.{FitsAct}
use Rattle.session_core.specs.declared.first.First.{First}
use Rattle.session_core.specs.declared.first.First.TheVariants as first
use Rattle.session_core.specs.declared.next.Next.{Next}
use Rattle.session_core.specs.declared.next.Next.TheVariants.{Ask, Visits, End}
use Rattle.session_core.specs.declared.stage.Stage.{Stage}
use Rattle.session_core.specs.declared.stage.Stage.TheVariants as stage
use Rattle.session_core.specs.declared.leaving_stage.LeavingNext.{LeavingNext}
use Rattle.session_core.specs.declared.leaving_stage.LeavingNext.TheVariants as leaving_next
use Rattle.session_core.specs.declared.leaving_stage.LeavingStage.{LeavingStage}
use Rattle.session_core.specs.declared.leaving_stage.LeavingStage.TheVariants as leaving_stage
use Rattle.session_core.specs.Course.{Course, Done, Asks, Writes}
use Rattle.session_core.specs.Memory.{MemoryState, departed, has_entered, is_gone, stands_at, memory_told, without_observed}
use Rattle.session_core.specs.Login.{admitted, entered_as}
use Rattle.session_core.specs.Remembering.{asks_places}
use Rattle.session_core.specs.Session.{acking, course_behind, at_place, behind_visit, clear_at, finding, leave_games, leaving_course, placing, reacted, reacting, remarking}
use Rattle.session_core.specs.Session.{behind_half_move, moving, round, rounding, says_over, shown, watched, watching}
use Rattle.session_core.specs.Texts.{waiting_text}
use Rattle.session_core.specs.Visits.{visits_in}
use Rattle.session_asks.specs.declared.visit.Visit.{Visit}
use Rattle.session_core.specs.declared.way.Way.{Way}
use Rattle.session_core.specs.declared.way.Way.TheVariants as way

-- what follows the reply to the act at which the session stands
abbrev pub continues : Stage → MemoryState → Reply → Course
continues (stage.Entering name) memory reply = entered_as name reply memory
continues (stage.Placing act) memory reply = placing act (memory_told memory reply)
continues (stage.Moving word stamp) memory reply = moving word stamp (memory_told memory reply)
continues (stage.Moved seat) memory reply = behind_half_move seat reply memory
continues stage.Turning memory reply = round memory
continues (stage.Reacting reaction) memory reply = reacting reaction (memory_told memory reply)
continues (stage.Reacted reaction) memory reply = reacted reaction reply memory
continues stage.Answering memory reply = course_behind reply memory
continues (stage.Showing seat) memory reply = shown (Some seat) reply memory
continues (stage.Remarking act) memory reply = remarking act (memory_told memory reply)
continues stage.Finding memory reply = finding reply memory
continues (stage.Watching place) memory reply = watching place reply memory
continues (stage.Unwatching place) memory reply = course_behind reply (without_observed place.desk memory)
continues stage.Rounding memory reply = Writes (waiting_text reply) (rounding (memory_told memory reply))
continues (stage.AwaitingPlace stamp) memory reply = acking stamp (memory_told memory reply)
continues stage.Acking memory reply = Done memory

-- the session had the memory to write what stands behind a reply
abbrev pub is_done : {T : Type 0} → Result T NoMemory → Bool
is_done (Ok next) = true
is_done (Err cause) = false

-- what the session remembers once it has that reply, whether it has written what stands behind it or ran out of memory
abbrev pub kept : Stage → MemoryState → Reply → MemoryState
kept (stage.Entering name) memory reply = stands_at (admitted name reply) memory
kept (stage.Placing act) memory reply = memory_told memory reply
kept (stage.Moving word stamp) memory reply = memory_told memory reply
kept (stage.Reacting reaction) memory reply = memory_told memory reply
kept (stage.Remarking act) memory reply = memory_told memory reply
kept (stage.Watching place) memory reply = watched place reply memory
kept (stage.Unwatching place) memory reply = without_observed place.desk memory
kept stage.Rounding memory reply = memory_told memory reply
kept (stage.AwaitingPlace stamp) memory reply = memory_told memory reply
kept _ memory reply = memory

-- and behind a visit: where it ran out of memory a game that is over isn't forgotten, and is still left and given up in
-- the end
abbrev pub kept_behind : {T : Type 0} → Visit → Result T NoMemory → MemoryState → Reply → MemoryState
kept_behind visit result memory reply = behind_visit visit (is_done result && says_over reply) memory

-- what follows when it leaves
abbrev pub leaves : LeavingStage → MemoryState → Reply → Course
leaves leaving_stage.Going memory reply = leave_games (visits_in (memory_told memory reply)) (memory_told memory reply)
leaves (leaving_stage.Leaving visit rest) memory reply = Asks (clear_at visit) (λ cleared. leave_games rest memory)
leaves (leaving_stage.Clearing rest) memory reply = leave_games rest memory
leaves leaving_stage.Gone memory reply = Done (departed memory)

-- the course of what comes next: an act, and what follows its reply by what the session remembers; the visits; or the
-- end
abbrev pub course_of : Next → MemoryState → Course
course_of (Ask act at) memory = Asks act (continues at memory)
course_of Visits memory = rounding memory
course_of End memory = Done memory

-- and as it leaves
abbrev pub leaving_of : LeavingNext → MemoryState → Course
leaving_of (leaving_next.Ask act at) memory = Asks act (leaves at memory)
leaving_of leaving_next.End memory = Done memory

-- how many acts may still follow the reply before the visits
abbrev pub acts_after : Stage → ℕ
acts_after (stage.Entering name) = 0
acts_after (stage.Placing act) = 2
acts_after (stage.Moving word stamp) = 3
acts_after (stage.Moved seat) = 2
acts_after stage.Turning = 1
acts_after (stage.Reacting reaction) = 3
acts_after (stage.Reacted reaction) = 2
acts_after (stage.Remarking act) = 2
acts_after stage.Finding = 2
acts_after (stage.Watching place) = 1
acts_after (stage.Unwatching place) = 1
acts_after (stage.Showing seat) = 1
acts_after stage.Answering = 1
acts_after stage.Rounding = 0
acts_after (stage.AwaitingPlace stamp) = 1
acts_after stage.Acking = 0

abbrev pub acts_of_leaving : LeavingStage → ℕ
acts_of_leaving leaving_stage.Going = 129
acts_of_leaving (leaving_stage.Leaving visit rest) = 2 * length rest + 2
acts_of_leaving (leaving_stage.Clearing rest) = 2 * length rest + 1
acts_of_leaving leaving_stage.Gone = 0

-- how many acts are still to be made before the visits, or before the member is gone
abbrev pub acts_left : Next → ℕ
acts_left (Ask act at) = acts_after at + 1
acts_left _ = 0

abbrev pub acts_to_leave : LeavingNext → ℕ
acts_to_leave (leaving_next.Ask act at) = acts_of_leaving at + 1
acts_to_leave leaving_next.End = 0

-- the stamp of a line, where there is one, is below 10,000,000
abbrev pub FitsStamp : Option ℕ → Type 0
FitsStamp stamp = IfSome stamp IsStamp

-- the numbers of a way's act are ones that it can have, and a remark has at most 800 bytes
abbrev pub FitsWay : Way → Type 0
FitsWay (way.Server act) = FitsAct act
FitsWay (way.Desk act) = FitsDeskAct act
FitsWay (way.Observe act) = FitsLobby act
FitsWay (way.Remark text) = length text ≤ most_text_bytes
FitsWay _ = Unit {0}

-- the act of a way asks the lobby for the places of its player
abbrev pub way_asks_places : Way → Bool
way_asks_places (way.Server act) = asks_places act
way_asks_places (way.Observe act) = asks_places (Lobby act)
way_asks_places _ = false

-- a stage has what its next act needs, an act that a desk can take, a stamp; and it is one of a session that hasn't
-- entered, or of one that has
abbrev pub IsSet : MemoryState → Stage → Type 0
IsSet memory (stage.Entering name) = has_entered memory ≡ false
IsSet memory (stage.Placing act) = (has_entered memory ≡ true) × FitsDeskAct act
IsSet memory (stage.Moving word stamp) = (has_entered memory ≡ true) × FitsStamp stamp
IsSet memory (stage.Remarking act) = (has_entered memory ≡ true) × FitsDeskAct act
IsSet memory (stage.AwaitingPlace stamp) = (has_entered memory ≡ true) × IsStamp stamp
IsSet memory _ = has_entered memory ≡ true

-- the act at which the session stands is one that the stage is for
abbrev pub Suits : Act → Stage → Type 0
Suits act (stage.Placing deed) = act ≡ Lobby lobby_act.Where
Suits act (stage.Moving word stamp) = act ≡ Lobby lobby_act.Where
Suits act (stage.Reacting reaction) = act ≡ Lobby lobby_act.Where
Suits act (stage.Remarking deed) = act ≡ Lobby lobby_act.Where
Suits act (stage.Watching place) = act ≡ at_place place desk_act.Watch
Suits act (stage.Unwatching place) = act ≡ at_place place desk_act.Unwatch
Suits act stage.Rounding = act ≡ Lobby lobby_act.Fetch
Suits act (stage.AwaitingPlace stamp) = act ≡ Lobby lobby_act.Where
Suits act _ = asks_places act ≡ false

-- an act may be made at its stage, by a session that remembers this
abbrev pub IsPosed : MemoryState → Next → Type 0
IsPosed memory (Ask act at) = FitsAct act × IsSet memory at × Suits act at
IsPosed memory Visits = has_entered memory ≡ true
IsPosed memory End = Unit {0}

-- the next act of leaving may be made
abbrev pub MayLeave : LeavingNext → Type 0
MayLeave (leaving_next.Ask act at) = FitsAct act
MayLeave leaving_next.End = Unit {0}

-- the course of what comes first
abbrev pub first_course : First → MemoryState → Course
first_course first.Leaving memory = leaving_course memory
first_course (first.Going next) memory = course_of next memory

-- and it may be made, by a session that has entered where it leaves
abbrev pub IsPrepared : MemoryState → First → Type 0
IsPrepared memory first.Leaving = has_entered memory ≡ true
IsPrepared memory (first.Going next) = IsPosed memory next

-- where nothing more is to be made, the session has left
abbrev pub HasGone : LeavingNext → MemoryState → Type 0
HasGone (leaving_next.Ask act at) memory = Unit {0}
HasGone leaving_next.End memory = is_gone memory ≡ true

-- a text with what a course writes before its next act or its end
abbrev pub onto : List ℕ → Course → List ℕ
onto out (Writes put rest) = onto (out ++ put) rest
onto out (Asks act rest) = out
onto out (Done memory) = out

-- the course from its next act or its end on
abbrev pub course_settled : Course → Course
course_settled (Writes put rest) = course_settled rest
course_settled (Asks act rest) = Asks act rest
course_settled (Done memory) = Done memory

-- a session went on in this course to what comes next: it wrote what stands before that
pub record Settles (course : Course) (coming : Course) (out out_now : List ℕ) : Type 0 where
  pub text : out_now ≡ onto out course
  pub goes : coming ≡ course_settled course
