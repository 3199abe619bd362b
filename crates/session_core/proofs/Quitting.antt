-- A session leaves only where it was asked to quit.
use Rattle.std.proofs.Common.{◌≡◌, ℕ, Bool, true, false, if◌then◌else◌, List, [], ◌∷◌, ◌++◌, refl, sym, ap, subst, inl, inr, ◌∙◌, Result}
use Rattle.std.specs.declared.option.Option.{Option}
use Rattle.std.specs.declared.option.Option.TheVariants.{None, Some}
use Rattle.command_words.specs.declared.command.Command.{Command}
use Rattle.command_words.specs.Commands.{command_in}
use Rattle.fics_words.specs.HandleTest.{handle_of}
use Rattle.fics_words.specs.declared.refusal.Refusal.{Refusal}
use Rattle.fics_words.specs.declared.refusal.Refusal.TheVariants as refusal
use Rattle.line_reader.specs.declared.incoming.Incoming.{Incoming}
use Rattle.line_reader.specs.declared.incoming.Incoming.TheVariants as incoming
use Rattle.lobby_state.specs.declared.acts.LobbyReply.TheVariants as lobby_reply
use Rattle.simul_control.specs.declared.place.Place.{Place}
use Rattle.one_server.specs.declared.reply.Reply.{Reply}
use Rattle.one_server.specs.declared.reply.Reply.TheVariants as reply
use Rattle.one_server.specs.Running.{Log}
use Rattle.session_core.specs.declared.input.Input.{Input}
use Rattle.session_core.specs.declared.input.Input.TheVariants.{Line, Quiet}
use Rattle.session_asks.specs.declared.standing.LinkMark.TheVariants.{Stamped}
use Rattle.session_asks.specs.declared.standing.Standing.{Standing}
use Rattle.session_asks.specs.declared.standing.Standing.TheVariants as standing
use Rattle.session_core.specs.Course.{Course, Done, Asks, Writes, Follows, act_at}
use Rattle.session_core.specs.Inputs.{ack_course, asked_course, asks_to_quit, input_course, is_greeting, is_quit, line_course, line_quits, past_line, quiet_course, refusing, stamp_on, text_course, text_quits}
use Rattle.session_core.specs.Login.{admitted, enter_course, entering_named, is_guest, name_course, password_of, proving}
use Rattle.session_core.specs.Memory.{MemoryState, is_gone, is_out, present_in, memory_told}
use Rattle.session_core.specs.Session.{acked_at, given_up, round, says_over, visits, behind_visit, forgets}
use Rattle.session_core.specs.Visits.{visits_in}
use Rattle.session_asks.specs.declared.visit.Visit.{Visit}
use Rattle.session_core.specs.Laws.{places_by}
use Rattle.session_core.proofs.Endings.{quits_past}
use Rattle.session_core.proofs.Rounds.{ToRound, by_asked, told_keeps}
use Rattle.histories.specs.declared.entry.Entry.{Entry}
use Rattle.histories.specs.History.{entry}
use Rattle.lobby_state.specs.Places.{PlaceList}
use Rattle.one_server.specs.declared.act.Timed.{Timed}
use Rattle.std.proofs.lemmas.Bool.{true_from_ne_false}

-- the session hasn't left at any end of the course
NeverGone : Course → Type 0
NeverGone (Done memory) = is_gone memory ≡ false
NeverGone (Writes text rest) = NeverGone rest
NeverGone (Asks act rest) = (r : Reply) → NeverGone (rest r)

never_followed : (course : Course) (session moment : ℕ) (made : Log) (text : List ℕ) (after : MemoryState)
    → NeverGone course → Follows course session moment made text after → is_gone after ≡ false
unfolding NeverGone
never_followed (Done kept) session moment made text after never f = ap is_gone f.2 ∙ never
never_followed (Writes put rest) session moment made text after never f =
    never_followed rest session moment made f.0 after never f.2
never_followed (Asks act rest) session moment [] text after never f = absurd f
never_followed (Asks act rest) session moment (e ∷ made) text after never f =
    never_followed (rest e.reply) session moment made text after (never e.reply) f.1

stays : (memory : MemoryState) (r : Reply) → is_gone memory ≡ false → is_gone (memory_told memory r) ≡ false
stays memory r here = ap is_out (told_keeps memory r).stands ∙ here

never_given_up : (visit : Visit) (over : Bool) (rest : Course) → NeverGone rest → NeverGone (given_up visit over rest)
unfolding NeverGone
never_given_up visit true rest never = λ r. never
never_given_up visit false rest never = never

stays_forgetting : (seat : Option ℕ) (desk : ℕ) (memory : MemoryState) → is_gone memory ≡ false
    → is_gone (forgets seat desk memory) ≡ false
stays_forgetting None desk memory here = here
stays_forgetting (Some seat) desk memory here = here

stays_behind : (visit : Visit) (over : Bool) (memory : MemoryState) → is_gone memory ≡ false
    → is_gone (behind_visit visit over memory) ≡ false
stays_behind visit true memory here = stays_forgetting visit.seat visit.desk memory here
stays_behind visit false memory here = here

never_visits : (games : List Visit) (memory : MemoryState) → is_gone memory ≡ false → NeverGone (visits games memory)
unfolding NeverGone
never_visits [] memory here = here
never_visits (visit ∷ rest) memory here = λ r.
    never_given_up visit (says_over r) (visits rest (behind_visit visit (says_over r) memory))
    (never_visits rest (behind_visit visit (says_over r) memory) (stays_behind visit (says_over r) memory here))

never_round : (memory : MemoryState) → is_gone memory ≡ false → NeverGone (round memory)
unfolding NeverGone
never_round memory here = λ r.
    never_visits (visits_in (memory_told memory r)) (memory_told memory r) (stays memory r here)

never_either : (t : Bool) (one other : Course) → NeverGone one → NeverGone other → NeverGone (if t then one else other)
never_either true one other p q = p
never_either false one other p q = q

-- a course that comes to the round
never_to_round : (before : MemoryState) (course : Course) (places : PlaceList) (front : Log)
    → ToRound before places front course → is_gone before ≡ false → NeverGone course
unfolding ToRound NeverGone
never_to_round before (Done memory) places front h here = absurd h
never_to_round before (Writes text rest) places front h here = never_to_round before rest places front h here
never_to_round before (Asks act rest) places front (inl h) here =
    let at_round : NeverGone (round h.0) = never_round h.0 (ap is_out h.2.stands ∙ here) in
    subst NeverGone (sym h.1) at_round
never_to_round before (Asks act rest) places front (inr step) here = λ r.
    let made : Entry Timed Reply = entry 0 (act_at 0 act) r in
    never_to_round before (rest r) (places_by places r) (front ++ made ∷ []) (step made refl).1 here

never_asked : (asked : Result Command Refusal) (stamp : Option ℕ) (memory : MemoryState) → is_gone memory ≡ false
    → is_quit asked ≡ false → NeverGone (asked_course asked stamp memory)
never_asked asked stamp memory here goes_on =
    never_to_round memory (asked_course asked stamp memory) memory.places []
    (by_asked memory asked stamp memory memory.places [] refl (record { stands = refl; looks = refl }) goes_on) here

password_in : (name : Option (List ℕ)) → is_out (password_of name) ≡ false
password_in (Some name) = refl
password_in None = refl

admitted_in : (name : Option (List ℕ)) (r : Reply) → is_out (admitted name r) ≡ false
admitted_in name (reply.Lobby (lobby_reply.Entered given)) = refl
admitted_in name (reply.Lobby lobby_reply.NeedPassword) = password_in name
admitted_in name _ = refl

never_entering : (name digest : Option (List ℕ)) (memory : MemoryState) → NeverGone (enter_course name digest memory)
unfolding NeverGone
never_entering name digest memory = λ r. admitted_in name r

never_named : (name : Option (List ℕ)) (memory : MemoryState) → NeverGone (entering_named name memory)
unfolding NeverGone
never_named None memory = refl
never_named (Some name) memory = never_entering (Some name) None memory

never_naming : (text : List ℕ) (memory : MemoryState) → is_gone memory ≡ false → NeverGone (name_course text memory)
unfolding NeverGone
never_naming [] memory here = here
never_naming (b ∷ text) memory here =
    never_either (is_guest (b ∷ text)) (enter_course None None memory) (entering_named (handle_of (b ∷ text)) memory)
    (never_entering None None memory) (never_named (handle_of (b ∷ text)) memory)

never_proving : (name text : List ℕ) (memory : MemoryState) → is_gone memory ≡ false
    → NeverGone (proving name text memory)
unfolding NeverGone
never_proving name [] memory here = here
never_proving name (b ∷ text) memory here = λ r. admitted_in (Some name) r

never_text : (text : List ℕ) (stamp : Option ℕ) (at : Standing) (memory : MemoryState) → is_gone memory ≡ false
    → text_quits text at memory.aliases ≡ false → NeverGone (text_course text stamp at memory)
unfolding NeverGone
never_text text stamp standing.Login memory here goes_on = never_naming text memory here
never_text text stamp (standing.Password name) memory here goes_on = never_proving name text memory here
never_text text stamp (standing.In name) memory here goes_on =
    never_asked (command_in memory.aliases text) stamp memory here goes_on
never_text text stamp standing.Gone memory here goes_on = here

never_refusing : (cause : Refusal) (at : Standing) (memory : MemoryState) → is_gone memory ≡ false
    → NeverGone (refusing cause at memory)
unfolding NeverGone
never_refusing cause standing.Login memory here = refl
never_refusing cause (standing.Password name) memory here = refl
never_refusing cause (standing.In name) memory here = never_round memory here
never_refusing cause standing.Gone memory here = here

never_acked : (stamp : ℕ) (place : Option Place) (memory : MemoryState) → is_gone memory ≡ false
    → NeverGone (acked_at stamp place memory)
unfolding NeverGone
never_acked stamp None memory here = here
never_acked stamp (Some place) memory here = λ r. here

never_ack : (stamp : ℕ) (at : Standing) (memory : MemoryState) → is_gone memory ≡ false
    → NeverGone (ack_course stamp at memory)
unfolding NeverGone
never_ack stamp standing.Login memory here = here
never_ack stamp (standing.Password name) memory here = here
never_ack stamp (standing.In name) memory here = λ r.
    never_acked stamp (present_in (memory_told memory r)) (memory_told memory r) (stays memory r here)
never_ack stamp standing.Gone memory here = here

never_line : (line : Incoming) (memory : MemoryState) → is_gone memory ≡ false → line_quits line memory ≡ false
    → NeverGone (line_course line memory)
never_line (incoming.Plain text) memory here goes_on = never_text text None memory.standing memory here goes_on
never_line (incoming.Stamped text stamp) memory here goes_on =
    never_text text (stamp_on memory.link stamp) memory.standing memory here goes_on
never_line (incoming.Ack stamp) memory here goes_on = never_ack stamp memory.standing memory here
never_line incoming.TooLong memory here goes_on = never_refusing refusal.TooLong memory.standing memory here
never_line incoming.BadByte memory here goes_on = never_refusing refusal.BadByte memory.standing memory here

never_greeting : (t : Bool) (memory marked : MemoryState) (line : Incoming) → is_gone marked ≡ false
    → is_gone memory ≡ false → (if t then false else line_quits line memory) ≡ false
    → NeverGone (if t then Done marked else line_course line (past_line memory))
unfolding NeverGone
never_greeting true memory marked line there here goes_on = there
never_greeting false memory marked line there here goes_on =
    never_line line (past_line memory) here (quits_past line memory ∙ goes_on)

never_quiet : (at : Standing) (memory : MemoryState) → is_gone memory ≡ false → NeverGone (quiet_course at memory)
unfolding NeverGone
never_quiet standing.Login memory here = here
never_quiet (standing.Password name) memory here = here
never_quiet (standing.In name) memory here = never_round memory here
never_quiet standing.Gone memory here = here

never_input : (input : Input) (memory : MemoryState) → is_gone memory ≡ false → asks_to_quit input memory ≡ false
    → NeverGone (input_course input memory)
never_input Quiet memory here goes_on = never_quiet memory.standing memory here
never_input (Line line) memory here goes_on =
    never_greeting (is_greeting memory.link line) memory (record memory { link = Stamped }) line here here goes_on

pub only_quit : (input : Input) (before after : MemoryState) (session moment : ℕ) (made : Log) (text : List ℕ)
    → Follows (input_course input before) session moment made text after → is_gone before ≡ false → is_gone after ≡ true
    → asks_to_quit input before ≡ true
only_quit input before after session moment made text f here gone =
    true_from_ne_false (asks_to_quit input before)
    (λ goes_on.
    let never =
    never_followed (input_course input before) session moment made text after (never_input input before here goes_on)
    f in
    let bad : true ≡ false = sym gone ∙ never in cc)
