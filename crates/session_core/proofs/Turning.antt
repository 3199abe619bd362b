-- Where the next place of a giver comes, and what the login makes.
use Rattle.std.proofs.Common.{◌≡◌, ◌⊎◌, ℕ, Bool, true, false, if◌then◌else◌, List, [], ◌∷◌, ◌++◌, refl, sym, ap, subst, ◌∙◌, inl, inr, arith, Ok, Err, Result}
use Rattle.std.specs.declared.option.Option.{Option}
use Rattle.std.specs.declared.option.Option.TheVariants.{None, Some}
use Rattle.std.proofs.lemmas.List.Elements.{All-cons, All-nil}
use Rattle.command_words.specs.Commands.{command_in}
use Rattle.fics_words.specs.HandleTest.{handle_of}
use Rattle.command_words.specs.declared.command.Command.{Command}
use Rattle.command_words.specs.declared.command.Command.TheVariants as command
use Rattle.command_words.specs.declared.rows.Bare.TheVariants.{Quit}
use Rattle.fics_words.specs.declared.refusal.Refusal.{Refusal}
use Rattle.fics_words.specs.declared.refusal.Refusal.TheVariants as refusal
use Rattle.histories.specs.declared.entry.Entry.{Entry}
use Rattle.line_reader.specs.declared.incoming.Incoming.{Incoming}
use Rattle.line_reader.specs.declared.incoming.Incoming.TheVariants as incoming
use Rattle.lobby_state.specs.Places.{PlaceList}
use Rattle.lobby_state.specs.declared.acts.LobbyAct.TheVariants as lobby_act
use Rattle.one_server.specs.declared.act.Act.{Act}
use Rattle.one_server.specs.declared.act.Act.TheVariants as one_act
use Rattle.one_server.specs.declared.act.Timed.{Timed}
use Rattle.one_server.specs.declared.reply.Reply.{Reply}
use Rattle.one_server.specs.Running.{Log}
use Rattle.session_core.specs.declared.input.Input.{Input}
use Rattle.session_core.specs.declared.input.Input.TheVariants.{Line, Quiet}
use Rattle.session_asks.specs.declared.standing.LinkMark.TheVariants.{Stamped}
use Rattle.session_asks.specs.declared.standing.Standing.{Standing}
use Rattle.session_asks.specs.declared.standing.Standing.TheVariants as standing
use Rattle.session_asks.specs.declared.visit.Visit.{Visit}
use Rattle.session_core.specs.Course.{Course, Done, Asks, Writes, Follows, next_act}
use Rattle.session_core.specs.Inputs.{ack_course, asked_course, input_course, is_greeting, line_course, past_line, quiet_course, refusing, stamp_on, text_course}
use Rattle.session_core.specs.Laws.{IsOfLogin, TurnsBehind, asks_to_enter, first_act, is_played_move, places_after, places_by}
use Rattle.session_core.specs.Login.{enter_course, entering_named, is_guest, name_course, proving}
use Rattle.session_core.specs.Memory.{MemoryState, has_entered, standing_in, present_in, memory_told}
use Rattle.session_core.specs.Session.{acked_at, behind_visit, given_up, is_accepted, leave_games, leaving_course, round, says_over, visits}
use Rattle.session_core.specs.Visits.{visits_in}
use Rattle.session_core.proofs.Rounds.{Same, ToRound, at_round, by_asked, written}
use Rattle.sha2.specs.Sha256.{sha256}
use Rattle.simul_control.specs.declared.place.Place.{Place}

-- no act of the course is a half-move
NoMoves : Course → Type 0
NoMoves (Done memory) = Unit {0}
NoMoves (Writes text rest) = NoMoves rest
NoMoves (Asks act rest) = (is_played_move act ≡ false) × ((r : Reply) → NoMoves (rest r))

-- the course makes no act
NoActs : Course → Type 0
NoActs (Done memory) = Unit {0}
NoActs (Writes text rest) = NoActs rest
NoActs (Asks act rest) = ⊥

-- the course makes one act at most, which asks to come in
OneAct : Course → Type 0
OneAct (Done memory) = Unit {0}
OneAct (Writes text rest) = OneAct rest
OneAct (Asks act rest) = (asks_to_enter act ≡ true) × ((r : Reply) → NoActs (rest r))

module _ (session moment : ℕ) (after : MemoryState) where
  none_moves : (course : Course) (front later : Log) (e : Entry Timed Reply) (text : List ℕ) → NoMoves course
      → Follows course session moment (front ++ e ∷ later) text after → is_played_move e.act.act ≡ false
  unfolding NoMoves
  none_moves (Done memory) [] later e text h f = let bad = f.0 in absurd cc
  none_moves (Done memory) (x ∷ front) later e text h f = let bad = f.0 in absurd cc
  none_moves (Writes put rest) front later e text h f = none_moves rest front later e f.0 h f.2
  none_moves (Asks act rest) [] later e text h f = ap (λ (x : Entry Timed Reply). is_played_move x.act.act) f.0 ∙ h.0
  none_moves (Asks act rest) (x ∷ front) later e text h f =
      none_moves (rest x.reply) front later e text (h.1 x.reply) f.1

  first_made : (course : Course) (act : Act) (made : Log) (text : List ℕ) → next_act course [] ≡ Some act
      → Follows course session moment made text after
      → first_act made ≡ Some act
  first_made (Done memory) act made text is f = cc
  first_made (Writes put rest) act made text is f = first_made rest act made f.0 is f.2
  first_made (Asks asked rest) act [] text is f = absurd f
  first_made (Asks asked rest) act (e ∷ made) text is f = ap (λ (x : Entry Timed Reply). Some x.act.act) f.0 ∙ is

  none_made : (course : Course) (made : Log) (text : List ℕ) → NoActs course
      → Follows course session moment made text after → made ≡ []
  unfolding NoActs
  none_made (Done memory) made text h f = f.0
  none_made (Writes put rest) made text h f = none_made rest made f.0 h f.2
  none_made (Asks act rest) made text h f = absurd h

  of_login : (course : Course) (made : Log) (text : List ℕ) → OneAct course
      → Follows course session moment made text after → IsOfLogin made
  unfolding OneAct
  of_login (Done memory) made text h f =
      subst IsOfLogin (sym f.0) (record { few = omega arith; enters = All-nil (λ e. asks_to_enter e.act.act ≡ true) })
  of_login (Writes put rest) made text h f = of_login rest made f.0 h f.2
  of_login (Asks act rest) [] text h f = absurd f
  of_login (Asks act rest) (e ∷ made) text h f =
      let enters : asks_to_enter e.act.act ≡ true = ap (λ (x : Entry Timed Reply). asks_to_enter x.act.act) f.0 ∙ h.0 in
      subst (λ (l : Log). IsOfLogin (e ∷ l)) (sym (none_made (rest e.reply) made text (h.1 e.reply) f.1))
      (record {
        few = omega arith;
        enters =
            All-cons (λ x. asks_to_enter x.act.act ≡ true) e [] enters (All-nil (λ x. asks_to_enter x.act.act ≡ true));
      })

-- no act of the round, nor of leaving
still_given_up : (visit : Visit) (over : Bool) (rest : Course) → NoMoves rest → NoMoves (given_up visit over rest)
unfolding NoMoves
still_given_up visit true rest h = (refl, λ r. h)
still_given_up visit false rest h = h

still_visits : (games : List Visit) (memory : MemoryState) → NoMoves (visits games memory)
unfolding NoMoves
still_visits [] memory = tt
still_visits (visit ∷ rest) memory = (
  refl,
  λ r.
      still_given_up visit (says_over r) (visits rest (behind_visit visit (says_over r) memory))
      (still_visits rest (behind_visit visit (says_over r) memory)),
)

still_round : (memory : MemoryState) → NoMoves (round memory)
unfolding NoMoves
still_round memory = (refl, λ r. still_visits (visits_in (memory_told memory r)) (memory_told memory r))

still_leave : (games : List Visit) (memory : MemoryState) → NoMoves (leave_games games memory)
unfolding NoMoves
still_leave [] memory = (refl, λ r. tt)
still_leave (visit ∷ rest) memory = (refl, λ r. (refl, λ q. still_leave rest memory))

still_leaving : (memory : MemoryState) → NoMoves (leaving_course memory)
unfolding NoMoves
still_leaving memory = (refl, λ r. still_leave (visits_in (memory_told memory r)) (memory_told memory r))

-- no act of the login
still_none : (course : Course) → NoActs course → NoMoves course
unfolding NoMoves NoActs
still_none (Done memory) h = tt
still_none (Writes text rest) h = still_none rest h
still_none (Asks act rest) h = absurd h

enters_not : (act : Act) → asks_to_enter act ≡ true → is_played_move act ≡ false
enters_not (one_act.Desk desk serial act) h = let bad : false ≡ true = h in cc
enters_not _ h = refl

still_one : (course : Course) → OneAct course → NoMoves course
unfolding NoMoves OneAct
still_one (Done memory) h = tt
still_one (Writes text rest) h = still_one rest h
still_one (Asks act rest) h = (enters_not act h.0, λ r. still_none (rest r) (h.1 r))

one_either : (t : Bool) (one other : Course) → OneAct one → OneAct other → OneAct (if t then one else other)
one_either true one other p q = p
one_either false one other p q = q

one_entering : (name digest : Option (List ℕ)) (memory : MemoryState) → OneAct (enter_course name digest memory)
unfolding OneAct NoActs
one_entering name digest memory = (refl, λ r. tt)

one_named : (name : Option (List ℕ)) (memory : MemoryState) → OneAct (entering_named name memory)
unfolding OneAct
one_named None memory = tt
one_named (Some name) memory = one_entering (Some name) None memory

one_naming : (text : List ℕ) (memory : MemoryState) → OneAct (name_course text memory)
unfolding OneAct
one_naming [] memory = tt
one_naming (b ∷ text) memory =
    one_either (is_guest (b ∷ text)) (enter_course None None memory) (entering_named (handle_of (b ∷ text)) memory)
    (one_entering None None memory) (one_named (handle_of (b ∷ text)) memory)

one_proving : (name text : List ℕ) (memory : MemoryState) → OneAct (proving name text memory)
unfolding OneAct
one_proving name [] memory = tt
one_proving name (b ∷ text) memory = one_entering (Some name) (Some (sha256 (b ∷ text))) memory

one_text : (text : List ℕ) (stamp : Option ℕ) (at : Standing) (memory : MemoryState) → standing_in at ≡ false
    → OneAct (text_course text stamp at memory)
unfolding OneAct
one_text text stamp standing.Login memory out = one_naming text memory
one_text text stamp (standing.Password name) memory out = one_proving name text memory
one_text text stamp (standing.In name) memory out = let bad : true ≡ false = out in cc
one_text text stamp standing.Gone memory out = tt

one_refusing : (cause : Refusal) (at : Standing) (memory : MemoryState) → standing_in at ≡ false
    → OneAct (refusing cause at memory)
unfolding OneAct
one_refusing cause standing.Login memory out = tt
one_refusing cause (standing.Password name) memory out = tt
one_refusing cause (standing.In name) memory out = let bad : true ≡ false = out in cc
one_refusing cause standing.Gone memory out = tt

one_ack : (stamp : ℕ) (at : Standing) (memory : MemoryState) → standing_in at ≡ false
    → OneAct (ack_course stamp at memory)
unfolding OneAct
one_ack stamp (standing.In name) memory out = let bad : true ≡ false = out in cc
one_ack stamp _ memory out = tt

one_line : (line : Incoming) (memory : MemoryState) → standing_in memory.standing ≡ false
    → OneAct (line_course line memory)
one_line (incoming.Plain text) memory out = one_text text None memory.standing memory out
one_line (incoming.Stamped text stamp) memory out =
    one_text text (stamp_on memory.link stamp) memory.standing memory out
one_line (incoming.Ack stamp) memory out = one_ack stamp memory.standing memory out
one_line incoming.TooLong memory out = one_refusing refusal.TooLong memory.standing memory out
one_line incoming.BadByte memory out = one_refusing refusal.BadByte memory.standing memory out

one_quiet : (at : Standing) (memory : MemoryState) → standing_in at ≡ false → OneAct (quiet_course at memory)
unfolding OneAct
one_quiet (standing.In name) memory out = let bad : true ≡ false = out in cc
one_quiet _ memory out = tt

one_input : (input : Input) (memory : MemoryState) → has_entered memory ≡ false → OneAct (input_course input memory)
unfolding OneAct
one_input Quiet memory out = one_quiet memory.standing memory out
one_input (Line line) memory out =
    one_either (is_greeting memory.link line) (Done (record memory { link = Stamped }))
    (line_course line (past_line memory)) tt (one_line line (past_line memory) out)

pub input_of_login : (input : Input) (before after : MemoryState) (session moment : ℕ) (made : Log) (text : List ℕ)
    → Follows (input_course input before) session moment made text after → has_entered before ≡ false → IsOfLogin made
input_of_login input before after session moment made text f out =
    of_login session moment after (input_course input before) made text (one_input input before out) f

module _ (before : MemoryState) where
  -- a course turns behind half-moves, or makes none
  abbrev Fits : Course → Type 0
  Fits course = ToRound before before.places [] course ⊎ NoMoves course

  fits_either : (t : Bool) (one other : Course) → Fits one → Fits other → Fits (if t then one else other)
  fits_either true one other p q = p
  fits_either false one other p q = q

  fits_asked : (asked : Result Command Refusal) (stamp : Option ℕ) (memory : MemoryState)
      → memory.places ≡ before.places → Same before memory
      → Fits (asked_course asked stamp memory)
  fits_asked (Ok (command.Bare Quit)) stamp memory known s = inr (still_leaving memory)
  fits_asked (Ok asked) stamp memory known s =
      inl (by_asked before (Ok asked) stamp memory before.places [] known s refl)
  fits_asked (Err cause) stamp memory known s =
      inl (by_asked before (Err cause) stamp memory before.places [] known s refl)

  fits_text : (text : List ℕ) (stamp : Option ℕ) (at : Standing) (memory : MemoryState) → memory.places ≡ before.places
      → Same before memory
      → Fits (text_course text stamp at memory)
  fits_text text stamp (standing.In name) memory known s =
      fits_asked (command_in memory.aliases text) stamp memory known s
  fits_text text stamp standing.Login memory known s =
      inr (still_one _ (one_text text stamp standing.Login memory refl))
  fits_text text stamp (standing.Password name) memory known s =
      inr (still_one _ (one_text text stamp (standing.Password name) memory refl))
  fits_text text stamp standing.Gone memory known s = inr (still_one _ (one_text text stamp standing.Gone memory refl))

  fits_refusing : (cause : Refusal) (at : Standing) (memory : MemoryState) → Same before memory
      → Fits (refusing cause at memory)
  fits_refusing cause (standing.In name) memory s = inl (written before _ memory before.places [] s)
  fits_refusing cause standing.Login memory s = inr (still_one _ (one_refusing cause standing.Login memory refl))
  fits_refusing cause (standing.Password name) memory s =
      inr (still_one _ (one_refusing cause (standing.Password name) memory refl))
  fits_refusing cause standing.Gone memory s = inr (still_one _ (one_refusing cause standing.Gone memory refl))

  still_acked : (stamp : ℕ) (place : Option Place) (memory : MemoryState) → NoMoves (acked_at stamp place memory)
  unfolding NoMoves
  still_acked stamp None memory = tt
  still_acked stamp (Some place) memory = (refl, λ r. tt)

  still_ack : (stamp : ℕ) (at : Standing) (memory : MemoryState) → NoMoves (ack_course stamp at memory)
  unfolding NoMoves
  still_ack stamp (standing.In name) memory =
      (refl, λ r. still_acked stamp (present_in (memory_told memory r)) (memory_told memory r))
  still_ack stamp _ memory = tt

  fits_line : (line : Incoming) (memory : MemoryState) → memory.places ≡ before.places → Same before memory
      → Fits (line_course line memory)
  fits_line (incoming.Plain text) memory known s = fits_text text None memory.standing memory known s
  fits_line (incoming.Stamped text stamp) memory known s =
      fits_text text (stamp_on memory.link stamp) memory.standing memory known s
  fits_line (incoming.Ack stamp) memory known s = inr (still_ack stamp memory.standing memory)
  fits_line incoming.TooLong memory known s = fits_refusing refusal.TooLong memory.standing memory s
  fits_line incoming.BadByte memory known s = fits_refusing refusal.BadByte memory.standing memory s

  fits_quiet : (at : Standing) → Fits (quiet_course at before)
  fits_quiet (standing.In name) = inl (at_round before before before.places [] (record { stands = refl; looks = refl }))
  fits_quiet standing.Login = inr (still_one _ (one_quiet standing.Login before refl))
  fits_quiet (standing.Password name) = inr (still_one _ (one_quiet (standing.Password name) before refl))
  fits_quiet standing.Gone = inr (still_one _ (one_quiet standing.Gone before refl))

  still_done : (memory : MemoryState) → NoMoves (Done memory)
  unfolding NoMoves
  still_done memory = tt

  fits_input : (input : Input) → Fits (input_course input before)
  fits_input Quiet = fits_quiet before.standing
  fits_input (Line line) =
      fits_either (is_greeting before.link line) (Done (record before { link = Stamped }))
      (line_course line (past_line before))
      (inr (still_done (record before { link = Stamped }))) (fits_line line (past_line before) refl (record {
        stands = refl;
        looks = refl;
      }))

  -- behind each half-move on the way to the round
  turns_behind : (session moment : ℕ) (after : MemoryState) (course : Course) (places : PlaceList)
      (done front later : Log) (e : Entry Timed Reply) (text : List ℕ)
      → ToRound before places done course → Follows course session moment (front ++ e ∷ later) text after
      → is_played_move e.act.act ≡ true → is_accepted e.reply ≡ true → (places_after places front).giving ≡ true
      → first_act later ≡ Some (one_act.Lobby lobby_act.SimNext)
  unfolding ToRound
  turns_behind session moment after (Done memory) places done front later e text h f move accepted gives = absurd h
  turns_behind session moment after (Writes put rest) places done front later e text h f move accepted gives =
      turns_behind session moment after rest places done front later e f.0 h f.2 move accepted gives
  turns_behind session moment after (Asks act rest) places done front later e text (inl h) f move accepted gives =
      let around = subst (λ (c : Course). Follows c session moment (front ++ e ∷ later) text after) h.1 f in
      let stays = none_moves session moment after (round h.0) front later e text (still_round h.0) around in
      let bad : false ≡ true = sym stays ∙ move in cc
  turns_behind session moment after (Asks act rest) places done [] later e text (inr step) f move accepted gives =
      let is = ap (λ (x : Entry Timed Reply). x.act.act) f.0 in
      let next = step e is in
      first_made session moment after (rest e.reply) (one_act.Lobby lobby_act.SimNext) later text
      (next.0 (sym (ap is_played_move is) ∙ move) accepted gives) f.1
  turns_behind session moment after (Asks act rest) places done (x ∷ front) later e text (inr step) f move accepted
      gives =
      turns_behind session moment after (rest x.reply) (places_by places x.reply) (done ++ x ∷ []) front later e text
      (step x (ap (λ (y : Entry Timed Reply). y.act.act) f.0)).1 f.1 move accepted gives

  turns_fitting : (session moment : ℕ) (after : MemoryState) (course : Course) (front later : Log)
      (e : Entry Timed Reply) (text : List ℕ)
      → Fits course → Follows course session moment (front ++ e ∷ later) text after
      → is_played_move e.act.act ≡ true → is_accepted e.reply ≡ true → (places_after before.places front).giving ≡ true
      → first_act later ≡ Some (one_act.Lobby lobby_act.SimNext)
  turns_fitting session moment after course front later e text (inl h) f move accepted gives =
      turns_behind session moment after course before.places [] front later e text h f move accepted gives
  turns_fitting session moment after course front later e text (inr h) f move accepted gives =
      let stays = none_moves session moment after course front later e text h f in
      let bad : false ≡ true = sym stays ∙ move in cc

pub input_turns : (input : Input) (before after : MemoryState) (session moment : ℕ) (made : Log) (text : List ℕ)
    → Follows (input_course input before) session moment made text after → TurnsBehind before made
input_turns input before after session moment made text f front later e is move accepted gives =
    turns_fitting before session moment after (input_course input before) front later e text (fits_input before input)
    (subst (λ (l : Log). Follows (input_course input before) session moment l text after) is f) move accepted gives
