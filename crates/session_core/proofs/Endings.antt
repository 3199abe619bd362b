-- An input of a session that has entered ends with the round.
use Rattle.std.proofs.Common.{◌≡◌, ℕ, Bool, true, false, if◌then◌else◌, List, [], ◌∷◌, ◌++◌, map, refl, sym, ap, subst, ◌∙◌, inl, inr}
use Rattle.std.specs.Prelude.{All, ◌||◌}
use Rattle.std.specs.List.{flat_map}
use Rattle.std.specs.declared.option.Option.{Option}
use Rattle.std.specs.declared.option.Option.TheVariants.{None, Some}
use Rattle.std.proofs.lemmas.Bool.{or_parts}
use Rattle.std.proofs.lemmas.List.{append-nil, append_assoc}
use Rattle.std.proofs.lemmas.List.Elements.{All-cons, All-nil}
use Rattle.command_words.specs.Commands.{command_in}
use Rattle.fics_words.specs.declared.refusal.Refusal.{Refusal}
use Rattle.fics_words.specs.declared.refusal.Refusal.TheVariants as refusal
use Rattle.histories.specs.declared.entry.Entry.{Entry}
use Rattle.line_reader.specs.declared.incoming.Incoming.{Incoming}
use Rattle.line_reader.specs.declared.incoming.Incoming.TheVariants as incoming
use Rattle.linked_desk.specs.declared.acts.DeskAct.TheVariants as desk_act
use Rattle.lobby_state.specs.Places.{PlaceList}
use Rattle.one_server.specs.declared.act.Timed.{Timed}
use Rattle.one_server.specs.declared.reply.Reply.{Reply}
use Rattle.one_server.specs.Running.{Log}
use Rattle.session_core.specs.declared.input.Input.{Input}
use Rattle.session_core.specs.declared.input.Input.TheVariants.{Line, Quiet}
use Rattle.session_asks.specs.declared.standing.LinkMark.TheVariants.{Stamped}
use Rattle.session_asks.specs.declared.standing.Standing.{Standing}
use Rattle.session_asks.specs.declared.standing.Standing.TheVariants as standing
use Rattle.session_asks.specs.declared.visit.Visit.{Visit}
use Rattle.session_core.specs.Course.{Course, Done, Asks, Writes, Follows}
use Rattle.session_core.specs.Inputs.{asks_to_quit, input_course, is_ack, is_greeting, line_course, line_quits, past_line, quiet_course, refusing, stamp_on, text_course, text_quits}
use Rattle.session_core.specs.Laws.{EndsWithRound, IsTelling, Telling, entries_of, is_silent}
use Rattle.session_core.specs.Memory.{MemoryState, has_entered, is_gone, standing_in, memory_told}
use Rattle.session_core.specs.Session.{at_game, behind_visit, clear_at, given_up, round, says_over, visits}
use Rattle.session_core.specs.Visits.{visits_in}
use Rattle.session_core.proofs.Rounds.{Same, Seen, ToRound, at_round, by_asked, written}

-- the news of games, as entries tell them
pub record Told (games : List Visit) (made : Log) : Type 0 where
  pub news : List Telling
  pub whole : made ≡ flat_map entries_of news
  pub each : All IsTelling news
  pub games_told : map (λ telling. telling.game) news ≡ games

module _ (session moment : ℕ) (after : MemoryState) where
  told_on : (visit : Visit) (rest : List Visit) (memory : MemoryState) (e : Entry Timed Reply)
      → e.act.act ≡ at_game visit desk_act.Fetch
      → ((made : Log) (text : List ℕ) → Follows (visits rest memory) session moment made text after → Told rest made)
      → (over : Bool) → says_over e.reply ≡ over → (made : Log) (text : List ℕ)
      → Follows (given_up visit over (visits rest memory)) session moment made text after
      → Told (visit ∷ rest) (e ∷ made)
  told_on visit rest memory e is later true over [] text f = absurd f
  told_on visit rest memory e is later true over (c ∷ made) text f =
      let others = later made text f.1 in
      let telling : Telling = record { game = visit; fetch = e; clear = Some c } in
      record {
        news = telling ∷ others.news;
        whole = ap (λ (l : Log). e ∷ c ∷ l) others.whole;
        each = All-cons IsTelling telling others.news (record {
          fetches = is;
          clears =
              ap (λ (x : Entry Timed Reply). x.act.act ∷ []) f.0
              ∙ ap (λ (b : Bool). if b then clear_at visit ∷ [] else []) (sym over);
        }) others.each;
        games_told = ap (λ (l : List Visit). visit ∷ l) others.games_told;
      }
  told_on visit rest memory e is later false over made text f =
      let others = later made text f in
      let telling : Telling = record { game = visit; fetch = e; clear = None } in
      record {
        news = telling ∷ others.news;
        whole = ap (λ (l : Log). e ∷ l) others.whole;
        each = All-cons IsTelling telling others.news (record {
          fetches = is;
          clears = ap (λ (b : Bool). if b then clear_at visit ∷ [] else []) (sym over);
        }) others.each;
        games_told = ap (λ (l : List Visit). visit ∷ l) others.games_told;
      }

  told_visits : (games : List Visit) (memory : MemoryState) (made : Log) (text : List ℕ)
      → Follows (visits games memory) session moment made text after → Told games made
  told_visits [] memory made text f = record { news = []; whole = f.0; each = All-nil IsTelling; games_told = refl }
  told_visits (visit ∷ rest) memory [] text f = absurd f
  told_visits (visit ∷ rest) memory (e ∷ made) text f =
      told_on visit rest (behind_visit visit (says_over e.reply) memory) e
      (ap (λ (x : Entry Timed Reply). x.act.act) f.0)
      (told_visits rest (behind_visit visit (says_over e.reply) memory)) (says_over e.reply) refl made f.1.0 f.1.2

  -- entries of a course up to its round, and those of the round
  record Ended (before : MemoryState) (front made : Log) : Type 0 where
    more : Log
    memory : MemoryState
    tail : Log
    text : List ℕ
    whole : made ≡ more ++ tail
    seen : Seen before memory (front ++ more)
    follows : Follows (round memory) session moment tail text after

  ended : (before : MemoryState) (course : Course) (places : PlaceList) (front made : Log) (text : List ℕ)
      → ToRound before places front course
      → Follows course session moment made text after → Ended before front made
  unfolding ToRound
  ended before (Done memory) places front made text h f = absurd h
  ended before (Writes put rest) places front made text h f = ended before rest places front made f.0 h f.2
  ended before (Asks act rest) places front made text (inl h) f = record {
    more = [];
    memory = h.0;
    tail = made;
    text = text;
    whole = refl;
    seen = subst (Seen before h.0) (sym (append-nil front)) h.2;
    follows = subst (λ (c : Course). Follows c session moment made text after) h.1 f;
  }
  ended before (Asks act rest) places front [] text (inr step) f = absurd f
  ended before (Asks act rest) places front (e ∷ made) text (inr step) f =
      let next = step e (ap (λ (x : Entry Timed Reply). x.act.act) f.0) in
      let later = ended before (rest e.reply) _ (front ++ e ∷ []) made text next.1 f.1 in
      record {
        more = e ∷ later.more;
        memory = later.memory;
        tail = later.tail;
        text = later.text;
        whole = ap (λ (l : Log). e ∷ l) later.whole;
        seen = subst (Seen before later.memory) (append_assoc front (e ∷ []) later.more) later.seen;
        follows = later.follows;
      }

  round_told : (before memory : MemoryState) (front tail made : Log) (text : List ℕ) → made ≡ front ++ tail
      → Seen before memory front
      → Follows (round memory) session moment tail text after → EndsWithRound before made
  round_told before memory front [] made text is seen f = absurd f
  round_told before memory front (asked ∷ tail) made text is seen f =
      let news =
      told_visits (visits_in (memory_told memory asked.reply)) (memory_told memory asked.reply) tail f.1.0 f.1.2 in
      record {
        front = front;
        asked = asked;
        news = news.news;
        looked = memory.observed.rows;
        whole = is ∙ ap (λ (l : Log). front ++ asked ∷ l) news.whole;
        asks = ap (λ (x : Entry Timed Reply). x.act.act) f.0;
        each = news.each;
        games = λ lines places waiting. news.games_told ∙ ap (λ (r : Reply). visits_in (memory_told memory r)) waiting;
        still = seen.still;
        only = seen.only;
      }

  pub ends : (before : MemoryState) (course : Course) (made : Log) (text : List ℕ)
      → ToRound before before.places [] course
      → Follows course session moment made text after → EndsWithRound before made
  ends before course made text h f =
      let e = ended before course before.places [] made text h f in
      round_told before e.memory e.more e.tail made e.text e.whole e.seen e.follows

-- the inputs that end so
text_to_round : (text : List ℕ) (stamp : Option ℕ) (at : Standing) (before memory : MemoryState)
    → memory.places ≡ before.places → Same before memory
    → standing_in at ≡ true → text_quits text at memory.aliases ≡ false
    → ToRound before before.places [] (text_course text stamp at memory)
text_to_round text stamp standing.Login before memory known s here goes_on = let bad : false ≡ true = here in cc
text_to_round text stamp (standing.Password name) before memory known s here goes_on =
    let bad : false ≡ true = here in cc
text_to_round text stamp (standing.In name) before memory known s here goes_on =
    by_asked before (command_in memory.aliases text) stamp memory before.places [] known s goes_on
text_to_round text stamp standing.Gone before memory known s here goes_on = let bad : false ≡ true = here in cc

refusing_to_round : (cause : Refusal) (at : Standing) (before memory : MemoryState) → Same before memory
    → standing_in at ≡ true
    → ToRound before before.places [] (refusing cause at memory)
refusing_to_round cause standing.Login before memory s here = let bad : false ≡ true = here in cc
refusing_to_round cause (standing.Password name) before memory s here = let bad : false ≡ true = here in cc
refusing_to_round cause (standing.In name) before memory s here = written before _ memory before.places [] s
refusing_to_round cause standing.Gone before memory s here = let bad : false ≡ true = here in cc

line_to_round : (line : Incoming) (before memory : MemoryState) → memory.places ≡ before.places → Same before memory
    → standing_in memory.standing ≡ true → is_ack line ≡ false
    → line_quits line memory ≡ false → ToRound before before.places [] (line_course line memory)
line_to_round (incoming.Plain text) before memory known s here loud goes_on =
    text_to_round text None memory.standing before memory known s here goes_on
line_to_round (incoming.Stamped text stamp) before memory known s here loud goes_on =
    text_to_round text (stamp_on memory.link stamp) memory.standing before memory known s here goes_on
line_to_round (incoming.Ack stamp) before memory known s here loud goes_on = let bad : true ≡ false = loud in cc
line_to_round incoming.TooLong before memory known s here loud goes_on =
    refusing_to_round refusal.TooLong memory.standing before memory s here
line_to_round incoming.BadByte before memory known s here loud goes_on =
    refusing_to_round refusal.BadByte memory.standing before memory s here

-- the first line of a link marks it, which changes nothing here
pub quits_past : (line : Incoming) (memory : MemoryState) → line_quits line (past_line memory) ≡ line_quits line memory
quits_past (incoming.Plain text) memory = refl
quits_past (incoming.Stamped text stamp) memory = refl
quits_past (incoming.Ack stamp) memory = refl
quits_past incoming.TooLong memory = refl
quits_past incoming.BadByte memory = refl

quiet_to_round : (at : Standing) (before : MemoryState) → standing_in at ≡ true
    → ToRound before before.places [] (quiet_course at before)
quiet_to_round standing.Login before here = let bad : false ≡ true = here in cc
quiet_to_round (standing.Password name) before here = let bad : false ≡ true = here in cc
quiet_to_round (standing.In name) before here =
    at_round before before before.places [] (record { stands = refl; looks = refl })
quiet_to_round standing.Gone before here = let bad : false ≡ true = here in cc

pub input_to_round : (input : Input) (before : MemoryState) → has_entered before ≡ true → is_silent input before ≡ false
    → asks_to_quit input before ≡ false
    → ToRound before before.places [] (input_course input before)
input_to_round Quiet before here loud goes_on = quiet_to_round before.standing before here
input_to_round (Line line) before here loud goes_on =
    let parts = or_parts (is_greeting before.link line) (is_ack line || is_gone before) loud in
    let no_ack = (or_parts (is_ack line) (is_gone before) parts.1).0 in
    let quits : line_quits line before ≡ false =
    sym (ap (λ (b : Bool). if b then false else line_quits line before) parts.0) ∙ goes_on in
    let past = past_line before in
    let course : input_course (Line line) before ≡ line_course line past =
    ap (λ (b : Bool). if b then Done (record before { link = Stamped }) else line_course line past) parts.0 in
    subst (ToRound before before.places []) (sym course)
    (line_to_round line before past refl (record {
      stands = refl;
      looks = refl;
    }) here no_ack (quits_past line before ∙ quits))

pub input_ends : (input : Input) (before after : MemoryState) (session moment : ℕ) (made : Log) (text : List ℕ)
    → Follows (input_course input before) session moment made text after
    → has_entered before ≡ true → is_silent input before ≡ false → asks_to_quit input before ≡ false
    → EndsWithRound before made
input_ends input before after session moment made text f here loud goes_on =
    ends session moment after before (input_course input before) made text
    (input_to_round input before here loud goes_on) f
