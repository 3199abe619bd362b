-- What a line makes of an evening: the answer of the seat line, the answers of sessions, and lines outside the grammar.
use Rattle.std.proofs.Common.{◌≡◌, ◌≢◌, ℕ, ◌-◌, ◌<◌, Bool, true, IfOk, Result, List, [], ◌∷◌, ◌++◌, length, Option, None, Some, Ok, Err, append-nil, refl, sym, ap, subst, ◌∙◌, arith, replicate, slice_get, slice_set}
use Rattle.std.proofs.lemmas.Option.{same_Some}
use Rattle.memory.specs.declared.NoMemory.{NoMemory}
use Rattle.fics_words.specs.Line.{IsLine}
use Rattle.histories.specs.History.{Legal}
use Rattle.histories.proofs.Histories.{legal_back}
use Rattle.cmd_lines.specs.Handling.{AfterAnswering, IsOutsideAt, TakesLine}
use Rattle.cmd_lines.specs.Lines.{is_written}
use Rattle.one_server.specs.declared.part.Part.{Part}
use Rattle.one_server.specs.House.{house}
use Rattle.one_server.specs.Running.{Log}
use Rattle.one_server.specs.Server.{ServerState, parts_in}
use Rattle.replay_core.specs.declared.order.Attendance.{Attendance}
use Rattle.replay_core.specs.declared.script.ScriptLine.{ScriptLine}
use Rattle.replay_core.specs.declared.seat_line.SeatLine.{SeatLine}
use Rattle.replay_core.specs.Order.{Arrival, LineMayCome, left_of}
use Rattle.replay_core.specs.Attendance.{IsAfter}
use Rattle.replay_core.specs.SeatLine.{IsSeatLine, players_wanted, seat_text}
use Rattle.session_core.specs.Memory.{MemoryState, newcomer}
use Rattle.cmd_replay.specs.Evening.{EveningState, EventDoes, HasDone, HasMade, AfterLeaving, AreMemories, IsClosed, IsNextLine, IsNoNext, IsOrdered, KeepsOrder, LeaveInOrder, RowMayFollow, Reached, Row, Seats, Comes, arrivals_of, history_of, final_moment, sessions_left, line_of, opening_parts, parts_after, quit_of, remembered, seated_by, seated_from, seating_acts}
use Rattle.cmd_replay.specs.EveningLinesProof.{no_snoc, none_has, one_line_more}
use Rattle.cmd_replay.specs.EveningsProof.{came-append, seated-push}
use Rattle.cmd_replay.proofs.Memories.{one_memory, seated_memories, new_memories}

-- before its first line
pub reached_none : (evening : EveningState) → evening.server ≡ record { opening = opening_parts; log = [] }
    → evening.order ≡ None → evening.moment ≡ 0
    → evening.memories ≡ replicate 64 newcomer → Reached [] evening []
reached_none evening server order moment memories = record {
  rows = [];
  follow = tt;
  spelled = refl;
  text = refl;
  server = server;
  ordered = subst (λ (o : Option Attendance). IsOrdered o []) (sym order) refl;
  last = moment;
  memories = new_memories evening.memories memories;
}

pub written_line : (line : List ℕ) → 0 < length line → is_written line ≡ true
written_line [] some = absurd (omega arith)
written_line (byte ∷ line) some = refl

-- ---- lines outside the grammar

row_line : (before : List Row) (row : Row) → RowMayFollow before row → IsLine (line_of row)
row_line before (Seats seat made) h = h.short
row_line before (Comes line made bytes memory) h = h.short

-- bytes that are no line
pub no_line : (old : EveningState) (line : List ℕ) → 0 < length line → (IsLine line → ⊥) → IsOutsideAt Reached old line
no_line old line some not_line lines due at =
    none_has lines old due at line (written_line line some)
    (λ row e follows. not_line (subst IsLine (sym e) (row_line at.rows row follows)))

-- before the first line there is no row
pub no_rows : (order : Option Attendance) (rows : List Row) → IsOrdered order rows → order ≡ None → rows ≡ []
no_rows None rows h e = h
no_rows (Some progress) rows h e = absurd cc

-- and where there is no row no line came
none_kept : (order : Option Attendance) (rows : List Row) → IsOrdered order rows → rows ≡ [] → order ≡ None
none_kept None rows h e = refl
none_kept (Some progress) rows h e = absurd (h.0 e)

-- what is kept of the order, where lines came, and before the first
pub keeps_some : (progress : Attendance) (order : Option Attendance) → order ≡ Some progress → KeepsOrder progress order
keeps_some progress order e rows h = (subst (λ (o : Option Attendance). IsOrdered o rows) e h).1

-- behind the first line no seat line comes, and neither does a line of a session that may not come
no_next_row : (progress : Attendance) (rows : List Row) (line : List ℕ)
    → IsAfter progress (seated_by rows) (arrivals_of rows) → IsNoNext progress line
    → (rows ≡ [] → (seat : SeatLine) → IsSeatLine seat → line ≢ seat_text seat)
    → (row : Row) → line ≡ line_of row → RowMayFollow rows row → ⊥
no_next_row progress rows line after no_next no_seat (Seats seat made) e h = no_seat h.first seat h.spelled e
no_next_row progress rows line after no_next no_seat (Comes next made bytes memory) e h =
    no_next (seated_by rows) (arrivals_of rows) after next h.spelled e h.order

-- a line that is none of a session that may come next, and no seat line that comes first
pub no_coming : (old : EveningState) (progress : Attendance) (line : List ℕ) → KeepsOrder progress old.order
    → 0 < length line → IsNoNext progress line
    → (old.order ≡ None → (seat : SeatLine) → IsSeatLine seat → line ≢ seat_text seat) → IsOutsideAt Reached old line
no_coming old progress line keeps some no_next no_seat lines due at =
    none_has lines old due at line (written_line line some)
    (no_next_row progress at.rows line (keeps at.rows at.ordered) no_next
    (λ none. no_seat (none_kept old.order at.rows at.ordered none)))

-- the parts of the server where the evening stands
parts_at : (lines : List (List ℕ)) (old : EveningState) (due : List ℕ) (at : Reached lines old due)
    → parts_in old.server ≡ parts_after at.rows
parts_at lines old due at = ap parts_in at.server

-- ---- one row more

-- the server after some entries more
server_more : (lines : List (List ℕ)) (old : EveningState) (due : List ℕ) (at : Reached lines old due) (entries : Log)
    (new : ServerState)
    → new.opening ≡ old.server.opening → new.log ≡ old.server.log ++ entries
    → new ≡ record { opening = opening_parts; log = history_of at.rows ++ entries }
server_more lines old due at entries new opening log =
    ap (λ (o : List Part). record new { opening = o }) (opening ∙ ap (λ (s : ServerState). s.opening) at.server)
    ∙ ap (λ (l : Log). record { opening = opening_parts; log = l })
    (log ∙ ap (λ (s : ServerState). s.log ++ entries) at.server)

-- such entries are legal where the rows have brought the server
legal_more : (rows : List Row) (entries : Log) (new : ServerState)
    → new ≡ record { opening = opening_parts; log = history_of rows ++ entries }
    → Legal house new.opening new.log → Legal house (parts_after rows) entries
legal_more rows entries new e legal =
    legal_back house opening_parts (history_of rows) entries
    (subst (λ (s : ServerState). Legal house s.opening s.log) e legal)

-- the seat line is taken
pub seats_taken : (old new : EveningState) (seat : SeatLine) (progress : Attendance) → old.order ≡ None
    → 0 < length (seat_text seat) → IsLine (seat_text seat)
    → IsSeatLine seat
    → new.server.opening ≡ old.server.opening
    → HasMade (seating_acts seat.names seat.terms) old.server.log new.server.log
    → Legal house new.server.opening new.server.log
    → new.order ≡ Some progress → IsAfter progress (players_wanted seat.terms.variant) [] → new.moment ≡ old.moment
    → new.memories ≡ seated_from 0 seat.names old.memories → TakesLine Reached old (seat_text seat) new []
seats_taken old new seat progress first some short spelled opening made legal order after moment memories lines due at =
    let entries = made.entries in
    let row : Row = Seats seat entries in
    let none : at.rows ≡ [] = no_rows old.order at.rows at.ordered first in
    let server : new.server ≡ record { opening = opening_parts; log = history_of at.rows ++ entries } =
    server_more lines old due at entries new.server opening made.more in
    let own : Legal house opening_parts entries =
    subst (λ (rows : List Row). Legal house (parts_after rows) entries) none
    (legal_more at.rows entries new.server server legal) in
    let last : old.moment ≡ 0 = at.last ∙ ap (λ (rows : List Row). final_moment (arrivals_of rows)) none in
    let new_ones : AreMemories old.memories (λ session. newcomer) =
    subst (λ (rows : List Row). AreMemories old.memories (remembered rows)) none at.memories in
    one_line_more lines old new due at (seat_text seat) row (written_line (seat_text seat) some) refl
    (record { first = none; spelled = spelled; short = short; acts = made.acts_are; legal = own })
    server
    (subst (λ (o : Option Attendance). IsOrdered o (at.rows ++ row ∷ [])) (sym order) (
      no_snoc at.rows row,
      subst (λ (rows : List Row). IsAfter progress (seated_by (rows ++ row ∷ [])) (arrivals_of (rows ++ row ∷ [])))
          (sym none) after,
    ))
    (moment ∙ last ∙ subst (λ (rows : List Row). 0 ≡ final_moment (arrivals_of (rows ++ row ∷ []))) (sym none) refl)
    (subst (λ (m : List MemoryState). AreMemories m (remembered (at.rows ++ row ∷ []))) (sym memories)
    (subst (λ (rows : List Row). AreMemories (seated_from 0 seat.names old.memories) (remembered (rows ++ row ∷ [])))
    (sym none)
    (seated_memories old.memories seat entries new_ones)))

-- and is then answered
pub seats_answered : (old new : EveningState) (line out : List ℕ) (seat : SeatLine) → line ≡ seat_text seat
    → TakesLine Reached old (seat_text seat) new [] → AfterAnswering Reached old line out new out true
seats_answered old new line out seat text takes =
    ([], sym (append-nil out), subst (λ (l : List ℕ). TakesLine Reached old l new []) (sym text) takes)

last-push : (lines : List Arrival) (came : Arrival) → final_moment (lines ++ came ∷ []) ≡ came.line.moment
last-push [] came = refl
last-push (first ∷ []) came = refl
last-push (first ∷ next ∷ lines) came = last-push (next ∷ lines) came

-- the line of a session is taken
pub coming_taken : (old new : EveningState) (line : List ℕ) (next : ScriptLine) (progress then : Attendance)
    (before kept : MemoryState) (out out' : List ℕ) (quit : Bool)
    → KeepsOrder progress old.order → 0 < length line → IsLine line → IsNextLine progress line next
    → slice_get old.memories (next.session - 1) ≡ Some before
    → new.memories ≡ slice_set old.memories (next.session - 1) kept
    → HasDone next.event next.session next.moment old.server before out new.server kept out'
    → quit ≡ quit_of next.event kept → Legal house new.server.opening new.server.log
    → new.order ≡ Some then
    → ((seated : ℕ) (lines : List Arrival) → IsAfter progress seated lines → LineMayCome seated lines next → IsAfter
    then seated (lines ++ record { line = next; quit = quit } ∷ []))
    → new.moment ≡ next.moment → AfterAnswering Reached old line out new out' true
coming_taken old new line next progress
    then before kept out out' quit keeps some short is_next took put done quits legal order' after moment = (
      _,
      done.put,
      λ lines due at.
          let entries = done.entries in
          let row : Row = Comes next entries done.bytes kept in
          let knew : before ≡ remembered at.rows next.session =
          same_Some before (remembered at.rows next.session)
          (sym took ∙ at.memories.each next.session is_next.spelled.first is_next.spelled.last) in
          let ordered = keeps at.rows at.ordered in
          let may = is_next.order (seated_by at.rows) (arrivals_of at.rows) ordered in
          let server : new.server ≡ record { opening = opening_parts; log = history_of at.rows ++ entries } =
          server_more lines old due at entries new.server (ap (λ (s : ServerState). s.opening) done.more)
          (ap (λ (s : ServerState). s.log) done.more) in
          let came : Arrival = record { line = next; quit = quit_of next.event kept } in
          let rows_came : arrivals_of (at.rows ++ row ∷ []) ≡ arrivals_of at.rows ++ came ∷ [] =
          came-append at.rows (row ∷ []) in
          let then_after : IsAfter then (seated_by at.rows) (arrivals_of at.rows ++ came ∷ []) =
          subst
          (λ (q : Bool).
          IsAfter then (seated_by at.rows) (arrivals_of at.rows ++ record { line = next; quit = q } ∷ []))
          quits (after (seated_by at.rows) (arrivals_of at.rows) ordered may) in
          one_line_more lines old new due at line row (written_line line some) is_next.text
          (record {
            spelled = is_next.spelled;
            short = subst IsLine is_next.text short;
            order = may;
            does =
                subst (λ (m : MemoryState). EventDoes next.event m next.session next.moment entries done.bytes kept)
                knew
                done.does;
            legal = legal_more at.rows entries new.server server legal;
          })
          server
          (subst (λ (o : Option Attendance). IsOrdered o (at.rows ++ row ∷ [])) (sym order') (
            no_snoc at.rows row,
            subst (λ (n : ℕ). IsAfter then n (arrivals_of (at.rows ++ row ∷ [])))
                (sym (seated-push at.rows next entries done.bytes kept))
                (subst (IsAfter then (seated_by at.rows)) (sym rows_came) then_after),
          ))
          (moment ∙ sym (ap final_moment rows_came ∙ last-push (arrivals_of at.rows) came))
          (subst (λ (m : List MemoryState). AreMemories m (remembered (at.rows ++ row ∷ []))) (sym put)
          (one_memory old.memories at.rows next entries done.bytes kept is_next.spelled.first at.memories)),
    )

-- ---- the end

-- those that were here have left
pub closed_after : (old new : EveningState) (progress : Attendance) → old.order ≡ Some progress
    → AfterLeaving progress old.memories old.moment 64 old.server new.server
    → Legal house new.server.opening new.server.log → IsClosed old new
closed_after old new progress order leaving legal lines due at =
    let ordered = keeps_some progress old.order order at.rows at.ordered in
    let left = leaving (seated_by at.rows) (arrivals_of at.rows) (remembered at.rows) ordered at.memories in
    let server : new.server ≡ record { opening = opening_parts; log = history_of at.rows ++ left.0 } =
    server_more lines old due at left.0 new.server (ap (λ (s : ServerState). s.opening) left.1)
    (ap (λ (s : ServerState). s.log) left.1) in
    record {
      entries = left.0;
      leave =
          subst (λ (moment : ℕ). LeaveInOrder (remembered at.rows) moment (sessions_left at.rows) left.0) at.last
          left.2;
      more = left.1;
      legal =
          subst (λ (parts : List Part). Legal house parts left.0) (sym (parts_at lines old due at))
          (legal_more at.rows left.0 new.server server legal);
    }

-- before the first line nobody is there
nobody_left : left_of 0 [] ≡ []
nobody_left = refl

-- and nobody leaves
pub closed_before : (old new : EveningState) → old.order ≡ None → new.server ≡ old.server → IsClosed old new
closed_before old new first server lines due at =
    let none : [] ≡ at.rows = sym (no_rows old.order at.rows at.ordered first) in
    let nobody : LeaveInOrder (remembered []) (final_moment (arrivals_of [])) (sessions_left []) [] =
    subst (λ (sessions : List ℕ). LeaveInOrder (remembered []) 0 sessions []) (sym nobody_left) refl in
    record {
      entries = [];
      leave =
          subst
          (λ (rows : List Row).
          LeaveInOrder (remembered rows) (final_moment (arrivals_of rows)) (sessions_left rows) [])
          none
          nobody;
      more = server ∙ ap (λ (l : Log). record old.server { log = l }) (sym (append-nil old.server.log));
      legal = tt;
    }

-- what was shown of an equal line
pub same_answer : (result : Result Bool NoMemory) (old new : EveningState) (line line' out out' : List ℕ) → line ≡ line'
    → IfOk result (λ good. AfterAnswering Reached old line out new out' good)
    → IfOk result (λ good. AfterAnswering Reached old line' out new out' good)
same_answer result old new line line' out out' same h =
    subst (λ (l : List ℕ). IfOk result (λ good. AfterAnswering Reached old l out new out' good)) same h

-- and of an evening that began in whatever way
pub whatever_start : (P : Bool → Type 0) (result : Result Bool NoMemory) → IfOk result P
    → IfOk result (λ good. (start : EveningState) → P good)
whatever_start P (Ok good) h = λ start. h
whatever_start P (Err want) h = tt
