-- Evenings: one row more, prefixes, legal histories, and that the lines fix the rows.
use Rattle.std.proofs.Common.{◌≡◌, ◌↔◌, ℕ, List, [], ◌∷◌, ◌++◌, map, append_assoc, append-nil, refl, sym, ap, subst, ◌∙◌}
use Rattle.std.proofs.lemmas.List.Sums.{fold-append}
use Rattle.histories.specs.History.{state, Legal}
use Rattle.histories.proofs.Histories.{state-append, legal-append}
use Rattle.one_server.specs.declared.part.Part.{Part}
use Rattle.one_server.specs.House.{house}
use Rattle.one_server.specs.Running.{Log}
use Rattle.replay_core.specs.declared.script.ScriptLine.{ScriptLine}
use Rattle.replay_core.specs.declared.seat_line.SeatLine.{SeatLine}
use Rattle.replay_core.specs.Order.{Arrival}
use Rattle.replay_core.proofs.Events.{one_line}
use Rattle.replay_core.proofs.Seats.{one_seat_line, seat_apart}
use Rattle.session_core.specs.Memory.{MemoryState, newcomer}
use Rattle.cmd_replay.specs.Evening.{Row, Seats, Comes, EventDoes, line_of, entries_of, text_of_row, history_of, transcript_of, arrivals_of, opening_parts, parts_after, quit_of, remembered, remembered_after, seated_by, seating_acts, IsSeating, IsComing, RowMayFollow, FollowInOrder, IsEvening, asked_of}
use Rattle.cmd_replay.specs.FollowingProof.{one_doing, one_asking}

-- ---- rows one after another

pub history-append : (rows more : List Row) → history_of (rows ++ more) ≡ history_of rows ++ history_of more
history-append [] more = refl
history-append (row ∷ rows) more =
    ap (λ (h : Log). entries_of row ++ h) (history-append rows more)
    ∙ sym (append_assoc (entries_of row) (history_of rows) (history_of more))

pub transcript-append : (rows more : List Row) → transcript_of (rows ++ more) ≡ transcript_of rows ++ transcript_of more
transcript-append [] more = refl
transcript-append (row ∷ rows) more =
    ap (λ (t : List ℕ). text_of_row row ++ t) (transcript-append rows more)
    ∙ sym (append_assoc (text_of_row row) (transcript_of rows) (transcript_of more))

pub came-append : (rows more : List Row) → arrivals_of (rows ++ more) ≡ arrivals_of rows ++ arrivals_of more
came-append [] more = refl
came-append (Seats seat made ∷ rows) more = came-append rows more
came-append (Comes line made bytes memory ∷ rows) more =
    ap (λ (c : List Arrival). record { line = line; quit = quit_of line.event memory } ∷ c) (came-append rows more)

pub lines-append : (rows more : List Row) → map line_of (rows ++ more) ≡ map line_of rows ++ map line_of more
lines-append [] more = refl
lines-append (row ∷ rows) more = ap (λ (l : List (List ℕ)). line_of row ∷ l) (lines-append rows more)

-- one row more
pub history-push : (rows : List Row) (row : Row) → history_of (rows ++ row ∷ []) ≡ history_of rows ++ entries_of row
history-push rows row =
    history-append rows (row ∷ []) ∙ ap (λ (h : Log). history_of rows ++ h) (append-nil (entries_of row))

pub transcript-push : (rows : List Row) (row : Row)
    → transcript_of (rows ++ row ∷ []) ≡ transcript_of rows ++ text_of_row row
transcript-push rows row =
    transcript-append rows (row ∷ []) ∙ ap (λ (t : List ℕ). transcript_of rows ++ t) (append-nil (text_of_row row))

-- a session's line seats nobody
pub seated-push : (rows : List Row) (line : ScriptLine) (made : Log) (bytes : List ℕ) (memory : MemoryState)
    → seated_by (rows ++ Comes line made bytes memory ∷ []) ≡ seated_by rows
seated-push [] line made bytes memory = refl
seated-push (Seats seat before ∷ rows) line made bytes memory = refl
seated-push (Comes first before text kept ∷ rows) line made bytes memory = refl

-- what a session remembers
pub remembered-push : (rows : List Row) (row : Row) (session : ℕ)
    → remembered (rows ++ row ∷ []) session ≡ remembered_after session (remembered rows session) row
remembered-push rows row session = fold-append (remembered_after session) newcomer rows (row ∷ [])

-- the state after the entries of more rows
pub parts-append : (rows more : List Row)
    → parts_after (rows ++ more) ≡ state house (parts_after rows) (history_of more)
parts-append rows more =
    ap (state house opening_parts) (history-append rows more)
    ∙ state-append house opening_parts (history_of rows) (history_of more)

-- ---- one row more at the end

pub follow_step : (before later : List Row) (row : Row)
    → FollowInOrder before (later ++ row ∷ []) ↔ (FollowInOrder before later × RowMayFollow (before ++ later) row)
follow_step before [] row =
    let none : before ++ [] ≡ before = append-nil before in (
      λ h. (tt, subst (λ (rows : List Row). RowMayFollow rows row) (sym none) h.0),
      λ h. (subst (λ (rows : List Row). RowMayFollow rows row) none h.1, tt),
    )
follow_step before (first ∷ later) row =
    let step = follow_step (before ++ first ∷ []) later row in
    let same : before ++ first ∷ [] ++ later ≡ before ++ (first ∷ later) = append_assoc before (first ∷ []) later in (
      λ h. let rest = step.0 h.1 in ((h.0, rest.0), subst (λ (rows : List Row). RowMayFollow rows row) same rest.1),
      λ h. (h.0.0, step.1 (h.0.1, subst (λ (rows : List Row). RowMayFollow rows row) (sym same) h.1)),
    )

-- an evening grows by a row that may follow, and by no other
pub evening_step : (rows : List Row) (row : Row)
    → IsEvening (rows ++ row ∷ []) ↔ (IsEvening rows × RowMayFollow rows row)
evening_step rows row = follow_step [] rows row

-- ---- the history is legal

-- what a row made is legal in the state before it
pub row_legal : (before : List Row) (row : Row) → RowMayFollow before row
    → Legal house (parts_after before) (entries_of row)
row_legal before (Seats seat made) h =
    subst (λ (rows : List Row). Legal house (parts_after rows) made) (sym h.first) h.legal
row_legal before (Comes line made bytes memory) h = h.legal

rows_legal : (before later : List Row) → FollowInOrder before later
    → Legal house (parts_after before) (history_of later)
rows_legal before [] h = tt
rows_legal before (row ∷ later) h =
    let rest : Legal house (parts_after (before ++ row ∷ [])) (history_of later) =
    rows_legal (before ++ row ∷ []) later h.1 in
    let one : parts_after (before ++ row ∷ []) ≡ state house (parts_after before) (entries_of row) =
    parts-append before (row ∷ []) ∙ ap (state house (parts_after before)) (append-nil (entries_of row)) in
    legal-append house (parts_after before) (entries_of row) (history_of later) (row_legal before row h.0)
    (subst (λ (parts : List Part). Legal house parts (history_of later)) one rest)

-- the whole history of an evening is legal
pub evening_legal : (rows : List Row) → IsEvening rows → Legal house opening_parts (history_of rows)
evening_legal rows h = rows_legal [] rows h

-- ---- the lines fix the rows

same_seats : (before : List Row) (seat other : SeatLine) (made made' : Log) → IsSeating before seat made
    → IsSeating before other made' → line_of (Seats seat made) ≡ line_of (Seats other made')
    → Seats seat made ≡ Seats other made'
same_seats before seat other made made' h k e =
    let one : seat ≡ other = one_seat_line seat other h.spelled k.spelled e in
    let asked : map asked_of made ≡ map asked_of made' =
    h.acts ∙ ap (λ (s : SeatLine). seating_acts s.names s.terms) one ∙ sym k.acts in
    ap (λ (s : SeatLine). Seats s made) one
    ∙ ap (Seats other) (one_asking opening_parts made made' asked h.legal k.legal)

same_comes : (before : List Row) (line line' : ScriptLine) (made made' : Log) (bytes bytes' : List ℕ)
    (memory memory' : MemoryState)
    → IsComing before line made bytes memory → IsComing before line' made' bytes' memory'
    → line_of (Comes line made bytes memory) ≡ line_of (Comes line' made' bytes' memory')
    → Comes line made bytes memory ≡ Comes line' made' bytes' memory'
same_comes before line line' made made' bytes bytes' memory memory' h k e =
    let one : line ≡ line' = one_line line line' h.spelled k.spelled e in
    let other : EventDoes line.event (remembered before line.session) line.session line.moment made' bytes' memory' =
    subst (λ (l : ScriptLine). EventDoes l.event (remembered before l.session) l.session l.moment made' bytes' memory')
    (sym one) k.does in
    let same =
    one_doing line.event (remembered before line.session) line.session line.moment (parts_after before) made made' bytes
    bytes' memory memory' h.does other h.legal k.legal in
    ap (λ (l : ScriptLine). Comes l made bytes memory) one
    ∙ ap (λ (m : Log). Comes line' m bytes memory) same.0
    ∙ ap (λ (b : List ℕ). Comes line' made' b memory) same.1
    ∙ ap (Comes line' made' bytes') same.2

-- behind the same rows one line makes one row
pub one_row : (before : List Row) (row other : Row) → RowMayFollow before row → RowMayFollow before other
    → line_of row ≡ line_of other → row ≡ other
one_row before (Seats seat made) (Seats other made') h k e = same_seats before seat other made made' h k e
one_row before (Seats seat made) (Comes line made' bytes memory) h k e =
    absurd (seat_apart seat line h.spelled k.spelled e)
one_row before (Comes line made bytes memory) (Seats seat made') h k e =
    absurd (seat_apart seat line k.spelled h.spelled (sym e))
one_row before (Comes line made bytes memory) (Comes line' made' bytes' memory') h k e =
    same_comes before line line' made made' bytes bytes' memory memory' h k e

rows_once : (before rows other : List Row) → FollowInOrder before rows → FollowInOrder before other
    → map line_of rows ≡ map line_of other → rows ≡ other
rows_once before [] [] h k e = refl
rows_once before [] (r ∷ other) h k e = absurd cc
rows_once before (r ∷ rows) [] h k e = absurd cc
rows_once before (r ∷ rows) (s ∷ other) h k e =
    let first : line_of r ≡ line_of s = cc in
    let rest : map line_of rows ≡ map line_of other = cc in
    let same : r ≡ s = one_row before r s h.0 k.0 first in
    let later : FollowInOrder (before ++ r ∷ []) other =
    subst (λ (x : Row). FollowInOrder (before ++ x ∷ []) other) (sym same) k.1 in
    ap (λ (x : Row). x ∷ rows) same
    ∙ ap (λ (xs : List Row). s ∷ xs) (rows_once (before ++ r ∷ []) rows other h.1 later rest)

-- two evenings of the same lines have the same rows
pub one_evening : (rows other : List Row) → IsEvening rows → IsEvening other → map line_of rows ≡ map line_of other
    → rows ≡ other
one_evening rows other h k e = rows_once [] rows other h k e
