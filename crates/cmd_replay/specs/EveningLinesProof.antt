-- The lines that bring an evening to where it stands: one line more, prefixes, and lines that no evening has.
use Rattle.std.proofs.Common.{◌≡◌, ◌≢◌, ◌↔◌, ℕ, ◌+◌, ◌-◌, ◌≤◌, max, Bool, true, cond, List, [], ◌∷◌, ◌++◌, map, length, Option, None, Some, filter, append-nil, refl, sym, ap, subst, ◌∙◌, arith}
use Rattle.std.specs.List.{AllByRecursion, range_with_len}
use Rattle.std.proofs.lemmas.List.Elements.{All-from_recursion, recursion_from_All, filter-append}
use Rattle.std.proofs.lemmas.List.FromFn.{get_or-map-range_with_len, length-map-range_with_len}
use Rattle.std.proofs.lemmas.Option.{slice_get-get_or}
use Rattle.fics_words.specs.Line.{most_line_bytes}
use Rattle.replay_core.specs.declared.order.Attendance.{Attendance}
use Rattle.replay_core.specs.Order.{Arrival}
use Rattle.replay_core.specs.Attendance.{IsAfter, presence_of}
use Rattle.session_core.specs.Memory.{MemoryState, newcomer}
use Rattle.cmd_replay.specs.Evening.{Row, Seats, Comes, AreMemories, EveningState, IsOrdered, Reached, IsEvening, RowMayFollow, line_of, entries_of, text_of_row, history_of, transcript_of, arrivals_of, final_moment, opening_parts, remembered, seated_by}
use Rattle.cmd_lines.specs.Handling.{AreLinesOfRun, IsOutside}
use Rattle.cmd_lines.specs.Lines.{is_written}
use Rattle.cmd_replay.specs.EveningsProof.{evening_step, history-push, transcript-push, lines-append, one_evening}

-- ---- what is kept of the order of some lines

-- the last moment of lines whose moments don't fall; 0 before any
latest : List Arrival → ℕ
latest [] = 0
latest (came ∷ lines) = max came.line.moment (latest lines)

-- no moment is later than the latest one
latest_bounds : (lines : List Arrival) (moment : ℕ)
    → (latest lines ≤ moment) ↔ AllByRecursion (λ (came : Arrival). came.line.moment ≤ moment) lines
unfolding latest
latest_bounds [] moment = (λ h. tt, λ h. omega arith)
latest_bounds (came ∷ lines) moment =
    let rest = latest_bounds lines moment in (
      λ h. (omega arith, rest.0 (omega arith)),
      λ h. let bound = rest.1 h.1 in let first = h.0 in omega arith,
    )

-- what a progress keeps of these lines
progress_of : ℕ → List Arrival → Attendance
progress_of seats lines =
    record {
      moment = latest lines;
      presences = map (λ (place : ℕ). presence_of seats lines (place + 1)) (range_with_len 0 64);
    }

progress_after : (seats : ℕ) (lines : List Arrival) → IsAfter (progress_of seats lines) seats lines
unfolding progress_of
progress_after seats lines = record {
  moment = λ moment.
      let bounds = latest_bounds lines moment in (
        λ h. All-from_recursion (λ (came : Arrival). came.line.moment ≤ moment) lines (bounds.0 h),
        λ h. bounds.1 (recursion_from_All (λ (came : Arrival). came.line.moment ≤ moment) lines h),
      );
  presences = λ place d lt.
      get_or-map-range_with_len (λ (p : ℕ). presence_of seats lines (p + 1)) 0 64 place place d lt (omega arith);
}

order_of : List Row → Option Attendance
order_of [] = None
order_of (row ∷ rows) = Some (progress_of (seated_by (row ∷ rows)) (arrivals_of (row ∷ rows)))

order_kept : (rows : List Row) → IsOrdered (order_of rows) rows
unfolding order_of
order_kept [] = refl
order_kept (row ∷ rows) = (λ e. absurd cc, progress_after (seated_by (row ∷ rows)) (arrivals_of (row ∷ rows)))

-- what each session remembers
memories_of : (ℕ → MemoryState) → List MemoryState
memories_of remember = map remember (range_with_len 1 64)

memories_kept : (remember : ℕ → MemoryState) → AreMemories (memories_of remember) remember
unfolding memories_of
memories_kept remember =
    let count : length (map remember (range_with_len 1 64)) ≡ 64 = length-map-range_with_len remember 1 64 in
    record {
      count = count;
      each = λ session first last.
          slice_get-get_or (map remember (range_with_len 1 64)) (session - 1) newcomer
          (omega (arith, count, first, last))
          ∙ ap Some
          (get_or-map-range_with_len remember 1 64 (session - 1) session newcomer (omega (arith, first, last))
          (omega (arith, first, last)));
    }

-- the place that some rows bring an evening to
pub standing_of : List Row → EveningState
standing_of rows = record {
  server = record { opening = opening_parts; log = history_of rows };
  order = order_of rows;
  moment = final_moment (arrivals_of rows);
  memories = memories_of (remembered rows);
}

-- each evening stands somewhere
pub reached_by : (lines : List (List ℕ)) (rows : List Row) → IsEvening rows → filter is_written lines ≡ map line_of rows
    → Reached lines (standing_of rows) (transcript_of rows)
unfolding standing_of
reached_by lines rows follow spelled =
    record {
      rows = rows;
      follow = follow;
      spelled = spelled;
      text = refl;
      server = refl;
      ordered = order_kept rows;
      last = refl;
      memories = memories_kept (remembered rows);
    }

-- ---- the last of some rows

-- rows whose lines end with this one end with a row of it
record EndsWith (lines : List (List ℕ)) (line : List ℕ) (rows : List Row) : Type 0 where
  pub front : List Row
  pub last : Row
  pub parts : rows ≡ front ++ last ∷ []
  pub before : lines ≡ map line_of front
  pub spelled : line ≡ line_of last

pub no_snoc : {X : Type 0} (xs : List X) (x : X) → xs ++ x ∷ [] ≢ []
no_snoc [] x e = absurd cc
no_snoc (first ∷ xs) x e = absurd cc

ends_more : (first : List ℕ) (lines : List (List ℕ)) (line : List ℕ) (row : Row) (rows : List Row) → first ≡ line_of row
    → EndsWith lines line rows → EndsWith (first ∷ lines) line (row ∷ rows)
ends_more first lines line row rows head rest = record {
  front = row ∷ rest.front;
  last = rest.last;
  parts = ap (λ (l : List Row). row ∷ l) rest.parts;
  before = ap (λ (l : List ℕ). l ∷ lines) head ∙ ap (λ (l : List (List ℕ)). line_of row ∷ l) rest.before;
  spelled = rest.spelled;
}

ends_with : (lines : List (List ℕ)) (line : List ℕ) (rows : List Row) → lines ++ line ∷ [] ≡ map line_of rows
    → EndsWith lines line rows
ends_with lines line [] e = absurd (no_snoc lines line e)
ends_with [] line (row ∷ []) e = record { front = []; last = row; parts = refl; before = refl; spelled = cc }
ends_with [] line (row ∷ other ∷ rows) e = absurd cc
ends_with (first ∷ lines) line (row ∷ rows) e =
    let head : first ≡ line_of row = cc in
    let tail : lines ++ line ∷ [] ≡ map line_of rows = cc in
    ends_more first lines line row rows head (ends_with lines line rows tail)

-- ---- one line more

-- a line that isn't empty is one more of the written lines
written_push : (lines : List (List ℕ)) (line : List ℕ) → is_written line ≡ true
    → filter is_written (lines ++ line ∷ []) ≡ filter is_written lines ++ line ∷ []
written_push lines line e =
    filter-append is_written lines (line ∷ []) ∙ ap (λ (b : Bool). filter is_written lines ++ cond b (line ∷ []) []) e

-- and an empty line isn't
empty_push : (lines : List (List ℕ)) → filter is_written (lines ++ [] ∷ []) ≡ filter is_written lines
empty_push lines = filter-append is_written lines ([] ∷ []) ∙ append-nil (filter is_written lines)

-- a line whose row may follow takes the evening one row further
pub one_line_more : (lines : List (List ℕ)) (evening next : EveningState) (due : List ℕ)
    (at : Reached lines evening due) (line : List ℕ) (row : Row)
    → is_written line ≡ true → line ≡ line_of row → RowMayFollow at.rows row
    → next.server ≡ record { opening = opening_parts; log = history_of at.rows ++ entries_of row }
    → IsOrdered next.order (at.rows ++ row ∷ [])
    → next.moment ≡ final_moment (arrivals_of (at.rows ++ row ∷ []))
    → AreMemories next.memories (remembered (at.rows ++ row ∷ []))
    → Reached (lines ++ line ∷ []) next (due ++ text_of_row row)
one_line_more lines evening next due at line row written spelled follows server ordered last memories = record {
  rows = at.rows ++ row ∷ [];
  follow = (evening_step at.rows row).1 (at.follow, follows);
  spelled =
      written_push lines line written ∙ ap (λ (l : List (List ℕ)). l ++ line ∷ []) at.spelled
      ∙ ap (λ (l : List ℕ). map line_of at.rows ++ l ∷ []) spelled ∙ sym (lines-append at.rows (row ∷ []));
  text = ap (λ (t : List ℕ). t ++ text_of_row row) at.text ∙ sym (transcript-push at.rows row);
  server = server ∙ ap (λ (h : List _). record { opening = opening_parts; log = h }) (sym (history-push at.rows row));
  ordered = ordered;
  last = last;
  memories = memories;
}

-- no evening has a line behind these where no row of it may follow
pub none_has : (lines : List (List ℕ)) (evening : EveningState) (due : List ℕ) (at : Reached lines evening due)
    (line : List ℕ)
    → is_written line ≡ true → ((row : Row) → line ≡ line_of row → RowMayFollow at.rows row → ⊥)
    → IsOutside Reached (lines ++ line ∷ [])
none_has lines evening due at line written none other text reached =
    let ends =
    ends_with (filter is_written lines) line reached.rows (sym (written_push lines line written) ∙ reached.spelled) in
    let step = (evening_step ends.front ends.last).0 (subst IsEvening ends.parts reached.follow) in
    let same : ends.front ≡ at.rows = one_evening ends.front at.rows step.0 at.follow (sym ends.before ∙ at.spelled) in
    none ends.last ends.spelled (subst (λ (rows : List Row). RowMayFollow rows ends.last) same step.1)

-- ---- the laws of the lines

row_short : (before : List Row) (row : Row) → RowMayFollow before row → length (line_of row) ≤ most_line_bytes
row_short before (Seats seat made) h = h.short.0
row_short before (Comes line made bytes memory) h = h.short.0

empty_line : (lines : List (List ℕ)) (evening : EveningState) (due : List ℕ) → Reached lines evening due
    → Reached (lines ++ [] ∷ []) evening due
empty_line lines evening due at = record {
  rows = at.rows;
  follow = at.follow;
  spelled = empty_push lines ∙ at.spelled;
  text = at.text;
  server = at.server;
  ordered = at.ordered;
  last = at.last;
  memories = at.memories;
}

front_of : (lines : List (List ℕ)) (line : List ℕ) (evening : EveningState) (due : List ℕ)
    → Reached (lines ++ line ∷ []) evening due → (before : EveningState) × (text : List ℕ) × Reached lines before text
front_of lines [] evening due at = (
  evening,
  due,
  record {
    rows = at.rows;
    follow = at.follow;
    spelled = sym (empty_push lines) ∙ at.spelled;
    text = at.text;
    server = at.server;
    ordered = at.ordered;
    last = at.last;
    memories = at.memories;
  },
)
front_of lines (byte ∷ line) evening due at =
    let ends =
    ends_with (filter is_written lines) (byte ∷ line) at.rows
    (sym (written_push lines (byte ∷ line) refl) ∙ at.spelled) in
    let step = (evening_step ends.front ends.last).0 (subst IsEvening ends.parts at.follow) in
    (standing_of ends.front, transcript_of ends.front, reached_by lines ends.front step.0 ends.before)

line_short : (lines : List (List ℕ)) (line : List ℕ) (evening : EveningState) (due : List ℕ)
    → Reached (lines ++ line ∷ []) evening due → length line ≤ most_line_bytes
line_short lines [] evening due at = omega arith
line_short lines (byte ∷ line) evening due at =
    let ends =
    ends_with (filter is_written lines) (byte ∷ line) at.rows
    (sym (written_push lines (byte ∷ line) refl) ∙ at.spelled) in
    let step = (evening_step ends.front ends.last).0 (subst IsEvening ends.parts at.follow) in
    subst (λ (l : List ℕ). length l ≤ most_line_bytes) (sym ends.spelled) (row_short ends.front ends.last step.1)

pub reached_lines : AreLinesOfRun Reached
reached_lines = record { empty = empty_line; fronts = front_of; short = line_short }
