-- What the sessions of an evening remember: all are new, the first are seated, and one line more.
use Rattle.std.proofs.Common.{◌≡◌, ◌≢◌, ℕ, zero, suc, ◌+◌, ◌-◌, ◌<◌, ◌==◌, ◌≤◌, Bool, true, false, cond, List, [], ◌∷◌, ◌++◌, length, Some, get_or, replicate, slice_get, slice_set, refl, sym, ap, subst, ◌∙◌, arith}
use Rattle.std.specs.Option.{option_map_or}
use Rattle.std.proofs.lemmas.Bool.{eqb-true, eqb-false}
use Rattle.std.proofs.lemmas.List.{get_or-replicate, get_or-set_other, get_or-set_same, length-replicate, length-set}
use Rattle.std.proofs.lemmas.Option.{get_or_from_slice_get, slice_get-get_or}
use Rattle.one_server.specs.Running.{Log}
use Rattle.replay_core.specs.declared.script.ScriptLine.{ScriptLine}
use Rattle.session_core.specs.Memory.{MemoryState, newcomer, seated_memory}
use Rattle.replay_core.specs.declared.seat_line.SeatLine.{SeatLine}
use Rattle.cmd_replay.specs.Evening.{AreMemories, Row, Seats, Comes, remembered, seated_from}
use Rattle.cmd_replay.specs.EveningsProof.{remembered-push}

-- all sessions are new
pub new_memories : (memories : List MemoryState) → memories ≡ replicate 64 newcomer
    → AreMemories memories (λ session. newcomer)
new_memories memories is =
    let count : length (replicate 64 newcomer) ≡ 64 = length-replicate 64 newcomer in
    subst (λ (m : List MemoryState). AreMemories m (λ session. newcomer)) (sym is)
    (record {
      count = count;
      each = λ session first last.
          slice_get-get_or (replicate 64 newcomer) (session - 1) newcomer (omega (arith, count, first, last))
          ∙ ap Some (get_or-replicate 64 (session - 1) newcomer newcomer (omega (arith, first, last)));
    })

-- what a session remembers, read out of the list in which the memory of one of them was set
one_read : (memories : List MemoryState) (remember : ℕ → MemoryState) (one session : ℕ) (kept : MemoryState)
    (same : Bool)
    → (one == session) ≡ same → 1 ≤ one → 1 ≤ session → session ≤ 64
    → AreMemories memories remember
    → get_or (slice_set memories (one - 1) kept) (session - 1) newcomer ≡ cond same kept (remember session)
one_read memories remember one session kept true same low first last h =
    let count = h.count in
    let is : one ≡ session = eqb-true one session same in
    ap (λ (place : ℕ). get_or (slice_set memories place kept) (session - 1) newcomer) (ap (λ (n : ℕ). n - 1) is)
    ∙ get_or-set_same memories (session - 1) kept newcomer (omega (arith, count, first, last))
one_read memories remember one session kept false same low first last h =
    let differ : one ≢ session = eqb-false one session same in
    get_or-set_other memories (one - 1) (session - 1) kept newcomer (λ e. differ (omega (arith, e, low, first)))
    ∙ get_or_from_slice_get memories (session - 1) (remember session) newcomer (h.each session first last)

-- what is remembered after a line more
pub one_memory : (memories : List MemoryState) (rows : List Row) (next : ScriptLine) (made : Log) (bytes : List ℕ)
    (kept : MemoryState)
    → 1 ≤ next.session
    → AreMemories memories (remembered rows)
    → AreMemories (slice_set memories (next.session - 1) kept) (remembered (rows ++ Comes next made bytes kept ∷ []))
one_memory memories rows next made bytes kept low h =
    let row : Row = Comes next made bytes kept in
    let count : length (slice_set memories (next.session - 1) kept) ≡ 64 =
    length-set memories (next.session - 1) kept ∙ h.count in
    record {
      count = count;
      each = λ session first last.
          slice_get-get_or (slice_set memories (next.session - 1) kept) (session - 1) newcomer
          (omega (arith, count, first, last))
          ∙ ap Some
          (one_read memories (remembered rows) next.session session kept (next.session == session) refl low first last h
          ∙ sym (remembered-push rows row session));
    }

-- ---- the first sessions are seated

length-seated_from : (place : ℕ) (names : List (List ℕ)) (memories : List MemoryState)
    → length (seated_from place names memories) ≡ length memories
length-seated_from place [] memories = refl
length-seated_from place (name ∷ names) memories =
    length-seated_from (place + 1) names (slice_set memories place (seated_memory name))
    ∙ length-set memories place (seated_memory name)

-- those before them are as they were
before_seated : (place : ℕ) (names : List (List ℕ)) (memories : List MemoryState) (p : ℕ) → p < place
    → get_or (seated_from place names memories) p newcomer ≡ get_or memories p newcomer
before_seated place [] memories p low = refl
before_seated place (name ∷ names) memories p low =
    before_seated (place + 1) names (slice_set memories place (seated_memory name)) p (omega (arith, low))
    ∙ get_or-set_other memories place p (seated_memory name) newcomer (λ e. omega (arith, e, low))

-- each name has its session, and those behind them are as they were
among_seated : (place : ℕ) (names : List (List ℕ)) (memories : List MemoryState) (p : ℕ) → place + p < length memories
    → get_or (seated_from place names memories) (place + p) newcomer
    ≡ option_map_or seated_memory (slice_get names p) (get_or memories (place + p) newcomer)
among_seated place [] memories p inside = refl
among_seated place (name ∷ names) memories zero inside =
    let here : place + 0 ≡ place = omega arith in
    let within : place < length memories = omega (arith, inside) in
    ap (λ (k : ℕ). get_or (seated_from (place + 1) names (slice_set memories place (seated_memory name))) k newcomer)
    here
    ∙ before_seated (place + 1) names (slice_set memories place (seated_memory name)) place (omega arith)
    ∙ get_or-set_same memories place (seated_memory name) newcomer within
among_seated place (name ∷ names) memories (suc p) inside =
    let set = slice_set memories place (seated_memory name) in
    let next : place + suc p ≡ place + 1 + p = omega arith in
    let within : place + 1 + p < length set = omega (arith, inside, length-set memories place (seated_memory name)) in
    let other : get_or set (place + 1 + p) newcomer ≡ get_or memories (place + 1 + p) newcomer =
    get_or-set_other memories place (place + 1 + p) (seated_memory name) newcomer (λ e. omega (arith, e)) in
    ap (λ (k : ℕ). get_or (seated_from (place + 1) names set) k newcomer) next
    ∙ among_seated (place + 1) names set p within
    ∙ ap (option_map_or seated_memory (slice_get names p))
    (other ∙ ap (λ (k : ℕ). get_or memories k newcomer) (sym next))

-- the first sessions are seated, and the others are new
pub seated_memories : (memories : List MemoryState) (seat : SeatLine) (made : Log)
    → AreMemories memories (λ session. newcomer)
    → AreMemories (seated_from 0 seat.names memories) (remembered (Seats seat made ∷ []))
seated_memories memories seat made h =
    let set = seated_from 0 seat.names memories in
    let count : length set ≡ 64 = length-seated_from 0 seat.names memories ∙ h.count in
    record {
      count = count;
      each = λ session first last.
          let place = session - 1 in
          let whole : 0 + place ≡ place = omega arith in
          let new : get_or memories (0 + place) newcomer ≡ newcomer =
          ap (λ (k : ℕ). get_or memories k newcomer) whole
          ∙ get_or_from_slice_get memories place newcomer newcomer (h.each session first last) in
          slice_get-get_or set place newcomer (omega (arith, count, first, last))
          ∙ ap Some
          (ap (λ (k : ℕ). get_or set k newcomer) (sym whole)
          ∙ among_seated 0 seat.names memories place (omega (arith, h.count, first, last))
          ∙ ap (option_map_or seated_memory (slice_get seat.names place)) new);
    }
