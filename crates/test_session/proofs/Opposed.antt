-- What a session sees of the acts of another one, and of its own ones among them.
use Rattle.std.proofs.Common.{◌≡◌, ℕ, Bool, true, false, cond, eqb, List, [], ◌∷◌, ◌++◌, refl, ap, sym, subst, ◌∙◌, inl, inr, Ok, Err, Result, append-nil, ne_eqb, arith}
use Rattle.std.proofs.lemmas.Bool.{eqb-true}
use Rattle.std.proofs.lemmas.List.{append_cancel_left}
use Rattle.std.specs.Result.{IfOk, OnErr}
use Rattle.histories.specs.declared.entry.Entry.{Entry}
use Rattle.histories.specs.History.{calls_of, entry, Legal}
use Rattle.histories.proofs.Histories.{calls-append, calls_own, prefix_trans}
use Rattle.memory.specs.declared.NoMemory.{NoMemory}
use Rattle.one_server.specs.declared.act.Timed.{Timed}
use Rattle.one_server.specs.declared.part.Part.{Part}
use Rattle.one_server.specs.declared.reply.Reply.{Reply}
use Rattle.one_server.specs.House.{house}
use Rattle.one_server.specs.Replies.{IsReply}
use Rattle.one_server.specs.Running.{Log, Made, ServerRan, RunnerState, Runs}
use Rattle.one_server.specs.Server.{ServerState, seat_state}
use Rattle.session_core.specs.declared.input.Wrote.{Wrote}
use Rattle.session_core.specs.Course.{Course}
use Rattle.session_core.specs.Going.{Answered, Broke}
use Rattle.session_core.specs.Memory.{MemoryState}
use Rattle.test_session.specs.Beside.{Beside, opposed}

module _ {A R : Type 0} where
  -- an entry of session 2 isn't one of session 1
  passed_by : (two : Bool) (e : Entry A R) (es : List (Entry A R)) → eqb e.session 2 ≡ two → calls_of 1 es ≡ []
      → calls_of 1 (cond two (e ∷ es) es) ≡ []
  passed_by true e es is rec =
      let at : e.session ≡ 2 = eqb-true e.session 2 is in
      ap (λ (b : Bool). cond b (e ∷ calls_of 1 es) (calls_of 1 es)) (ne_eqb e.session 1 (λ one. omega arith)) ∙ rec
  passed_by false e es is rec = rec

  none_among : (es : List (Entry A R)) → calls_of 1 (calls_of 2 es) ≡ []
  none_among [] = refl
  none_among (e ∷ es) = passed_by (eqb e.session 2) e (calls_of 2 es) refl (none_among es)

  none_made : (old new entries : List (Entry A R)) → new ≡ old ++ entries → calls_of 2 new ≡ calls_of 2 old ++ entries
      → calls_of 1 new ≡ calls_of 1 old
  none_made old new entries grew more =
      let own : calls_of 2 entries ≡ entries =
      append_cancel_left (calls_of 2 old) (calls_of 2 entries) entries
      (sym (calls-append 2 old entries) ∙ (ap (calls_of 2) (sym grew) ∙ more)) in
      let none : calls_of 1 entries ≡ [] = ap (calls_of 1) (sym own) ∙ none_among entries in
      ap (calls_of 1) grew
      ∙ (calls-append 1 old entries
      ∙ (ap (λ (es : List (Entry A R)). calls_of 1 old ++ es) none ∙ append-nil (calls_of 1 old)))

-- what session 2 made where it was by itself
beside_made : (number after : ℕ) (old new : ServerState) (entries : Log) → number ≡ 2
    → Made (seat_state number old) entries (seat_state after new) → Beside old new
beside_made number after old new entries two made =
    let same : after ≡ 2 = ap (λ (s : RunnerState). s.number) made.same ∙ two in
    record {
      opening = ap (λ (s : RunnerState). s.opening) made.same;
      begins = made.begins;
      legal = made.known.legal;
      none = none_made old.log new.log entries (made.only refl)
          (ap (λ (k : ℕ). calls_of k new.log) (sym same)
          ∙ (made.more ∙ ap (λ (k : ℕ). calls_of k old.log ++ entries) two));
    }

-- session 2 has taken an input, or has run out of memory
pub beside_taken : (result : Result Wrote NoMemory) (course : Course) (answer : List ℕ → List ℕ)
    (moment number after : ℕ) (old start new : ServerState) (before now : MemoryState)
    → number ≡ 2 → start ≡ old
    → IfOk result
    (λ wrote. Answered course answer moment (seat_state number start) [] (seat_state after new) wrote.bytes.items now)
    → OnErr result (Broke course moment (seat_state number start) before (seat_state after new) now) → Beside old new
beside_taken (Ok wrote) course answer moment number after old start new before now two is a b =
    subst (λ (s : ServerState). Beside s new) is (beside_made number after start new a.entries two a.grew)
beside_taken (Err e) course answer moment number after old start new before now two is a (inl b) =
    subst (λ (s : ServerState). Beside s new) is (beside_made number after start new b.entries two b.grew)
beside_taken (Err e) course answer moment number after old start new before now two is a (inr l) =
    subst (λ (s : ServerState). Beside s new) is (beside_made number after start new l.part.entries two l.part.grew)

-- session 1 makes no act
made_beside : (old new : ServerState) → Beside old new → Made (opposed old) [] (opposed new)
made_beside old new b = record {
  same = ap (λ (o : List Part). record (opposed new) { opening = o }) b.opening;
  begins = b.begins;
  known = record { legal = b.legal; own = refl };
  more = b.none ∙ sym (append-nil (calls_of 1 old.log));
  only = λ sole. absurd cc;
}

-- and an act of its own
ran_beside : (old mid new : ServerState) (act : Timed) (reply : Reply) → Beside old mid
    → new ≡ record mid { log = mid.log ++ entry 1 act reply ∷ [] }
    → Legal house new.opening new.log → IsReply reply → ServerRan (opposed old) act reply (opposed new)
ran_beside old mid new act reply b is legal fits =
    let log : new.log ≡ mid.log ++ entry 1 act reply ∷ [] = ap (λ (s : ServerState). s.log) is in
    let others : mid.log ≡ old.log ++ b.begins.0 = sym b.begins.1 in
    record {
      grew = record {
        same =
            ap (λ (o : List Part). record (opposed new) { opening = o })
            (ap (λ (s : ServerState). s.opening) is ∙ b.opening);
        begins = prefix_trans old.log mid.log new.log b.begins (entry 1 act reply ∷ [], sym log);
        known = record { legal = legal; own = refl };
        more =
            ap (calls_of 1) log
            ∙ (calls_own 1 mid.log (entry 1 act reply) refl ∙ ap (λ (es : Log). es ++ entry 1 act reply ∷ []) b.none);
        only = λ sole. absurd cc;
      };
      others = b.begins.0;
      ends = log ∙ ap (λ (es : Log). es ++ entry 1 act reply ∷ []) others;
      fits = fits;
    }

-- an act that was answered, or ran out of memory
pub runs_beside : (result : Result Reply NoMemory) (old mid new : ServerState) (act : Timed) → Beside old mid
    → IfOk result (λ reply. new ≡ record mid { log = mid.log ++ entry 1 act reply ∷ [] })
    → Legal house new.opening new.log → IfOk result IsReply → OnErr result (new ≡ mid)
    → Runs (opposed old) act result (opposed new)
runs_beside (Ok reply) old mid new act b is legal fits same = ran_beside old mid new act reply b is legal fits
runs_beside (Err e) old mid new act b is legal fits same = made_beside old new (subst (Beside old) (sym same) b)
