-- Going on in a course: by an act, by a text, and one step after the other.
use Rattle.std.proofs.Common.{◌≡◌, ℕ, List, [], ◌∷◌, ◌++◌, refl, sym, ap, subst, ◌∙◌, append_assoc, append-nil, Ok, Err, Result}
use Rattle.std.specs.Result.{IfOk, OnErr, OnOk, result_and}
use Rattle.memory.specs.declared.NoMemory.{NoMemory}
use Rattle.histories.specs.History.{entry}
use Rattle.one_server.specs.declared.act.Act.{Act}
use Rattle.one_server.specs.declared.reply.Reply.{Reply}
use Rattle.one_server.specs.Running.{IsKnown, Log, Made, ServerRan, RunnerState}
use Rattle.session_core.specs.Course.{Course, Done, Asks, Writes, Follows, Begins, act_at}
use Rattle.session_core.specs.Going.{Answered, BrokeOff, Leads, Left, Went, WentOn}
use Rattle.session_core.specs.Memory.{MemoryState}
use Rattle.session_core.specs.Remembering.{Remembers}
use Rattle.session_core.specs.Stages.{Settles, onto, course_settled}
use Rattle.session_core.proofs.Remembering.{remembers_still, remembers_then}
use Rattle.one_server.proofs.Made.{made_none, made_then}

-- ---- entries

-- what stays the same
pub same_number : (old new : RunnerState) (entries : Log) → Made old entries new → new.number ≡ old.number
same_number old new entries m = ap (λ (s : RunnerState). s.number) m.same

pub same_mark : (old new : RunnerState) (entries : Log) → Made old entries new → new.mark ≡ old.mark
same_mark old new entries m = ap (λ (s : RunnerState). s.mark) m.same

-- ---- courses

leads_ask : (act : Act) (rest : Reply → Course) (session moment : ℕ) (reply : Reply)
    → Leads (Asks act rest) (rest reply) session moment (entry session (act_at moment act) reply ∷ []) []
leads_ask act rest session moment reply = record { whole = λ more text memory f. (refl, f); part = λ more b. (refl, b) }

leads_same : (course : Course) (session moment : ℕ) → Leads course course session moment [] []
leads_same course session moment = record { whole = λ more text memory f. f; part = λ more b. b }

leads_then : (one two three : Course) (session moment : ℕ) (es fs : Log) (p q : List ℕ)
    → Leads one two session moment es p → Leads two three session moment fs q
    → Leads one three session moment (es ++ fs) (p ++ q)
leads_then one two three session moment es fs p q h k = record {
  whole = λ more text memory f.
      subst (λ (l : Log). Follows one session moment l (p ++ q ++ text) memory) (sym (append_assoc es fs more))
      (subst (λ (t : List ℕ). Follows one session moment (es ++ (fs ++ more)) t memory) (sym (append_assoc p q text))
      (h.whole (fs ++ more) (q ++ text) memory (k.whole more text memory f)));
  part = λ more b.
      subst (λ (l : Log). Begins one session moment l) (sym (append_assoc es fs more))
      (h.part (fs ++ more) (k.part more b));
}

-- nothing was done of a course yet
begins_none : (course : Course) (session moment : ℕ) → Begins course session moment []
begins_none (Done memory) session moment = refl
begins_none (Writes put rest) session moment = begins_none rest session moment
begins_none (Asks act rest) session moment = tt

-- a course that leads to its end was followed
follows_leads : (course : Course) (memory : MemoryState) (session moment : ℕ) (es : Log) (put : List ℕ)
    → Leads course (Done memory) session moment es put → Follows course session moment es put memory
follows_leads course memory session moment es put h =
    subst (λ (l : Log). Follows course session moment l put memory) (append-nil es)
    (subst (λ (t : List ℕ). Follows course session moment (es ++ []) t memory) (append-nil put)
    (h.whole [] [] memory (refl, refl, refl)))

-- what a course writes before its next act
written : (course : Course) → List ℕ
written (Writes put rest) = put ++ written rest
written (Asks act rest) = []
written (Done memory) = []

onto-written : (out : List ℕ) (course : Course) → onto out course ≡ out ++ written course
unfolding written
onto-written out (Writes put rest) = onto-written (out ++ put) rest ∙ append_assoc out put (written rest)
onto-written out (Asks act rest) = sym (append-nil out)
onto-written out (Done memory) = sym (append-nil out)

leads_settled : (course : Course) (session moment : ℕ)
    → Leads course (course_settled course) session moment [] (written course)
unfolding written
leads_settled (Writes put rest) session moment =
    let h = leads_settled rest session moment in
    record {
      whole = λ more text memory f.
          (written rest ++ text, append_assoc put (written rest) text, h.whole more text memory f);
      part = h.part;
    }
leads_settled (Asks act rest) session moment = leads_same (Asks act rest) session moment
leads_settled (Done memory) session moment = leads_same (Done memory) session moment

-- ---- a session on its way

module _ (moment : ℕ) where
  -- nothing is done yet
  pub went_none : (course : Course) (old : RunnerState) (out : List ℕ) → IsKnown old
      → Went course course moment old out old out
  went_none course old out known =
      record {
        entries = [];
        put = [];
        grew = made_none old known;
        leads = leads_same course old.number moment;
        appended = sym (append-nil out);
      }

  -- an act was made
  pub went_ask : (act : Act) (rest : Reply → Course) (reply : Reply) (old : RunnerState) (out : List ℕ)
      (new : RunnerState)
      → ServerRan old (act_at moment act) reply new
      → Went (Asks act rest) (rest reply) moment old out new out
  went_ask act rest reply old out new ran = record {
    entries = entry old.number (act_at moment act) reply ∷ [];
    put = [];
    grew = ran.grew;
    leads = leads_ask act rest old.number moment reply;
    appended = sym (append-nil out);
  }

  -- and then the next
  pub went_then : (one two three : Course) (old mid new : RunnerState) (out out' out'' : List ℕ)
      → Went one two moment old out mid out' → Went two three moment mid out' new out''
      → Went one three moment old out new out''
  went_then one two three old mid new out out' out'' p q = record {
    entries = p.entries ++ q.entries;
    put = p.put ++ q.put;
    grew = made_then old mid new p.entries q.entries p.grew q.grew;
    leads =
        leads_then one two three old.number moment p.entries q.entries p.put q.put p.leads
        (subst (λ (n : ℕ). Leads two three n moment q.entries q.put) (same_number old mid p.entries p.grew) q.leads);
    appended = q.appended ∙ ap (λ (l : List ℕ). l ++ q.put) p.appended ∙ append_assoc out p.put q.put;
  }

  -- what stands before the next act was written
  pub went_settled : (course coming : Course) (old : RunnerState) (out out' : List ℕ) → IsKnown old
      → Settles course coming out out' → Went course coming moment old out old out'
  went_settled course coming old out out' known s = record {
    entries = [];
    put = written course;
    grew = made_none old known;
    leads =
        subst (λ (c : Course). Leads course c old.number moment [] (written course)) (sym s.goes)
        (leads_settled course old.number moment);
    appended = s.text ∙ onto-written out course;
  }

  -- an act was made, and what follows its reply was written
  pub went_on : (act : Act) (rest : Reply → Course) (reply : Reply) (coming : Course) (old : RunnerState) (out : List ℕ)
      (new : RunnerState) (out' : List ℕ)
      → ServerRan old (act_at moment act) reply new
      → Settles (rest reply) coming out out' → Went (Asks act rest) coming moment old out new out'
  went_on act rest reply coming old out new out' ran s =
      went_then (Asks act rest) (rest reply) coming old new new out out out' (went_ask act rest reply old out new ran)
      (went_settled (rest reply) coming new out out' ran.grew.known s)

  -- an act was made, and what follows its reply was written or ran out of memory
  pub went_asked : {T : Type 0} (act : Act) (rest : Reply → Course) (reply : Reply) (result : Result T NoMemory)
      (coming : T → Course) (old : RunnerState) (out : List ℕ) (new : RunnerState) (out' : List ℕ)
      → ServerRan old (act_at moment act) reply new → IfOk result (λ next. Settles (rest reply) (coming next) out out')
      → IfOk result (λ next. Went (Asks act rest) (coming next) moment old out new out')
  went_asked act rest reply (Ok next) coming old out new out' ran s =
      went_on act rest reply (coming next) old out new out' ran s
  went_asked act rest reply (Err e) coming old out new out' ran s = tt

  -- and then the next, from the same course in other words
  pub went_after : (one coming two three : Course) (old mid new : RunnerState) (out out' out'' : List ℕ)
      → Went one coming moment old out mid out' → coming ≡ two → Went two three moment mid out' new out''
      → Went one three moment old out new out''
  went_after one coming two three old mid new out out' out'' p is q =
      went_then one two three old mid new out out' out''
      (subst (λ (c : Course). Went one c moment old out mid out') is p) q

  -- the end of the course
  pub followed : (course coming : Course) (memory : MemoryState) (old new : RunnerState) (out out' : List ℕ)
      → Went course coming moment old out new out' → coming ≡ Done memory
      → Answered course (λ text. text) moment old out new out' memory
  followed course coming memory old new out out' p is =
      let w : Went course (Done memory) moment old out new out' =
      subst (λ (c : Course). Went course c moment old out new out') is p in
      record {
        entries = w.entries;
        text = w.put;
        grew = w.grew;
        follows = follows_leads course memory old.number moment w.entries w.put w.leads;
        appended = w.appended;
      }

  -- it remembers what it did, so far
  pub on_none : (course : Course) (old : RunnerState) (memory : MemoryState) (out : List ℕ) → IsKnown old
      → WentOn course course moment old memory out old memory out
  unfolding went_none
  on_none course old memory out known =
      record { went = went_none course old out known; remembers = remembers_still memory }

  -- an act was made, and what follows its reply was written or ran out of memory
  pub on_asked : {T : Type 0} (act : Act) (rest : Reply → Course) (reply : Reply) (result : Result T NoMemory)
      (coming : T → Course) (old : RunnerState) (before : MemoryState) (out : List ℕ) (new : RunnerState)
      (after : MemoryState) (out' : List ℕ)
      → ServerRan old (act_at moment act) reply new → IfOk result (λ next. Settles (rest reply) (coming next) out out')
      → Remembers before (entry old.number (act_at moment act) reply ∷ []) after
      → IfOk result (λ next. WentOn (Asks act rest) (coming next) moment old before out new after out')
  unfolding went_on went_then went_ask went_settled
  on_asked act rest reply (Ok next) coming old before out new after out' ran s remembers =
      record { went = went_on act rest reply (coming next) old out new out' ran s; remembers = remembers }
  on_asked act rest reply (Err e) coming old before out new after out' ran s remembers = tt

  -- an act was made, and its reply says what follows
  pub on_made : (act : Act) (rest : Reply → Course) (reply : Reply) (old : RunnerState) (before : MemoryState)
      (out : List ℕ) (new : RunnerState) (after : MemoryState)
      → ServerRan old (act_at moment act) reply new
      → Remembers before (entry old.number (act_at moment act) reply ∷ []) after
      → WentOn (Asks act rest) (rest reply) moment old before out new after out
  unfolding went_ask
  on_made act rest reply old before out new after ran remembers =
      record { went = went_ask act rest reply old out new ran; remembers = remembers }

  -- and then the next
  pub on_then : (one two three : Course) (old : RunnerState) (before : MemoryState) (out : List ℕ) (mid : RunnerState)
      (there : MemoryState) (out' : List ℕ) (new : RunnerState) (after : MemoryState) (out'' : List ℕ)
      → WentOn one two moment old before out mid there out' → WentOn two three moment mid there out' new after out''
      → WentOn one three moment old before out new after out''
  unfolding went_then
  on_then one two three old before out mid there out' new after out'' p q = record {
    went = went_then one two three old mid new out out' out'' p.went q.went;
    remembers = remembers_then before there after p.went.entries q.went.entries p.remembers q.remembers;
  }

  -- and then the next, from the same course in other words
  pub on_after : (one coming two three : Course) (old : RunnerState) (before : MemoryState) (out : List ℕ)
      (mid : RunnerState) (there : MemoryState) (out' : List ℕ) (new : RunnerState) (after : MemoryState)
      (out'' : List ℕ)
      → WentOn one coming moment old before out mid there out' → coming ≡ two
      → WentOn two three moment mid there out' new after out'' → WentOn one three moment old before out new after out''
  on_after one coming two three old before out mid there out' new after out'' p is q =
      on_then one two three old before out mid there out' new after out''
      (subst (λ (c : Course). WentOn one c moment old before out mid there out') is p) q

  -- the end of leaving, where nothing is written
  pub left : (result : Result (Unit {0}) NoMemory) (course coming : Course) (memory : MemoryState)
      (old new : RunnerState)
      → OnOk result (Went course coming moment old [] new []) → coming ≡ Done memory
      → OnOk result (Left course moment old new memory)
  left (Ok u) course coming memory old new p is =
      let f : Answered course (λ text. text) moment old [] new [] memory =
      followed course coming memory old new [] [] p is in
      record {
        entries = f.entries;
        grew = f.grew;
        follows =
            subst (λ (t : List ℕ). Follows course old.number moment f.entries t memory) (sym f.appended) f.follows;
      }
  left (Err e) course coming memory old new p is = tt

  went_both_and : (one two : Result (Unit {0}) NoMemory) (course coming asks next : Course) (old mid new : RunnerState)
      → OnOk one (Went course coming moment old [] mid [])
      → coming ≡ asks → OnOk two (Went asks next moment mid [] new [])
      → OnOk (result_and one two) (Went course next moment old [] new [])
  went_both_and (Ok u) (Ok v) course coming asks next old mid new p same q =
      went_after course coming asks next old mid new [] [] [] p same q
  went_both_and (Ok u) (Err e) course coming asks next old mid new p same q = tt
  went_both_and (Err e) two course coming asks next old mid new p same q = tt

  -- both steps of leaving were made
  pub went_both : (one two both : Result (Unit {0}) NoMemory) (course coming asks next : Course)
      (old mid new : RunnerState)
      → both ≡ result_and one two → OnOk one (Went course coming moment old [] mid [])
      → coming ≡ asks → OnOk two (Went asks next moment mid [] new [])
      → OnOk both (Went course next moment old [] new [])
  went_both one two both course coming asks next old mid new is p same q =
      subst (λ (r : Result (Unit {0}) NoMemory). OnOk r (Went course next moment old [] new [])) (sym is)
      (went_both_and one two course coming asks next old mid new p same q)

  -- running out of memory behind what was done
  pub broke_there : (course rest : Course) (old : RunnerState) (before : MemoryState) (out : List ℕ) (new : RunnerState)
      (after : MemoryState) (out' : List ℕ)
      → WentOn course rest moment old before out new after out'
      → BrokeOff course moment old before new after
  broke_there course rest old before out new after out' w = record {
    entries = w.went.entries;
    grew = w.went.grew;
    begins =
        subst (λ (l : Log). Begins course old.number moment l) (append-nil w.went.entries)
        (w.went.leads.part [] (begins_none rest old.number moment));
    remembers = w.remembers;
  }

  -- running out of memory of the next act
  pub broke_unmade : (course : Course) (old : RunnerState) (before : MemoryState) (new : RunnerState)
      (after : MemoryState)
      → Made old [] new → Remembers before [] after
      → BrokeOff course moment old before new after
  broke_unmade course old before new after m is =
      record { entries = []; grew = m; begins = begins_none course old.number moment; remembers = is }

  pub broke_unasked : {T : Type 0} (result : Result T NoMemory) (course : Course) (old : RunnerState)
      (before : MemoryState) (new : RunnerState)
      → Made old [] new → OnErr result (BrokeOff course moment old before new before)
  broke_unasked (Ok next) course old before new m = tt
  broke_unasked (Err e) course old before new m =
      broke_unmade course old before new before m (remembers_still before)

  -- running out of memory of what is written behind an act
  pub broke_asked : {T : Type 0} (act : Act) (rest : Reply → Course) (reply : Reply) (result : Result T NoMemory)
      (old : RunnerState) (before : MemoryState) (new : RunnerState) (after : MemoryState)
      → ServerRan old (act_at moment act) reply new
      → Remembers before (entry old.number (act_at moment act) reply ∷ []) after
      → OnErr result (BrokeOff (Asks act rest) moment old before new after)
  unfolding went_ask
  broke_asked act rest reply (Ok next) old before new after ran remembers = tt
  broke_asked act rest reply (Err e) old before new after ran remembers =
      broke_there (Asks act rest) (rest reply) old before [] new after []
      (record { went = went_ask act rest reply old [] new ran; remembers = remembers })

  -- running out of memory in what follows
  pub broke_next : (one two : Course) (old : RunnerState) (before : MemoryState) (out : List ℕ) (mid : RunnerState)
      (there : MemoryState) (out' : List ℕ) (new : RunnerState) (after : MemoryState)
      → WentOn one two moment old before out mid there out' → BrokeOff two moment mid there new after
      → BrokeOff one moment old before new after
  broke_next one two old before out mid there out' new after p q = record {
    entries = p.went.entries ++ q.entries;
    grew = made_then old mid new p.went.entries q.entries p.went.grew q.grew;
    begins =
        p.went.leads.part q.entries
        (subst (λ (n : ℕ). Begins two n moment q.entries) (same_number old mid p.went.entries p.went.grew) q.begins);
    remembers = remembers_then before there after p.went.entries q.entries p.remembers q.remembers;
  }

  -- from the same course in other words
  pub broke_after : (one coming two : Course) (old : RunnerState) (before : MemoryState) (out : List ℕ)
      (mid : RunnerState) (there : MemoryState) (out' : List ℕ) (new : RunnerState) (after : MemoryState)
      → WentOn one coming moment old before out mid there out' → coming ≡ two → BrokeOff two moment mid there new after
      → BrokeOff one moment old before new after
  broke_after one coming two old before out mid there out' new after p is q =
      broke_next one two old before out mid there out' new after
      (subst (λ (c : Course). WentOn one c moment old before out mid there out') is p) q

  -- the session began to answer
  pub on_begun : (course coming : Course) (old : RunnerState) (before there : MemoryState) (out out' : List ℕ)
      → IsKnown old → Settles course coming out out' → Remembers before [] there
      → WentOn course coming moment old before out old there out'
  unfolding went_settled
  on_begun course coming old before there out out' known s is =
      record { went = went_settled course coming old out out' known s; remembers = is }

  -- it followed what came first to the end
  pub answered_after : (course coming : Course) (old new : RunnerState) (out out' out'' : List ℕ) (after : MemoryState)
      → IsKnown old → Settles course coming out out'
      → Answered coming (λ text. text) moment old out' new out'' after
      → Answered course (λ text. text) moment old out new out'' after
  answered_after course coming old new out out' out'' after known s a =
      let w : Went course coming moment old out old out' = went_settled course coming old out out' known s in
      record {
        entries = w.entries ++ a.entries;
        text = w.put ++ a.text;
        grew = made_then old old new w.entries a.entries w.grew a.grew;
        follows = w.leads.whole a.entries a.text after a.follows;
        appended = a.appended ∙ ap (λ (l : List ℕ). l ++ a.text) w.appended ∙ append_assoc out w.put a.text;
      }

  -- it went on, and then followed the rest to the end
  pub answered_next : (result : Result (Unit {0}) NoMemory) (one coming two : Course) (old mid new : RunnerState)
      (out out' out'' : List ℕ) (after : MemoryState)
      → Went one coming moment old out mid out'
      → coming ≡ two → OnOk result (Answered two (λ text. text) moment mid out' new out'' after)
      → OnOk result (Answered one (λ text. text) moment old out new out'' after)
  answered_next (Ok u) one coming two old mid new out out' out'' after p is a =
      let w : Went one two moment old out mid out' = subst (λ (c : Course). Went one c moment old out mid out') is p in
      record {
        entries = w.entries ++ a.entries;
        text = w.put ++ a.text;
        grew = made_then old mid new w.entries a.entries w.grew a.grew;
        follows =
            w.leads.whole a.entries a.text after
            (subst (λ (n : ℕ). Follows two n moment a.entries a.text after) (same_number old mid w.entries w.grew)
            a.follows);
        appended = a.appended ∙ ap (λ (l : List ℕ). l ++ a.text) w.appended ∙ append_assoc out w.put a.text;
      }
  answered_next (Err e) one coming two old mid new out out' out'' after p is a = tt

  -- a session that left followed its course, and wrote nothing
  pub answered_left : (course : Course) (old new : RunnerState) (out : List ℕ) (after : MemoryState)
      → Left course moment old new after → Answered course (λ text. text) moment old out new out after
  answered_left course old new out after l =
      record { entries = l.entries; text = []; grew = l.grew; follows = l.follows; appended = sym (append-nil out) }

  -- what was written stands in an answer
  pub answered_framed : (course : Course) (answer : List ℕ → List ℕ) (old new : RunnerState) (bytes answered : List ℕ)
      (after : MemoryState)
      → Answered course (λ text. text) moment old [] new bytes after
      → answered ≡ answer bytes → Answered course answer moment old [] new answered after
  answered_framed course answer old new bytes answered after a is =
      record {
        entries = a.entries;
        text = a.text;
        grew = a.grew;
        follows = a.follows;
        appended = is ∙ ap answer a.appended;
      }
