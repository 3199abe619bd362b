-- The session leaves, and the link is closed.
use Rattle.std.proofs.Common.{◌≡◌, ℕ, Bool, true, false, if◌then◌else◌, List, [], ◌∷◌, ◌++◌, refl, sym, ap, subst, ◌∙◌, append_assoc, append-nil, inl, inr, Err}
use Rattle.std.specs.declared.option.Option.{Option}
use Rattle.edge_traits.specs.Faults.{Rose}
use Rattle.edge_traits.specs.Link.{Closes, Handed, Sign, Tale}
use Rattle.edge_traits.specs.WhereTold.{WhereTold}
use Rattle.one_server.specs.declared.act.Timed.{Timed}
use Rattle.one_server.specs.declared.reply.Reply.{Reply}
use Rattle.histories.specs.declared.entry.Entry.{Entry}
use Rattle.one_server.specs.Running.{Log, Made, RunnerState}
use Rattle.session_asks.specs.declared.standing.Standing.{Standing}
use Rattle.session_asks.specs.declared.standing.Standing.TheVariants as standing
use Rattle.session_core.specs.Course.{Course, Done, Asks, Writes as Puts, Follows, Passes}
use Rattle.session_core.specs.Going.{Left, LeftInPart, departing}
use Rattle.session_core.specs.Memory.{MemoryState, has_entered, is_gone, standing_in, is_out}
use Rattle.session_core.specs.Session.{leaving_course}
use Rattle.session_core.proofs.Going.{same_mark, same_number}
use Rattle.one_server.proofs.Made.{made_then}
use Rattle.link_core.specs.declared.link_end.LinkEnd.{LinkEnd}
use Rattle.link_core.specs.declared.link_end.LinkEnd.TheVariants as end
use Rattle.link_core.specs.Arrivals.{inputs_of}
use Rattle.link_core.specs.ServedWhole.{Dialogue, AnswersFirst, HasEnded, HasClosed, LeavesWhole, ServedWhole, TakesFrom, WroteAnswers}
use Rattle.link_core.specs.ServedInPart.{LeavesInPart, LeavesShort, QuitsShort, ServedInPart, WasServed}
use Rattle.link_core.specs.Serving.{ServesLink}
use Rattle.link_core.specs.Steps.{Behind, EndsReading, OnFault, Stand, Stops, WasRead}
use Rattle.link_core.specs.Talk.{IsShown}
use Rattle.link_core.proofs.Tales.{where_then}
use Rattle.link_core.proofs.Talking.{prefix_further}

-- who followed a course passed over nothing
passes_follows : (mark : Bool) (course : Course) (session moment : ℕ) (es : Log) (text : List ℕ) (memory : MemoryState)
    → Follows course session moment es text memory → Passes mark course session moment es
passes_follows mark (Done kept) session moment es text memory f = f.0
passes_follows mark (Puts put rest) session moment es text memory f =
    passes_follows mark rest session moment es f.0 memory f.2
passes_follows mark (Asks act rest) session moment [] text memory f = absurd f
passes_follows mark (Asks act rest) session moment (e ∷ es) text memory f =
    inl (
      e.reply,
      es,
      ap (λ (x : Entry Timed Reply). x ∷ es) f.0,
      passes_follows mark (rest e.reply) session moment es text memory f.1,
    )

-- who has left doesn't leave again
out_not_in : (s : Standing) → is_out s ≡ true → standing_in s ≡ false
out_not_in standing.Login h = absurd (let bad : false ≡ true = h in cc)
out_not_in (standing.Password name) h = absurd (let bad : false ≡ true = h in cc)
out_not_in (standing.In name) h = absurd (let bad : false ≡ true = h in cc)
out_not_in standing.Gone h = refl

none_left_in : (is : Bool) (mark : Bool) (course : Course) (memory : MemoryState) (session moment : ℕ) (es : Log)
    → is ≡ false → Passes mark (if is then course else Done memory) session moment es → es ≡ []
none_left_in true mark course memory session moment es h p = absurd (let bad : true ≡ false = h in cc)
none_left_in false mark course memory session moment es h p = p

none_left : (mark : Bool) (memory : MemoryState) (session moment : ℕ) (es : Log) → is_gone memory ≡ true
    → Passes mark (departing memory) session moment es → es ≡ []
none_left mark memory session moment es gone p =
    none_left_in (has_entered memory) mark (leaving_course memory) memory session moment es
    (out_not_in memory.standing gone) p

-- the link's count says why the reading ended, where that was a fault
ended : (end : LinkEnd) (talk : Dialogue) (before after : ℕ) → EndsReading end talk.taken talk.is_ended talk.memory
    → OnFault (Err end) (Rose before after) → HasEnded end talk before after
ended end.Quit talk before after e c = e
ended end.End talk before after e c = e
ended end.ReadFault talk before after e c = c
ended end.WriteFault talk before after e c = c
ended end.Spent talk before after e c = e
ended end.Memory talk before after e c = tt

module _ (shows : ℕ → Bool) (start now : Stand) (new : RunnerState) (link : Option Tale)
    (closes : WhereTold now.link link Closes) (faults faults' : ℕ) where
  read_closed : (session : ℕ) (taken : List Sign) (e : Bool) (made left : Log) (written : List ℕ)
      → WasRead shows session taken e made written start.link now.link
      → WasRead shows session taken e (made ++ left) written start.link link
  read_closed session taken e made left written (inl n) = inl (record {
    nothing = n.nothing;
    no_end = n.no_end;
    same = where_then start.link now.link link n.same closes (λ x y z p q. ap (λ (t : Tale). t.at_read) q ∙ p);
  })
  read_closed session taken e made left written (inr l) = inr (record {
    signs = l.signs;
    made = l.made;
    pieces = l.pieces;
    memory = l.memory;
    talked = l.talked;
    taken_first = l.taken_first;
    made_first = prefix_further l.made made left l.made_first;
    written_first = l.written_first;
    at = where_then start.link now.link link l.at closes (λ x y z p q. ap (λ (t : Tale). t.at_read) q ∙ p);
  })

  abbrev first : Handed
  first = record { tale = start.link; faults = faults }

  abbrev last : Handed
  last = record { tale = link; faults = faults' }

  -- what there is to tell of it, and what the session made
  abbrev all_said : (end : LinkEnd) → Stops shows end start now → Log → Dialogue
  all_said end s left = record {
    taken = s.taken;
    is_ended = s.is_ended;
    inputs = s.inputs;
    made = s.made;
    pieces = s.pieces;
    memory = s.memory;
    later = s.begun ++ left;
    written = s.written;
  }

  has_taken : (end : LinkEnd) (s : Stops shows end start now) → WhereTold start.link link (TakesFrom s.taken s.is_ended)
  has_taken end s = where_then start.link now.link link s.tells closes (λ x y z p q. record {
    left_is = p.left_is ∙ ap (λ (l : List Sign). s.taken ++ l) (sym (ap (λ (t : Tale). t.left) q));
    taken_is = ap (λ (t : Tale). t.taken) q ∙ p.taken_is;
    ended_is = ap (λ (t : Tale). t.ended) q ∙ p.ended_is;
    none_left = λ e. ap (λ (t : Tale). t.left) q ∙ p.none_left e;
  })

  has_written : (end : LinkEnd) (s : Stops shows end start now) (left : Log)
      → WroteAnswers end (all_said end s left) start.link link
  has_written end s left = record {
    text = s.writes;
    on_link =
        where_then start.link now.link link s.tells closes (λ x y z p q. ap (λ (t : Tale). t.written) q ∙ p.written_is);
  }

  is_closed : (end : LinkEnd) → Stops shows end start now → HasClosed start.link link
  is_closed end s = where_then start.link now.link link s.tells closes (λ x y z p q. ap (λ (t : Tale). t.closed) q)

  made_all : (end : LinkEnd) (s : Stops shows end start now) (left : Log)
      → (s.made ++ s.begun) ++ left ≡ s.made ++ (s.begun ++ left)
  made_all end s left = append_assoc s.made s.begun left

  has_read : (end : LinkEnd) (s : Stops shows end start now) (left : Log)
      → AnswersFirst shows start.state.number (all_said end s left) (s.made ++ (s.begun ++ left)) start.link link
  has_read end s left =
      subst (λ (l : Log). WasRead shows start.state.number s.taken s.is_ended l s.written start.link link)
      (made_all end s left)
      (read_closed start.state.number s.taken s.is_ended (s.made ++ s.begun) left s.written s.read)

  has_grown : (end : LinkEnd) (s : Stops shows end start now) (left : Log) → Made now.state left new
      → Made start.state (s.made ++ (s.begun ++ left)) new
  has_grown end s left g =
      subst (λ (l : Log). Made start.state l new) (made_all end s left)
      (made_then start.state now.state new (s.made ++ s.begun) left s.grew g)

  -- a link that was served whole
  whole : (end : LinkEnd) (s : Stops shows end start now) (left : Log) → OnFault (Err end) (Rose faults faults')
      → LeavesWhole shows start.state.number s.memory (s.begun ++ left)
      → ServedWhole shows start.state.number end (s.made ++ (s.begun ++ left)) first last
  whole end s left cause leaves = record {
    talk = all_said end s left;
    took = has_taken end s;
    acts = record { answered = s.come; talked = s.talked; all = refl; leaves = leaves };
    wrote = has_written end s left;
    read = has_read end s left;
    closed = is_closed end s;
    ended = ended end (all_said end s left) faults faults' s.ends cause;
  }

  -- and one that was served in part
  part : (end : LinkEnd) (s : Stops shows end start now) (left : Log) → OnFault (Err end) (Rose faults faults')
      → LeavesInPart end shows start.state.mark start.state.number (all_said end s left)
      → ServedInPart shows start.state.mark start.state.number (s.made ++ (s.begun ++ left)) first last
  part end s left cause leaves = record {
    talk = all_said end s left;
    stopped = end;
    took = has_taken end s;
    acts = record { answered = s.come; talked = s.talked; all = refl; leaves = leaves };
    wrote = has_written end s left;
    read = has_read end s left;
    closed = is_closed end s;
    ended = ended end (all_said end s left) faults faults' s.ends cause;
  }

  -- the session left in full behind what it answered
  left_whole : (begun left : Log) (memory after : MemoryState) (moment : ℕ) → IsShown shows moment
      → (begun ≡ []) × (now.memory ≡ memory) → now.state.number ≡ start.state.number
      → Follows (departing now.memory) now.state.number moment left [] after
      → LeavesWhole shows start.state.number memory (begun ++ left)
  left_whole begun left memory after moment shown none same follows = record {
    moment = moment;
    shown = shown;
    after = after;
    follows =
        subst (λ (l : Log). Follows (departing memory) start.state.number moment (l ++ left) [] after) (sym none.0)
        (subst (λ (n : ℕ). Follows (departing memory) n moment left [] after) same
        (subst (λ (m : MemoryState). Follows (departing m) now.state.number moment left [] after) none.1 follows));
  }

  -- the session left, but for what ran out of memory, where memory had run out before
  left_broke : (s : Stops shows end.Memory start now) (left : Log) (moment : ℕ) → IsShown shows moment
      → Passes start.state.mark (departing now.memory) start.state.number moment left
      → Behind end.Memory shows start.state.mark start.state.number s.inputs (inputs_of s.taken s.is_ended) s.memory
      now.memory s.begun
      → LeavesInPart end.Memory shows start.state.mark start.state.number (all_said end.Memory s left)
  left_broke s left moment shown passes (inl b) = inl (record {
    begun = s.begun;
    left = left;
    made_is = refl;
    there = now.memory;
    midway = b;
    leaves = record { moment = moment; shown = shown; passes = passes };
  })
  left_broke s left moment shown passes (inr q) =
      let none : left ≡ [] = none_left start.state.mark now.memory start.state.number moment left q.1 passes in
      inr (subst
      (λ (l : Log).
      QuitsShort shows start.state.mark start.state.number s.inputs (inputs_of s.taken s.is_ended) s.memory l)
      (sym (ap (λ (l : Log). s.begun ++ l) none ∙ append-nil s.begun)) q.0)

  -- and where it hadn't
  left_short : (begun left : Log) (memory : MemoryState) (moment : ℕ) → IsShown shows moment
      → Passes start.state.mark (departing now.memory) start.state.number moment left
      → (begun ≡ []) × (now.memory ≡ memory)
      → LeavesShort shows start.state.mark start.state.number memory (begun ++ left)
  left_short begun left memory moment shown passes none = record {
    moment = moment;
    shown = shown;
    passes =
        subst (λ (l : Log). Passes start.state.mark (departing memory) start.state.number moment (l ++ left))
        (sym none.0)
        (subst (λ (m : MemoryState). Passes start.state.mark (departing m) start.state.number moment left) none.1
        passes);
  }

  number_here : (end : LinkEnd) → Stops shows end start now → now.state.number ≡ start.state.number
  number_here end s = same_number start.state now.state (s.made ++ s.begun) s.grew

  mark_here : (end : LinkEnd) → Stops shows end start now → now.state.mark ≡ start.state.mark
  mark_here end s = same_mark start.state now.state (s.made ++ s.begun) s.grew

  passes_here : (end : LinkEnd) → Stops shows end start now → (moment : ℕ) (left : Log)
      → Passes now.state.mark (departing now.memory) now.state.number moment left
      → Passes start.state.mark (departing now.memory) start.state.number moment left
  passes_here end s moment left p =
      subst (λ (n : ℕ). Passes start.state.mark (departing now.memory) n moment left) (number_here end s)
      (subst (λ (m : Bool). Passes m (departing now.memory) now.state.number moment left) (mark_here end s) p)

  parts_short : (e : LinkEnd) (s : Stops shows e start now) (left : Log) (moment : ℕ) → IsShown shows moment
      → Passes start.state.mark (departing now.memory) start.state.number moment left
      → LeavesInPart e shows start.state.mark start.state.number (all_said e s left)
  parts_short end.Memory s left moment shown p = left_broke s left moment shown p s.behind
  parts_short end.Quit s left moment shown p = left_short s.begun left s.memory moment shown p s.behind
  parts_short end.End s left moment shown p = left_short s.begun left s.memory moment shown p s.behind
  parts_short end.ReadFault s left moment shown p = left_short s.begun left s.memory moment shown p s.behind
  parts_short end.WriteFault s left moment shown p = left_short s.begun left s.memory moment shown p s.behind
  parts_short end.Spent s left moment shown p = left_short s.begun left s.memory moment shown p s.behind

  -- the session left as it was to
  left_so : (e : LinkEnd) (s : Stops shows e start now) (moment : ℕ) (after : MemoryState) → IsShown shows moment
      → OnFault (Err e) (Rose faults faults') → (l : Left (departing now.memory) moment now.state new after)
      → WasServed shows start.state.mark start.state.number e (s.made ++ (s.begun ++ l.entries)) first last
  left_so end.Memory s moment after shown cause l =
      part end.Memory s l.entries cause (parts_short end.Memory s l.entries moment shown
      (passes_here end.Memory s moment l.entries
      (passes_follows now.state.mark (departing now.memory) now.state.number moment l.entries [] after l.follows)))
  left_so end.Quit s moment after shown cause l =
      whole end.Quit s l.entries cause
      (left_whole s.begun l.entries s.memory after moment shown s.behind (number_here end.Quit s) l.follows)
  left_so end.End s moment after shown cause l =
      whole end.End s l.entries cause
      (left_whole s.begun l.entries s.memory after moment shown s.behind (number_here end.End s) l.follows)
  left_so end.ReadFault s moment after shown cause l =
      whole end.ReadFault s l.entries cause
      (left_whole s.begun l.entries s.memory after moment shown s.behind (number_here end.ReadFault s) l.follows)
  left_so end.WriteFault s moment after shown cause l =
      whole end.WriteFault s l.entries cause
      (left_whole s.begun l.entries s.memory after moment shown s.behind (number_here end.WriteFault s) l.follows)
  left_so end.Spent s moment after shown cause l =
      whole end.Spent s l.entries cause
      (left_whole s.begun l.entries s.memory after moment shown s.behind (number_here end.Spent s) l.follows)

-- the call that served the link, behind the end of its reading
module _ {shows : ℕ → Bool} {e : LinkEnd} {start now : Stand} (s : Stops shows e start now) (moment : ℕ)
    (shown : IsShown shows moment) (new : RunnerState) (link : Option Tale) (closes : WhereTold now.link link Closes)
    (faults faults' : ℕ) (cause : OnFault (Err e) (Rose faults faults')) where
  pub serves_left : {after : MemoryState} → Left (departing now.memory) moment now.state new after
      → ServesLink shows e start.state (record {
        tale = start.link;
        faults = faults;
      }) new (record { tale = link; faults = faults' })
  serves_left {after = after} l = record {
    entries = s.made ++ (s.begun ++ l.entries);
    grew = has_grown shows start now new link closes faults faults' e s l.entries l.grew;
    served = left_so shows start now new link closes faults faults' e s moment after shown cause l;
  }

  -- an act of leaving ran out of memory
  pub serves_short : LeftInPart (departing now.memory) moment now.state new
      → ServesLink shows end.Memory start.state (record {
        tale = start.link;
        faults = faults;
      }) new (record { tale = link; faults = faults' })
  serves_short l = record {
    entries = s.made ++ (s.begun ++ l.entries);
    grew = has_grown shows start now new link closes faults faults' e s l.entries l.grew;
    served =
        part shows start now new link closes faults faults' e s l.entries cause
        (parts_short shows start now new link closes faults faults' e s l.entries moment shown
        (passes_here shows start now new link closes faults faults' e s moment l.entries l.passes));
  }
