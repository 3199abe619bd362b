-- A link that is served, step by step.
use Rattle.std.proofs.Common.{◌≡◌, ℕ, ◌+◌, ◌^◌, rules, ◌<◌, ◌≤◌, Bool, true, false, ◌||◌, List, [], ◌∷◌, ◌++◌, length, map, take, refl, sym, ap, subst, ◌∙◌, append_assoc, append-nil, length-append, arith, inl, inr, Ok, Err, Result, option_to_list}
use Rattle.std.specs.declared.option.Option.{Option}
use Rattle.std.proofs.Math.Bool.{or-false, or-true}
use Rattle.std.proofs.lemmas.List.{length-map}
use Rattle.edge_traits.specs.declared.link.Heard.{Heard}
use Rattle.edge_traits.specs.declared.link.Heard.TheVariants as heard
use Rattle.edge_traits.specs.Link.{Byte, Extent, Pause, Reads, Sign, Tale, is_ended, signs_of}
use Rattle.edge_traits.specs.WhereTold.{WhereTold}
use Rattle.histories.specs.History.{IsPrefix}
use Rattle.histories.proofs.Histories.{prefix_more, prefix_refl}
use Rattle.line_reader.specs.declared.incoming.Incoming.{Incoming}
use Rattle.line_reader.specs.Reader.{GivesLine, LineReading, fresh, lines_to_come, rest_to_come}
use Rattle.one_server.specs.Running.{IsKnown, Log, Made, RunnerState}
use Rattle.session_core.specs.declared.input.Input.{Input}
use Rattle.session_core.specs.declared.input.Input.TheVariants.{Line, Quiet}
use Rattle.session_core.specs.Course.{Begins, Passes}
use Rattle.session_core.specs.Going.{Broke}
use Rattle.session_core.specs.Inputs.{input_course}
use Rattle.session_core.specs.Memory.{MemoryState, newcomer}
use Rattle.session_core.specs.Session.{leaving_course}
use Rattle.session_core.specs.Texts.{opening_text}
use Rattle.session_core.proofs.Going.{same_mark, same_number}
use Rattle.one_server.proofs.Made.{made_none, made_then}
use Rattle.link_core.specs.declared.link_end.LinkEnd.{LinkEnd}
use Rattle.link_core.specs.declared.link_end.LinkEnd.TheVariants as end
use Rattle.link_core.specs.Arrivals.{bytes_of, inputs_of, lines_behind}
use Rattle.link_core.specs.ServedWhole.{Covers, HasWritten, NotRead, WritesPart}
use Rattle.link_core.specs.Steps.{AfterAnswer, AfterStep, AfterWrite, AnsweredPart, AnsweredWhole, Behind, EndsReading, Halfway, InputAnswered, IsDrained, Progress, Stand, Stops, TellsOpen, WasRead, Written, WrittenPart}
use Rattle.link_core.specs.Talk.{Answers, IsShown, Talks, joined}
use Rattle.link_core.proofs.Arriving.{behind_reader, bytes_more, bytes_pause, come_bytes, come_end, come_pause, fed_lines, fed_rest}
use Rattle.link_core.proofs.Tales.{where_map, where_then, tells_more, written_none}
use Rattle.link_core.proofs.Talking.{HasLast, joined_then, last_of, prefix_further, talks_then}

-- the texts that a session has written, its opening among them
abbrev pub said : List (List ℕ) → List ℕ
said pieces = joined (opening_text ∷ pieces)

-- all pieces count as written but for the end of the last
pub whole_part : (pieces : List (List ℕ)) → WritesPart (opening_text ∷ pieces) (said pieces)
whole_part pieces =
    let l : HasLast (opening_text ∷ pieces) = last_of opening_text pieces in
    record {
      whole = l.whole;
      last = l.last;
      part = l.last;
      pieces_are = l.is;
      part_of = prefix_refl l.last;
      written_is = ap joined l.is ∙ joined_then l.whole l.last;
    }

-- more was made and written since the last read
read_more : (shows : ℕ → Bool) (session : ℕ) (taken : List Sign) (e : Bool) (made now : Log) (written put : List ℕ)
    (from there here : Option Tale)
    → Written put there here
    → WasRead shows session taken e made written from there
    → WasRead shows session taken e (made ++ now) (written ++ put) from here
read_more shows session taken e made now written put from there here w (inl n) = inl (record {
  nothing = n.nothing;
  no_end = n.no_end;
  same = where_then from there here n.same w (λ x y z p q. ap (λ (t : Tale). t.at_read) q ∙ p);
})
read_more shows session taken e made now written put from there here w (inr l) = inr (record {
  signs = l.signs;
  made = l.made;
  pieces = l.pieces;
  memory = l.memory;
  talked = l.talked;
  taken_first = l.taken_first;
  made_first = prefix_further l.made made now l.made_first;
  written_first = prefix_further (said l.pieces) written put l.written_first;
  at = where_then from there here l.at w (λ x y z p q. ap (λ (t : Tale). t.at_read) q ∙ p);
})

-- the answer of a session that has made acts is one of the session that began
answers_here : (shows : ℕ → Bool) (first there : RunnerState) (made : Log) (input : Input) (before : MemoryState)
    (now : Log) (piece : List ℕ) (after : MemoryState)
    → Made first made there
    → Answers shows there.number input before now piece after
    → Answers shows first.number input before now piece after
answers_here shows first there made input before now piece after grew a =
    subst (λ (n : ℕ). Answers shows n input before now piece after) (same_number first there made grew) a

abbrev extent : ℕ → ℕ → Bool → Extent
extent t w e = record { taken = t; written = w; ended = e }

extent_is : (t t' w w' : ℕ) (e e' : Bool) → t ≡ t' → w ≡ w' → e ≡ e' → extent t w e ≡ extent t' w' e'
extent_is t t' w w' e e' p q r =
    ap (λ (x : ℕ). extent x w e) p ∙ ap (λ (x : ℕ). extent t' x e) q ∙ ap (λ (x : Bool). extent t' w' x) r

not_ended : false ≡ true → ⊥
not_ended is = cc

opened : (put : List ℕ) (from link : Option Tale) → Written put from link
    → WhereTold from link (TellsOpen [] false put)
opened put from link w = where_map from link w (λ x y q. record {
  taken_is = ap (λ (t : Tale). t.taken) q ∙ sym (append-nil x.taken);
  left_is = sym (ap (λ (t : Tale). t.left) q);
  none_left = λ is. absurd (not_ended is);
  ended_is = ap (λ (t : Tale). t.ended) q ∙ sym (or-false x.ended);
  written_is = ap (λ (t : Tale). t.written) q;
  closed_is = ap (λ (t : Tale). t.closed) q;
})

not_read : (put : List ℕ) (from link : Option Tale) → Written put from link → NotRead [] false from link
not_read put from link w =
    record {
      nothing = refl;
      no_end = refl;
      same = where_map from link w (λ x y q. ap (λ (t : Tale). t.at_read) q);
    }

opening_part : (from link : Option Tale) (w : WrittenPart opening_text from link)
    → WritesPart (opening_text ∷ []) w.put
opening_part from link w =
    record {
      whole = [];
      last = opening_text;
      part = w.put;
      pieces_are = refl;
      part_of = w.part_of;
      written_is = refl;
    }

module _ {shows : ℕ → Bool} {start : Stand} where
  -- the reading ends behind answered inputs
  module _ {now : Stand} {taken : List Sign} {e : Bool} {due : List Input} (h : Halfway shows start now taken e due)
    where
      stops_at : (end : LinkEnd)
          → Covers end h.inputs (inputs_of taken e)
          → Behind end shows start.state.mark start.state.number h.inputs (inputs_of taken e) now.memory now.memory []
          → HasWritten end (opening_text ∷ h.pieces) (said h.pieces) → EndsReading end taken e now.memory
          → Stops shows end start now
      stops_at end come behind writes ends = record {
        taken = taken;
        is_ended = e;
        written = said h.pieces;
        tells = h.tells;
        inputs = h.inputs;
        made = h.made;
        pieces = h.pieces;
        memory = now.memory;
        talked = h.talked;
        come = come;
        begun = [];
        grew = subst (λ (l : Log). Made start.state l now.state) (sym (append-nil h.made)) h.grew;
        behind = behind;
        writes = writes;
        read =
            subst (λ (l : Log). WasRead shows start.state.number taken e l (said h.pieces) start.link now.link)
            (sym (append-nil h.made)) h.read;
        ends = ends;
      }

      -- memory ran out, and nothing was made behind the answered inputs
      pub stops_memory : Stops shows end.Memory start now
      stops_memory =
          stops_at end.Memory (due, sym h.come) (inl (inl (refl, refl))) (whole_part h.pieces) tt

  -- more was written to the link
  module _ {now : Stand} {taken : List Sign} {e : Bool} {due : List Input} (h : Halfway shows start now taken e due)
      (link : Option Tale) (put : List ℕ) (w : Written put now.link link) where
    told_further : WhereTold start.link link (TellsOpen taken e (said h.pieces ++ put))
    told_further = tells_more taken e (said h.pieces) put start.link now.link link h.tells w

    read_further : (more : Log)
        → WasRead shows start.state.number taken e (h.made ++ more) (said h.pieces ++ put) start.link link
    read_further more =
        read_more shows start.state.number taken e h.made more (said h.pieces) put start.link now.link link w h.read

  -- behind what was answered another input was
  module _ {now new : Stand} {taken : List Sign} {e : Bool} {input : Input} {due : List Input}
      (h : Halfway shows start now taken e (input ∷ due)) where
    module _ {piece : List ℕ} (a : InputAnswered shows input now new piece) where
      grew_by : Made start.state (h.made ++ a.made) new.state
      grew_by = made_then start.state now.state new.state h.made a.made h.grew a.grew

      talked_on : Talks shows start.state.number (h.inputs ++ input ∷ []) newcomer (h.made ++ a.made)
          (h.pieces ++ piece ∷ []) new.memory
      talked_on =
          talks_then shows start.state.number h.inputs input newcomer now.memory new.memory h.made a.made h.pieces piece
          h.talked
          (answers_here shows start.state now.state h.made input now.memory a.made piece new.memory h.grew a.answers)

    -- and its answer was written
    pub answered_one : AnsweredWhole shows input now new → Halfway shows start new taken e due
    answered_one a =
        let text : said (h.pieces ++ a.piece ∷ []) ≡ said h.pieces ++ a.piece =
        joined_then (opening_text ∷ h.pieces) a.piece in
        record {
          inputs = h.inputs ++ input ∷ [];
          made = h.made ++ a.answered.made;
          pieces = h.pieces ++ a.piece ∷ [];
          grew = grew_by a.answered;
          tells =
              subst (λ (l : List ℕ). WhereTold start.link new.link (TellsOpen taken e l)) (sym text)
              (told_further h new.link a.piece a.wrote);
          talked = talked_on a.answered;
          come = h.come ∙ sym (append_assoc h.inputs (input ∷ []) due);
          read =
              subst
              (λ (l : List ℕ). WasRead shows start.state.number taken e (h.made ++ a.answered.made) l start.link
              new.link)
              (sym text) (read_further h new.link a.piece a.wrote a.answered.made);
        }

    -- or a prefix of it was
    stopped_part : (end : LinkEnd) → AnsweredPart shows input now new
        → ((inputs : List Input) → IsPrefix inputs (inputs_of taken e) → Covers end inputs (inputs_of taken e))
        → ((inputs : List Input)
        → Behind end shows start.state.mark start.state.number inputs (inputs_of taken e) new.memory new.memory [])
        → ((pieces : List (List ℕ)) (written : List ℕ) → WritesPart pieces written → HasWritten end pieces written)
        → EndsReading end taken e new.memory → Stops shows end start new
    stopped_part end a comes behind writes ends =
        let made : Log = h.made ++ a.answered.made in
        record {
          taken = taken;
          is_ended = e;
          written = said h.pieces ++ a.wrote.put;
          tells = told_further h new.link a.wrote.put a.wrote.wrote;
          inputs = h.inputs ++ input ∷ [];
          made = made;
          pieces = h.pieces ++ a.piece ∷ [];
          memory = new.memory;
          talked = talked_on a.answered;
          come = comes (h.inputs ++ input ∷ []) (due, append_assoc h.inputs (input ∷ []) due ∙ sym h.come);
          begun = [];
          grew = subst (λ (l : Log). Made start.state l new.state) (sym (append-nil made)) (grew_by a.answered);
          behind = behind (h.inputs ++ input ∷ []);
          writes = writes (opening_text ∷ (h.pieces ++ a.piece ∷ [])) (said h.pieces ++ a.wrote.put) (record {
            whole = opening_text ∷ h.pieces;
            last = a.piece;
            part = a.wrote.put;
            pieces_are = refl;
            part_of = a.wrote.part_of;
            written_is = refl;
          });
          read =
              subst
              (λ (l : Log). WasRead shows start.state.number taken e l (said h.pieces ++ a.wrote.put) start.link
              new.link)
              (sym (append-nil made)) (read_further h new.link a.wrote.put a.wrote.wrote a.answered.made);
          ends = ends;
        }

    -- the session ran out of memory in the midst of an input
    stopped_broke : (begun : Log) → Made now.state begun new.state → new.link ≡ now.link
        → Behind end.Memory shows start.state.mark start.state.number h.inputs (inputs_of taken e) now.memory new.memory
        begun
        → Stops shows end.Memory start new
    stopped_broke begun grew same behind =
        let wrote : Written [] now.link new.link = written_none now.link new.link same in
        let text : said h.pieces ++ [] ≡ said h.pieces = append-nil (said h.pieces) in
        record {
          taken = taken;
          is_ended = e;
          written = said h.pieces;
          tells =
              subst (λ (l : List ℕ). WhereTold start.link new.link (TellsOpen taken e l)) text
              (told_further h new.link [] wrote);
          inputs = h.inputs;
          made = h.made;
          pieces = h.pieces;
          memory = now.memory;
          talked = h.talked;
          come = (input ∷ due, sym h.come);
          begun = begun;
          grew = made_then start.state now.state new.state h.made begun h.grew grew;
          behind = behind;
          writes = whole_part h.pieces;
          read =
              subst (λ (l : List ℕ). WasRead shows start.state.number taken e (h.made ++ begun) l start.link new.link)
              text (read_further h new.link [] wrote begun);
          ends = tt;
        }

    stopped_there : (moment : ℕ) → IsShown shows moment → new.link ≡ now.link
        → Broke (input_course input now.memory) moment now.state now.memory new.state new.memory
        → Stops shows end.Memory start new
    stopped_there moment shown same (inl b) =
        stopped_broke b.entries b.grew same (inl (inr (record {
          next = input;
          more = due;
          come_is = h.come;
          moment = moment;
          shown = shown;
          begins =
              subst (λ (n : ℕ). Begins (input_course input now.memory) n moment b.entries)
              (same_number start.state now.state h.made h.grew) b.begins;
          remembers = b.remembers;
        })))
    stopped_there moment shown same (inr l) =
        stopped_broke l.part.entries l.part.grew same (inr (
          record {
            next = input;
            more = due;
            come_is = h.come;
            there = l.memory;
            quits = l.quits;
            moment = moment;
            shown = shown;
            passes =
                subst (λ (n : ℕ). Passes start.state.mark (leaving_course l.memory) n moment l.part.entries)
                (same_number start.state now.state h.made h.grew)
                (subst (λ (m : Bool). Passes m (leaving_course l.memory) now.state.number moment l.part.entries)
                (same_mark start.state now.state h.made h.grew) l.part.passes);
          },
          l.gone,
        ))

    -- the answer to an input was the last thing
    pub stopped_one : (end : LinkEnd) → AfterAnswer shows input now new (Err end) → Stops shows end start new
    stopped_one end.Quit a =
        let done : Halfway shows start new taken e due = answered_one a.0 in
        stops_at done end.Quit (due, sym done.come) (refl, refl) refl a.1
    stopped_one end.WriteFault a =
        stopped_part end.WriteFault a (λ inputs p. p) (λ inputs. (refl, refl)) (λ pieces written w. w) tt
    stopped_one end.Memory (inl a) =
        stopped_part end.Memory a (λ inputs p. p) (λ inputs. inl (inl (refl, refl))) (λ pieces written w. w) tt
    stopped_one end.Memory (inr b) = stopped_there b.moment b.shown b.same b.broke
    stopped_one end.End a = absurd a
    stopped_one end.ReadFault a = absurd a
    stopped_one end.Spent a = absurd a

  -- ---- reads

  -- the link was read, where all that came before was answered
  read_on : {now : Stand} {taken : List Sign} (h : Halfway shows start now taken false []) (what : Heard)
      (buf : List ℕ) (link : Option Tale) (e : Bool) (due : List Input)
      → WhereTold now.link link (Reads what buf)
      → ((before : Bool) → is_ended what (before || false) ≡ (before || e))
      → (e ≡ true → (y z : Tale) → Reads what buf y z → z.left ≡ [])
      → inputs_of (taken ++ signs_of what buf) e ≡ inputs_of taken false ++ due
      → Halfway shows start (record now { link = link }) (taken ++ signs_of what buf) e due
  read_on {now = now} {taken = taken} h what buf link e due r ends none comes =
      let signs = signs_of what buf in
      let all : inputs_of taken false ≡ h.inputs = h.come ∙ append-nil h.inputs in
      record {
        inputs = h.inputs;
        made = h.made;
        pieces = h.pieces;
        grew = h.grew;
        tells = where_then start.link now.link link h.tells r (λ x y z p q. record {
          taken_is = q.taken ∙ ap (λ (l : List Sign). l ++ signs) p.taken_is ∙ append_assoc x.taken taken signs;
          left_is = p.left_is ∙ ap (λ (l : List Sign). taken ++ l) q.left ∙ sym (append_assoc taken signs z.left);
          none_left = λ is. none is y z q;
          ended_is = q.ended ∙ ap (is_ended what) p.ended_is ∙ ends x.ended;
          written_is = q.written ∙ p.written_is;
          closed_is = q.closed ∙ p.closed_is;
        });
        talked = h.talked;
        come = comes ∙ ap (λ (l : List Input). l ++ due) all;
        read = inr (record {
          signs = taken;
          made = h.made;
          pieces = h.pieces;
          memory = now.memory;
          talked =
              subst (λ (l : List Input). Talks shows start.state.number l newcomer h.made h.pieces now.memory) (sym all)
              h.talked;
          taken_first = prefix_more taken signs;
          made_first = prefix_refl h.made;
          written_first = prefix_refl (said h.pieces);
          at = where_then start.link now.link link h.tells r (λ x y z p q.
              q.at_read
              ∙ extent_is (length y.taken) (length (x.taken ++ taken)) (length y.written)
              (length (x.written ++ said h.pieces)) y.ended x.ended
              (ap (λ (l : List Sign). length l) p.taken_is) (ap (λ (l : List ℕ). length l) p.written_is)
              (p.ended_is ∙ or-false x.ended));
        });
      }

  -- all was answered
  pub stops_end : {now : Stand} {taken : List Sign} → Halfway shows start now taken true []
      → Stops shows end.End start now
  stops_end h = stops_at h end.End (sym (h.come ∙ append-nil h.inputs)) (refl, refl) refl refl

  module _ {now : Stand} {reader : LineReading} {turns : ℕ} (p : Progress shows start now reader turns) where
    -- memory ran out of the reader
    pub stopped_reader : Stops shows end.Memory start now
    stopped_reader = stops_memory p.half

    -- a line was handed out, so it is the next input
    module _ (next : LineReading) (line : Incoming) (gives : GivesLine reader line next) where
      line_due : Halfway shows start now p.taken false (Line line ∷ map Line (lines_to_come next []))
      line_due = subst (λ (l : List Incoming). Halfway shows start now p.taken false (map Line l)) (gives []).0 p.half

      -- and was answered
      pub progress_line : {new : Stand} → AnsweredWhole shows (Line line) now new
          → Progress shows start new next turns
      progress_line a = record {
        taken = p.taken;
        half = answered_one line_due a;
        given = p.given ++ line ∷ [];
        along = λ more.
            p.along more ∙ ap (λ (l : List Incoming). p.given ++ l) (gives more).0
            ∙ sym (append_assoc p.given (line ∷ []) (lines_to_come next more));
        rest = λ more. p.rest more ∙ (gives more).1;
        many = p.many;
      }

      -- or its answer was the last thing
      pub stopped_line : (end : LinkEnd) {new : Stand} → AfterAnswer shows (Line line) now new (Err end)
          → Stops shows end start new
      stopped_line end a = stopped_one line_due end a

    -- no line waits, so no input does
    module _ (drained : IsDrained reader) where
      drained_half : Halfway shows start now p.taken false []
      drained_half =
          subst (λ (l : List Incoming). Halfway shows start now p.taken false (map Line l)) drained.0 p.half

      -- bytes came, and were fed to the reader
      pub progress_bytes : (n : ℕ) (buf : List ℕ) (link : Option Tale)
          → WhereTold now.link link (Reads (heard.Bytes n) buf) → 0 < length (take n buf)
          → Progress shows start (record now { link = link }) (record reader { fed = reader.fed ++ take n buf })
          (turns + 1)
      progress_bytes n buf link r some =
          let bytes = take n buf in
          let fed : LineReading = record reader { fed = reader.fed ++ bytes } in
          let lines : lines_behind (bytes_of p.taken) bytes ≡ lines_to_come fed [] =
          behind_reader (bytes_of p.taken) bytes p.given reader p.along drained.0 in
          let text : (more : List ℕ) → bytes_of (p.taken ++ map Byte bytes) ++ more
          ≡ bytes_of p.taken ++ (bytes ++ more) =
          λ more.
          ap (λ (l : List ℕ). l ++ more) (bytes_more p.taken bytes) ∙ append_assoc (bytes_of p.taken) bytes more in
          record {
            taken = p.taken ++ map Byte bytes;
            half =
                read_on drained_half (heard.Bytes n) buf link false (map Line (lines_to_come fed [])) r
                (λ before. refl) (λ is. absurd (not_ended is))
                (come_bytes p.taken bytes ∙ ap (λ (l : List Incoming). inputs_of p.taken false ++ map Line l) lines);
            given = p.given;
            along = λ more.
                ap (lines_to_come fresh) (text more) ∙ p.along (bytes ++ more)
                ∙ ap (λ (l : List Incoming). p.given ++ l) (sym (fed_lines reader bytes more));
            rest = λ more.
                ap (rest_to_come fresh) (text more) ∙ p.rest (bytes ++ more) ∙ sym (fed_rest reader bytes more);
            many = omega (arith, p.many, some, length-append p.taken (map Byte bytes), length-map bytes Byte);
          }

      -- a pause came
      module _ (buf : List ℕ) (link : Option Tale) (r : WhereTold now.link link (Reads heard.Quiet buf)) where
        pause_due : Halfway shows start (record now { link = link }) (p.taken ++ Pause ∷ []) false (Quiet ∷ [])
        pause_due =
            read_on drained_half heard.Quiet buf link false (Quiet ∷ []) r (λ before. refl)
            (λ is. absurd (not_ended is)) (come_pause p.taken)

        progress_quiet : (new : Stand) → AnsweredWhole shows Quiet (record now { link = link }) new
            → Progress shows start new reader (turns + 1)
        progress_quiet new a =
            let text : (more : List ℕ) → bytes_of (p.taken ++ Pause ∷ []) ++ more ≡ bytes_of p.taken ++ more = λ more.
            ap (λ (l : List ℕ). l ++ more) (bytes_pause p.taken) in
            record {
              taken = p.taken ++ Pause ∷ [];
              half =
                  subst (λ (l : List Incoming). Halfway shows start new (p.taken ++ Pause ∷ []) false (map Line l))
                  (sym drained.0) (answered_one pause_due a);
              given = p.given;
              along = λ more. ap (lines_to_come fresh) (text more) ∙ p.along more;
              rest = λ more. ap (rest_to_come fresh) (text more) ∙ p.rest more;
              many = omega (arith, p.many, length-append p.taken (Pause ∷ []));
            }

        pub quiet_step : (result : Result (Unit {0}) LinkEnd) (new : Stand)
            → AfterAnswer shows Quiet (record now { link = link }) new result
            → AfterStep shows start new reader (turns + 1) result
        quiet_step (Ok u) new a = progress_quiet new a
        quiet_step (Err end) new a = stopped_one pause_due end a

      -- the end came
      pub end_due : (buf : List ℕ) (link : Option Tale) → WhereTold now.link link (Reads heard.End buf)
          → Halfway shows start (record now { link = link }) (p.taken ++ []) true
          (map Line (option_to_list (rest_to_come reader [])))
      end_due buf link r =
          let rest : rest_to_come fresh (bytes_of (p.taken ++ [])) ≡ rest_to_come reader [] =
          ap (λ (l : List Sign). rest_to_come fresh (bytes_of l)) (append-nil p.taken)
          ∙ ap (rest_to_come fresh) (sym (append-nil (bytes_of p.taken))) ∙ p.rest [] in
          read_on drained_half heard.End buf link true (map Line (option_to_list (rest_to_come reader []))) r
          (λ before. sym (or-true before)) (λ is y z q. sym q.left ∙ q.end)
          (come_end (p.taken ++ [])
          ∙ ap
          (λ (l : List Sign).
          inputs_of l false ++ map Line (option_to_list (rest_to_come fresh (bytes_of (p.taken ++ [])))))
          (append-nil p.taken)
          ∙ ap (λ (o : Option Incoming). inputs_of p.taken false ++ map Line (option_to_list o)) rest)

      -- the read failed
      pub stops_failed : (buf : List ℕ) (link : Option Tale) → WhereTold now.link link (Reads heard.Failed buf)
          → Stops shows end.ReadFault start (record now { link = link })
      stops_failed buf link r =
          let h : Halfway shows start (record now { link = link }) (p.taken ++ []) false [] =
          read_on drained_half heard.Failed buf link false [] r (λ before. refl) (λ is. absurd (not_ended is))
          (ap (λ (l : List Sign). inputs_of l false) (append-nil p.taken)
          ∙ sym (append-nil (inputs_of p.taken false))) in
          stops_at h end.ReadFault (sym (h.come ∙ append-nil h.inputs)) (refl, refl) refl tt

      -- the link was read as often as it may be
      pub stops_spent : 2 ^ 40 ≤ turns → Stops shows end.Spent start now
      stops_spent most =
          stops_at drained_half end.Spent (sym (drained_half.come ∙ append-nil drained_half.inputs)) (refl, refl) refl
          (omega (arith, most, p.many))

  -- ---- the opening

  -- it was written, and nothing has come yet
  module _ (link : Option Tale) (known : IsKnown start.state) (new : start.memory ≡ newcomer) where
    pub progress_none : Written opening_text start.link link
        → Progress shows start (record start { link = link }) fresh 0
    progress_none w = record {
      taken = [];
      half = record {
        inputs = [];
        made = [];
        pieces = [];
        grew = made_none start.state known;
        tells =
            subst (λ (l : List ℕ). WhereTold start.link link (TellsOpen [] false l)) (sym (append-nil opening_text))
            (opened opening_text start.link link w);
        talked = (refl, refl, new);
        come = refl;
        read = inl (not_read opening_text start.link link w);
      };
      given = [];
      along = λ more. refl;
      rest = λ more. refl;
      many = search rules;
    }

    -- it was written in part, or not at all
    stops_none : (end : LinkEnd) (w : WrittenPart opening_text start.link link) → Covers end [] []
        → Behind end shows start.state.mark start.state.number [] [] start.memory start.memory []
        → HasWritten end (opening_text ∷ []) w.put → EndsReading end [] false start.memory
        → Stops shows end start (record start { link = link })
    stops_none end w comes behind writes ends = record {
      taken = [];
      is_ended = false;
      written = w.put;
      tells = opened w.put start.link link w.wrote;
      inputs = [];
      made = [];
      pieces = [];
      memory = start.memory;
      talked = (refl, refl, new);
      come = comes;
      begun = [];
      grew = made_none start.state known;
      behind = behind;
      writes = writes;
      read = inl (not_read w.put start.link link w.wrote);
      ends = ends;
    }

    pub stops_opening_memory : WrittenPart opening_text start.link link
        → Stops shows end.Memory start (record start { link = link })
    stops_opening_memory w =
        stops_none end.Memory w (prefix_refl []) (inl (inl (refl, refl))) (opening_part start.link link w) tt

    pub stops_opening : (end : LinkEnd) → AfterWrite opening_text start.link link (Err end)
        → Stops shows end start (record start { link = link })
    stops_opening end.WriteFault w =
        stops_none end.WriteFault w (prefix_refl []) (refl, refl) (opening_part start.link link w) tt
    stops_opening end.Memory w = stops_opening_memory w
    stops_opening end.Quit w = absurd w
    stops_opening end.End w = absurd w
    stops_opening end.ReadFault w = absurd w
    stops_opening end.Spent w = absurd w
