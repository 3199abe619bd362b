-- What a session makes is fixed: by its course, by the acts that it asks for, and by the state in which it makes them.
use Rattle.std.proofs.Common.{◌≡◌, ℕ, List, [], ◌∷◌, ◌++◌, map, Some, refl, sym, ap, subst, ◌∙◌}
use Rattle.std.proofs.lemmas.Option.{same_Some}
use Rattle.histories.specs.declared.entry.Entry.{Entry}
use Rattle.histories.specs.Core.{reply, after}
use Rattle.histories.specs.History.{state, Legal}
use Rattle.histories.proofs.Histories.{legal_front, legal_back}
use Rattle.one_server.specs.declared.act.Timed.{Timed}
use Rattle.one_server.specs.declared.part.Part.{Part}
use Rattle.one_server.specs.declared.reply.Reply.{Reply}
use Rattle.one_server.specs.House.{house}
use Rattle.one_server.specs.Running.{Log}
use Rattle.session_core.specs.Course.{Course, Done, Asks, Writes, Follows}
use Rattle.session_core.specs.Memory.{MemoryState}
use Rattle.session_core.specs.Going.{departing}
use Rattle.replay_core.specs.declared.script.ScriptEvent.{ScriptEvent}
use Rattle.cmd_replay.specs.Evening.{EventDoes, LeaveInOrder, asked_of, bytes_of, course_of}

-- an entry is fixed by its session, its act and its reply
same_entry : (one other : Entry Timed Reply) → one.session ≡ other.session → one.act ≡ other.act
    → one.reply ≡ other.reply → one ≡ other
same_entry one other session act reply =
    ap (λ (n : ℕ). record one { session = n }) session
    ∙ ap (λ (a : Timed). record one { session = other.session; act = a }) act
    ∙ ap (λ (r : Reply). record other { reply = r }) reply

-- in one state the reply to an act is fixed
same_reply : (parts : List Part) (one other : Entry Timed Reply) → one.session ≡ other.session → one.act ≡ other.act
    → reply house parts one.session one.act ≡ Some one.reply
    → reply house parts other.session other.act ≡ Some other.reply → one.reply ≡ other.reply
same_reply parts one other session act told told' =
    same_Some one.reply other.reply (sym told ∙ ap (λ (n : ℕ). reply house parts n one.act) session
    ∙ ap (reply house parts other.session) act ∙ told')

-- so an entry is fixed by who asks for what
pub one_entry : (parts : List Part) (one other : Entry Timed Reply) → one.session ≡ other.session → one.act ≡ other.act
    → reply house parts one.session one.act ≡ Some one.reply
    → reply house parts other.session other.act ≡ Some other.reply → one ≡ other
one_entry parts one other session act told told' =
    same_entry one other session act (same_reply parts one other session act told told')

-- the entries of one course and one state are the same, and so are the texts, and what is remembered
pub one_following : (course : Course) (session moment : ℕ) (parts : List Part) (made other : Log) (text text' : List ℕ)
    (memory memory' : MemoryState)
    → Follows course session moment made text memory → Follows course session moment other text' memory'
    → Legal house parts made → Legal house parts other
    → (made ≡ other) × (text ≡ text') × (memory ≡ memory')
one_following (Done kept) session moment parts made other text text' memory memory' f g l m =
    (f.0 ∙ sym g.0, f.1 ∙ sym g.1, f.2 ∙ sym g.2)
one_following (Writes put rest) session moment parts made other text text' memory memory' f g l m =
    let rests = one_following rest session moment parts made other f.0 g.0 memory memory' f.2 g.2 l m in
    (rests.0, f.1 ∙ ap (λ (t : List ℕ). put ++ t) rests.1 ∙ sym g.1, rests.2)
one_following (Asks act rest) session moment parts [] other text text' memory memory' f g l m = absurd f
one_following (Asks act rest) session moment parts (e ∷ made) [] text text' memory memory' f g l m = absurd g
one_following (Asks act rest) session moment parts (e ∷ made) (d ∷ other) text text' memory memory' f g l m =
    let who : e.session ≡ d.session =
    ap (λ (x : Entry Timed Reply). x.session) f.0 ∙ sym (ap (λ (x : Entry Timed Reply). x.session) g.0) in
    let what : e.act ≡ d.act =
    ap (λ (x : Entry Timed Reply). x.act) f.0 ∙ sym (ap (λ (x : Entry Timed Reply). x.act) g.0) in
    let same : e ≡ d = one_entry parts e d who what l.1 m.1 in
    let follows : Follows (rest e.reply) session moment other text' memory' =
    subst (λ (x : Entry Timed Reply). Follows (rest x.reply) session moment other text' memory') (sym same) g.1 in
    let legal : Legal house (after house parts e.session e.act) other =
    subst (λ (x : Entry Timed Reply). Legal house (after house parts x.session x.act) other) (sym same) m.2 in
    let rests =
    one_following (rest e.reply) session moment (after house parts e.session e.act) made other text text'
    memory memory' f.1 follows l.2 legal in
    (ap (λ (x : Entry Timed Reply). x ∷ made) same ∙ ap (λ (xs : Log). d ∷ xs) rests.0, rests.1, rests.2)

-- what an event does in one state is the same
pub one_doing : (what : ScriptEvent) (before : MemoryState) (session moment : ℕ) (parts : List Part) (made other : Log)
    (bytes bytes' : List ℕ) (after after' : MemoryState)
    → EventDoes what before session moment made bytes after → EventDoes what before session moment other bytes' after'
    → Legal house parts made → Legal house parts other
    → (made ≡ other) × (bytes ≡ bytes') × (after ≡ after')
one_doing what before session moment parts made other bytes bytes' after after' h k l m =
    let same =
    one_following (course_of what before) session moment parts made other h.text k.text after after'
    h.follows k.follows l m in (
      same.0,
      h.answer ∙ ap (λ (t : List ℕ). bytes_of what before after t) same.1
          ∙ ap (λ (a : MemoryState). bytes_of what before a k.text) same.2 ∙ sym k.answer,
      same.2,
    )

-- the entries of one list of acts and one state are the same
pub one_asking : (parts : List Part) (made other : Log) → map asked_of made ≡ map asked_of other
    → Legal house parts made → Legal house parts other → made ≡ other
one_asking parts [] [] e l m = refl
one_asking parts [] (d ∷ other) e l m = absurd cc
one_asking parts (e ∷ made) [] h l m = absurd cc
one_asking parts (e ∷ made) (d ∷ other) h l m =
    let first : asked_of e ≡ asked_of d = cc in
    let rest : map asked_of made ≡ map asked_of other = cc in
    let same : e ≡ d = one_entry parts e d (ap (λ (p : ℕ × Timed). p.0) first)
    (ap (λ (p : ℕ × Timed). p.1) first) l.1 m.1 in
    let legal : Legal house (after house parts e.session e.act) other =
    subst (λ (x : Entry Timed Reply). Legal house (after house parts x.session x.act) other) (sym same) m.2 in
    ap (λ (x : Entry Timed Reply). x ∷ made) same
    ∙ ap (λ (xs : Log). d ∷ xs) (one_asking (after house parts e.session e.act) made other rest l.2 legal)

-- the entries of sessions that leave one after the other are the same in one state
pub one_leaving : (remember : ℕ → MemoryState) (moment : ℕ) (sessions : List ℕ) (parts : List Part) (made other : Log)
    → LeaveInOrder remember moment sessions made → LeaveInOrder remember moment sessions other
    → Legal house parts made → Legal house parts other → made ≡ other
one_leaving remember moment [] parts made other f g l m = f ∙ sym g
one_leaving remember moment (session ∷ sessions) parts made other f g l m =
    let whole : Legal house parts (f.0 ++ f.1) = subst (Legal house parts) f.3 l in
    let whole' : Legal house parts (g.0 ++ g.1) = subst (Legal house parts) g.3 m in
    let own : f.0 ≡ g.0 =
    (one_following (departing (remember session)) session moment parts f.0 g.0 [] [] f.2 g.2 f.4 g.4
    (legal_front house parts f.0 f.1 whole) (legal_front house parts g.0 g.1 whole')).0 in
    let later : Legal house (state house parts f.0) g.1 =
    subst (λ (h : Log). Legal house (state house parts h) g.1) (sym own) (legal_back house parts g.0 g.1 whole') in
    let others : f.1 ≡ g.1 =
    one_leaving remember moment sessions (state house parts f.0) f.1 g.1 f.5 g.5
    (legal_back house parts f.0 f.1 whole) later in
    f.3 ∙ ap (λ (h : Log). h ++ f.1) own ∙ ap (λ (h : Log). g.0 ++ h) others ∙ sym g.3
