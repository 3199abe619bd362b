-- Steps one after another: how loops go on, that steps lead to one end, and that the history stays legal.
use Rattle.std.proofs.Common.{◌≡◌, ℕ, suc, ◌+◌, ◌-◌, List, [], ◌∷◌, ◌++◌, codes, slice_set, refl, sym, ap, subst, ◌∙◌, arith}
use Rattle.std.proofs.lemmas.Option.{same_Some}
use Rattle.histories.specs.History.{Legal}
use Rattle.histories.proofs.Histories.{legal_back}
use Rattle.one_server.specs.declared.part.Part.{Part}
use Rattle.one_server.specs.House.{house}
use Rattle.one_server.specs.Running.{Log}
use Rattle.one_server.specs.Server.{ServerState, parts_in}
use Rattle.cmd_replay.specs.Evening.{EventDoes, opening_parts}
use Rattle.cmd_replay.specs.FollowingProof.{one_doing}
use Rattle.replay_core.specs.declared.script.ScriptEvent.{ScriptEvent}
use Rattle.replay_core.specs.declared.script.ScriptEvent.TheVariants as event
use Rattle.session_core.specs.Memory.{MemoryState}
use Rattle.cmd_demo.specs.Demo.{Comes, Connects, DemoState, Enters, Go, StepGoes, IsDemo, Quits, Step, Turns, demo_steps, all_entering, quitting, start, turn_of, turns_of, with_turn}

-- steps, and then others
pub go_then : (one two : List Step) (old mid new : DemoState) → Go one old mid → Go two mid new
    → Go (one ++ two) old new
go_then [] two old mid new g h = subst (λ (from : DemoState). Go two from new) g h
go_then (step ∷ one) two old mid new g h = (g.0, g.1, go_then one two g.0 mid new g.2 h)

-- one step
pub go_one : (step : Step) (old new : DemoState) → StepGoes step old new → Go (step ∷ []) old new
go_one step old new g = (new, g, refl)

-- ---- loops

next_of : (count : ℕ) → suc count ≡ count + 1
next_of count = omega arith

pub none_entered : (at : DemoState) → Go (all_entering 0) at at
unfolding all_entering
none_entered at = refl

pub one_enters : (count : ℕ) (old mid new : DemoState) → Go (all_entering count) old mid
    → Go (Connects (count + 1) ∷ Enters (count + 1) ∷ []) mid new → Go (all_entering (count + 1)) old new
unfolding all_entering
one_enters count old mid new g h =
    subst (λ (n : ℕ). Go (all_entering n) old new) (next_of count)
    (go_then (all_entering count) (Connects (count + 1) ∷ Enters (count + 1) ∷ []) old mid new g h)

pub no_turns : (at : DemoState) → Go (turns_of 0) at at
unfolding turns_of
no_turns at = refl

pub one_turn : (count : ℕ) (old mid new : DemoState) → Go (turns_of count) old mid → StepGoes Turns mid new
    → Go (turns_of (count + 1)) old new
unfolding turns_of
one_turn count old mid new g h =
    subst (λ (n : ℕ). Go (turns_of n) old new) (next_of count)
    (go_then (turns_of count) (Turns ∷ []) old mid new g (go_one Turns mid new h))

pub none_quits : (at : DemoState) → Go (quitting 0) at at
unfolding quitting
none_quits at = refl

pub one_quits : (count : ℕ) (old mid new : DemoState) → Go (quitting count) old mid
    → StepGoes (Quits (count + 1)) mid new
    → Go (quitting (count + 1)) old new
unfolding quitting
one_quits count old mid new g h =
    subst (λ (n : ℕ). Go (quitting n) old new) (next_of count)
    (go_then (quitting count) (Quits (count + 1) ∷ []) old mid new g (go_one (Quits (count + 1)) mid new h))

-- the whole
pub all_go : (old one two new : DemoState) → Go (all_entering 40) old one → Go (turns_of 4000) one two
    → Go (quitting 40) two new → Go demo_steps old new
unfolding demo_steps
all_go old one two new e t q =
    go_then (all_entering 40 ++ turns_of 4000) (quitting 40) old two new
    (go_then (all_entering 40) (turns_of 4000) old one two e t) q

-- ---- one end

same_state : (one other : DemoState) → one.server ≡ other.server → one.memories ≡ other.memories
    → one.number ≡ other.number → one.moment ≡ other.moment → one ≡ other
same_state one other server memories number moment =
    ap (λ (s : ServerState). record one { server = s }) server
    ∙ ap (λ (m : List MemoryState). record one { server = other.server; memories = m }) memories
    ∙ ap (λ (n : ℕ). record other { number = n; moment = one.moment }) number
    ∙ ap (λ (t : ℕ). record other { moment = t }) moment

-- what an event made is legal where it came
own_legal : (session : ℕ) (what : ScriptEvent) (old new : DemoState) (c : Comes session what old new)
    → Legal house (parts_in old.server) c.answered.entries
own_legal session what old new c =
    legal_back house old.server.opening old.server.log c.answered.entries
    (subst (λ (s : ServerState). Legal house s.opening s.log) c.answered.more c.legal)

one_coming : (session : ℕ) (what : ScriptEvent) (old new other : DemoState) → Comes session what old new
    → Comes session what old other → new ≡ other
one_coming session what old new other c d =
    let knew : c.before ≡ d.before = same_Some c.before d.before (sym c.knew ∙ d.knew) in
    let does : EventDoes what c.before session old.moment d.answered.entries d.bytes d.after =
    subst (λ (m : MemoryState). EventDoes what m session old.moment d.answered.entries d.bytes d.after) (sym knew)
    d.answered.does in
    let same =
    one_doing what c.before session old.moment (parts_in old.server) c.answered.entries d.answered.entries c.bytes
    d.bytes c.after d.after c.answered.does does
    (own_legal session what old new c) (own_legal session what old other d) in
    same_state new other
    (c.answered.more ∙ ap (λ (l : Log). record old.server { log = old.server.log ++ l }) same.0 ∙ sym d.answered.more)
    (c.memories ∙ ap (λ (m : MemoryState). slice_set old.memories (session - 1) m) same.2 ∙ sym d.memories)
    (c.number ∙ sym d.number) (c.moment ∙ sym d.moment)

one_step : (step : Step) (old new other : DemoState) → StepGoes step old new → StepGoes step old other → new ≡ other
one_step (Connects session) old new other g h = one_coming session event.Connect old new other g h
one_step (Enters session) old new other g h = one_coming session (event.Plain (codes "guest")) old new other g h
one_step Turns old new other g h =
    one_coming (turn_of old).session (turn_of old).said.event (with_turn (turn_of old) old) new other g h
one_step (Quits session) old new other g h = one_coming session (event.Plain (codes "quit")) old new other g h

one_going : (steps : List Step) (old new other : DemoState) → Go steps old new → Go steps old other → new ≡ other
one_going [] old new other g h = g ∙ sym h
one_going (step ∷ steps) old new other g h =
    let mid : g.0 ≡ h.0 = one_step step old g.0 h.0 g.1 h.1 in
    one_going steps g.0 new other g.2 (subst (λ (at : DemoState). Go steps at other) (sym mid) h.2)

-- a number makes one history
pub one_history : (number : ℕ) (log other : Log) → IsDemo number log → IsDemo number other → log ≡ other
one_history number log other d e =
    d.history ∙ ap (λ (at : DemoState). at.server.log) (one_going demo_steps (start number) d.end e.end d.goes e.goes)
    ∙ sym e.history

-- ---- legal histories

-- the server opened so, and its history is legal
record HasOpened (at : DemoState) : Type 0 where
  opening : at.server.opening ≡ opening_parts
  legal : Legal house at.server.opening at.server.log

comes_opened : (session : ℕ) (what : ScriptEvent) (old new : DemoState) → Comes session what old new
    → old.server.opening ≡ opening_parts → HasOpened new
comes_opened session what old new c opened = record {
  opening = ap (λ (s : ServerState). s.opening) c.answered.more ∙ opened;
  legal = c.legal;
}

goes_opened : (step : Step) (old new : DemoState) → StepGoes step old new → old.server.opening ≡ opening_parts
    → HasOpened new
goes_opened (Connects session) old new g opened = comes_opened session event.Connect old new g opened
goes_opened (Enters session) old new g opened = comes_opened session (event.Plain (codes "guest")) old new g opened
goes_opened Turns old new g opened =
    comes_opened (turn_of old).session (turn_of old).said.event (with_turn (turn_of old) old) new g opened
goes_opened (Quits session) old new g opened = comes_opened session (event.Plain (codes "quit")) old new g opened

go_opened : (steps : List Step) (old new : DemoState) → Go steps old new → HasOpened old → HasOpened new
go_opened [] old new g h = subst HasOpened (sym g) h
go_opened (step ∷ steps) old new g h = go_opened steps g.0 new g.2 (goes_opened step old g.0 g.1 h.opening)

-- the history of a number is legal
pub legal_history : (number : ℕ) (log : Log) → IsDemo number log → Legal house opening_parts log
legal_history number log d =
    let at = go_opened demo_steps (start number) d.end d.goes (record { opening = refl; legal = tt }) in
    subst (λ (l : Log). Legal house opening_parts l) (sym d.history)
    (subst (λ (o : List Part). Legal house o d.end.server.log) at.opening at.legal)
