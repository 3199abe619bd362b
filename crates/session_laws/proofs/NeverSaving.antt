-- A course that has no act which tells save orders as saved: whoever goes by it tells none.
use Rattle.std.proofs.Common.{ℕ, Bool, List, [], ◌∷◌, ◌++◌, if◌then◌else◌, true, false, sym, subst, inl, inr}
use Rattle.histories.specs.declared.entry.Entry.{Entry}
use Rattle.one_server.specs.declared.act.Timed.{Timed}
use Rattle.one_server.specs.declared.reply.Reply.{Reply}
use Rattle.one_server.specs.Running.{Log}
use Rattle.session_core.specs.Course.{Course, Done, Asks, Writes, Begins, Follows, Passes, nothing_told}
use Rattle.session_core.specs.Memory.{MemoryState}
use Rattle.session_laws.specs.WhoSaves.{NoneSaves}
use Rattle.steward_core.specs.Agreement.{SaysSaved}

-- no act of the course tells orders as saved, whatever is replied
abbrev pub NeverSaves : Course → Type 0
NeverSaves (Done memory) = Unit {0}
NeverSaves (Writes text rest) = NeverSaves rest
NeverSaves (Asks act rest) = (SaysSaved act → ⊥) × ((r : Reply) → NeverSaves (rest r))

pub never_either : (t : Bool) (one other : Course) → NeverSaves one → NeverSaves other
    → NeverSaves (if t then one else other)
never_either true one other p q = p
never_either false one other p q = q

-- entries one behind the other
pub none_joined : (made more : Log) → NoneSaves made → NoneSaves more → NoneSaves (made ++ more)
none_joined [] more p q = q
none_joined (e ∷ made) more p q = (p.0, none_joined made more p.1 q)

module _ (session moment : ℕ) where
  pub none_followed : (course : Course) (made : Log) (text : List ℕ) (memory : MemoryState) → NeverSaves course
      → Follows course session moment made text memory → NoneSaves made
  none_followed (Done kept) made text memory never f = subst NoneSaves (sym f.0) tt
  none_followed (Writes put rest) made text memory never f = none_followed rest made f.0 memory never f.2
  none_followed (Asks act rest) [] text memory never f = tt
  none_followed (Asks act rest) (e ∷ made) text memory never f = (
    subst (λ (x : Entry Timed Reply). SaysSaved x.act.act → ⊥) (sym f.0) never.0,
    none_followed (rest e.reply) made text memory (never.1 e.reply) f.1,
  )

  pub none_begun : (course : Course) (made : Log) → NeverSaves course → Begins course session moment made
      → NoneSaves made
  none_begun (Done memory) made never b = subst NoneSaves (sym b) tt
  none_begun (Writes put rest) made never b = none_begun rest made never b
  none_begun (Asks act rest) [] never b = tt
  none_begun (Asks act rest) (e ∷ made) never b = (
    subst (λ (x : Entry Timed Reply). SaysSaved x.act.act → ⊥) (sym b.0) never.0,
    none_begun (rest e.reply) made (never.1 e.reply) b.1,
  )

  pub none_passed : (mark : Bool) (course : Course) (made : Log) → NeverSaves course
      → Passes mark course session moment made → NoneSaves made
  none_passed mark (Done memory) made never p = subst NoneSaves (sym p) tt
  none_passed mark (Writes put rest) made never p = none_passed mark rest made never p
  none_passed mark (Asks act rest) made never (inl p) =
      subst NoneSaves (sym p.2) (never.0, none_passed mark (rest p.0) p.1 (never.1 p.0) p.3)
  none_passed mark (Asks act rest) made never (inr p) =
      none_passed mark (rest nothing_told) made (never.1 nothing_told) p.1
