-- What a session begins with, and how its whole answer follows from what came of that.
use Rattle.std.proofs.Common.{◌≡◌, ℕ, true, List, [], sym, inl, inr, Ok, Err, Result}
use Rattle.std.specs.Result.{OnOk}
use Rattle.memory.specs.declared.NoMemory.{NoMemory}
use Rattle.one_server.specs.Running.{IsKnown, RunnerState}
use Rattle.session_core.specs.Course.{Course}
use Rattle.session_core.specs.Going.{Answered, Broke, BrokeOff, Left, LeftInPart}
use Rattle.session_core.specs.Memory.{MemoryState, is_gone}
use Rattle.session_core.specs.Remembering.{Remembers}
use Rattle.session_core.specs.Session.{leaving_course}
use Rattle.session_core.specs.Stages.{Settles}
use Rattle.session_core.proofs.Going.{answered_after, answered_left, broke_next, broke_unmade, on_begun}
use Rattle.one_server.proofs.Made.{made_none}

module _ (moment : ℕ) where
  -- it began to answer and ran out of memory
  pub broke_begun : (course : Course) (old : RunnerState) (before after : MemoryState) → IsKnown old
      → Remembers before [] after → Broke course moment old before old after
  broke_begun course old before after known is =
      inl (broke_unmade moment course old before old after (made_none old known) is)

  -- it went on
  pub broke_going : (course coming : Course) (old : RunnerState) (before there : MemoryState) (out out' : List ℕ)
      (new : RunnerState) (after : MemoryState)
      → IsKnown old → Settles course coming out out'
      → Remembers before [] there → BrokeOff coming moment old there new after
      → Broke course moment old before new after
  broke_going course coming old before there out out' new after known s is b =
      inl (broke_next moment course coming old before out old there out' new after
      (on_begun moment course coming old before there out out' known s is) b)

  -- it left
  pub broke_leaving : (course : Course) (old : RunnerState) (before there : MemoryState) (out out' : List ℕ)
      (new : RunnerState) (after : MemoryState)
      → Settles course (leaving_course there) out out'
      → LeftInPart (leaving_course there) moment old new → is_gone after ≡ true
      → Broke course moment old before new after
  broke_leaving course old before there out out' new after s part gone =
      inr (record { memory = there; quits = sym s.goes; part = part; gone = gone })

  pub answered_going : (result : Result (Unit {0}) NoMemory) (course coming : Course) (old new : RunnerState)
      (out out' out'' : List ℕ) (after : MemoryState)
      → IsKnown old → Settles course coming out out'
      → OnOk result (Answered coming (λ text. text) moment old out' new out'' after)
      → OnOk result (Answered course (λ text. text) moment old out new out'' after)
  answered_going (Ok u) course coming old new out out' out'' after known s a =
      answered_after moment course coming old new out out' out'' after known s a
  answered_going (Err e) course coming old new out out' out'' after known s a = tt

  pub answered_leaving : (result : Result (Unit {0}) NoMemory) (course coming : Course) (old new : RunnerState)
      (out out' : List ℕ) (after : MemoryState)
      → IsKnown old → Settles course coming out out'
      → OnOk result (Left coming moment old new after)
      → OnOk result (Answered course (λ text. text) moment old out new out' after)
  answered_leaving (Ok u) course coming old new out out' after known s l =
      answered_after moment course coming old new out out' out' after known s
      (answered_left moment coming old new out' after l)
  answered_leaving (Err e) course coming old new out out' after known s l = tt
