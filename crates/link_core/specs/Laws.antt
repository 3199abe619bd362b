-- What follows for every link that was served, however that ended.
use Rattle.std.specs.Prelude.{◌≡◌, ◌≢◌, ◌⊎◌, ℕ, ◌<◌, Bool, true, List, [], ◌∷◌, ◌++◌, length, Some}
use Rattle.edge_traits.specs.Faults.{Rose}
use Rattle.edge_traits.specs.Link.{Handed, Tale}
use Rattle.histories.specs.History.{IsPrefix}
use Rattle.edge_traits.specs.Source.{most_reads}
use Rattle.one_server.specs.Running.{Log}
use Rattle.session_core.specs.declared.input.Input.{Input}
use Rattle.session_core.specs.Memory.{MemoryState, is_gone, newcomer}
use Rattle.session_core.specs.Texts.{opening_text}
use Rattle.link_core.specs.declared.link_end.LinkEnd.{LinkEnd}
use Rattle.link_core.specs.declared.link_end.LinkEnd.TheVariants.{ReadFault, WriteFault, Memory}
use Rattle.link_core.specs.Arrivals.{inputs_of}
use Rattle.link_core.specs.ServedWhole.{LeavesWhole}
use Rattle.link_core.specs.ServedInPart.{WasServed}
use Rattle.link_core.specs.Talk.{Talks, joined}

-- a link that tells, and has counted so many faults
abbrev pub handed_over : Tale → ℕ → Handed
handed_over tale faults = record { tale = Some tale; faults = faults }

-- a link is said to have failed only where its count rose: none is hung up at once under that name
abbrev pub FaultsAreCounted : Type 0
FaultsAreCounted =
    (shows : ℕ → Bool) (mark : Bool) (session : ℕ) (end : LinkEnd) (entries : Log) (old new : Handed)
    → WasServed shows mark session end entries old new → (end ≡ ReadFault) ⊎ (end ≡ WriteFault)
    → Rose old.faults new.faults

-- what was taken from a link and what it has left are together what they were: no other link stands in its place
abbrev pub KeepsItsSigns : Type 0
KeepsItsSigns =
    (shows : ℕ → Bool) (mark : Bool) (session : ℕ) (end : LinkEnd) (entries : Log) (old new : Tale)
    (before now : ℕ) → WasServed shows mark session end entries (handed_over old before) (handed_over new now)
    → new.taken ++ new.left ≡ old.taken ++ old.left

-- a link was written the whole opening, behind what it had been written
abbrev pub WasGreeted : Tale → Tale → Type 0
WasGreeted old new = IsPrefix (old.written ++ opening_text) new.written

-- a link on which no write failed, and for which memory was enough, was greeted
abbrev pub IsGreeted : Type 0
IsGreeted =
    (shows : ℕ → Bool) (mark : Bool) (session : ℕ) (end : LinkEnd) (entries : Log) (old new : Tale)
    (before now : ℕ) → WasServed shows mark session end entries (handed_over old before) (handed_over new now)
    → end ≢ WriteFault → end ≢ Memory → WasGreeted old new

-- Everything that comes over a link is answered: each line and each pause that it had to give, up to its end or up to
-- an answered quit. For these the session made the acts of its course, in their order and each once, and behind them
-- those of leaving; and behind what the link had been written stands the opening, and then the whole answer to each
pub record AnswersAll (shows : ℕ → Bool) (session : ℕ) (entries : Log) (old new : Tale) : Type 0 where
  -- there is
  pub inputs : List Input
  pub made : Log
  pub pieces : List (List ℕ)
  pub memory : MemoryState
  pub later : Log
  -- such that
  pub talked : Talks shows session inputs newcomer made pieces memory
  pub leaves : LeavesWhole shows session memory later
  pub all : entries ≡ made ++ later
  pub written : new.written ≡ old.written ++ joined (opening_text ∷ pieces)
  -- these are all inputs, and nothing is left; or they are the first ones, by the last of which the session has quit
  pub whole : ((inputs ≡ inputs_of old.left true) × (new.left ≡ []))
      ⊎ (IsPrefix inputs (inputs_of old.left true) × (is_gone memory ≡ true))

-- so it is on a link that counted no fault and had fewer than 2^40 bytes and pauses to give, where memory was enough
abbrev pub AnswersEachLine : Type 0
AnswersEachLine =
    (shows : ℕ → Bool) (mark : Bool) (session : ℕ) (end : LinkEnd) (entries : Log) (old new : Tale)
    (before now : ℕ) → WasServed shows mark session end entries (handed_over old before) (handed_over new now)
    → end ≢ Memory → ¬ Rose before now → length old.left < most_reads → AnswersAll shows session entries old new
