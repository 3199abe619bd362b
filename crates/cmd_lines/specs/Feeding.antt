-- What a feeder makes of the bytes of its input, as relations between these bytes, where they bring the feeder, and the
-- text that is due for them.
use Rattle.std.specs.Prelude.{◌≡◌, ℕ, ◌+◌, ◌^◌, ◌≤◌, ◌⊎◌, Bool, true, false, List, length, Ok, Err, Result, ⊤}
use Rattle.cmd_lines.specs.declared.stop.Stop.{Stop}
use Rattle.cmd_lines.specs.declared.stop.Stop.TheVariants.{BadLine, Memory}

-- the bytes are all that have come so far: the whole input where the first argument is true, and else its beginning
pub record Feeding (S : Type 0) : Type 1 where
  -- the bytes bring the feeder from its start to here, and this text is due for them
  pub fed : Bool → List ℕ → S → List ℕ → Type 0
  -- the bytes have a line outside the grammar; this text is due up to it, with the line that tells of it
  pub refused : Bool → List ℕ → List ℕ → Type 0
  -- the bytes, which are the whole input, bring the feeder here when it is closed, and this text is due for them, with
  -- what is written in closing
  pub closed : List ℕ → S → List ℕ → Type 0

-- what was fed brings a feeder here from where it started, and with these bytes behind it is at most what 2^40 reads of
-- 1,024 bytes give
abbrev pub CanBeFed : {S : Type 0} → (S → Feeding S) → S → List ℕ → Type 0
CanBeFed {S} feeding s piece =
    (start : S) × (taken : List ℕ) × (due : List ℕ) × (feeding start).fed false taken s due
    × (length taken + length piece ≤ 2 ^ 50)

-- what holds after bytes were fed, or the input's end
abbrev pub AfterFeeding : {S A : Type 0} → Feeding S → Bool → List ℕ → S → List ℕ → Result A Stop → Type 0
AfterFeeding feeding ended taken s due (Ok u) = feeding.fed ended taken s due
AfterFeeding feeding ended taken s due (Err BadLine) = feeding.refused ended taken due
AfterFeeding feeding ended taken s due (Err Memory) = ⊤

-- this text is due for the bytes, good or not, or for the whole input with what is written in closing
abbrev pub IsDueFor : {S : Type 0} → Feeding S → Bool → List ℕ → List ℕ → Type 0
IsDueFor {S} feeding ended taken due =
    ((s : S) × feeding.fed ended taken s due)
    ⊎ (feeding.refused ended taken due ⊎ ((ended ≡ true) × (s : S) × feeding.closed taken s due))
