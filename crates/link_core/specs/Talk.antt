-- What a session makes and writes for one input after the other. This server's own.
use Rattle.std.specs.Prelude.{◌≡◌, ℕ, min, Bool, false, IsTrue, List, [], ◌∷◌, ◌++◌}
use Rattle.clock_ledger.specs.Charges.{last_moment}
use Rattle.one_server.specs.Running.{Log}
use Rattle.session_core.specs.declared.input.Input.{Input}
use Rattle.session_core.specs.Course.{Follows}
use Rattle.session_core.specs.Inputs.{text_for_input, input_course}
use Rattle.session_core.specs.Memory.{MemoryState, is_gone}

-- a moment that the clock shows, cut to 2^48 milliseconds
abbrev pub IsShown : (ℕ → Bool) → ℕ → Type 0
IsShown shows moment = (m : ℕ) × IsTrue (shows m) × (moment ≡ min m last_moment)

-- the session, which hadn't left, answered an input: it followed its course at a moment that the clock shows, with
-- these entries, and this is what it wrote and remembers
pub record Answers (shows : ℕ → Bool) (session : ℕ) (input : Input) (before : MemoryState) (made : Log)
    (piece : List ℕ) (after : MemoryState) : Type 0 where
  -- there is
  pub moment : ℕ
  pub text : List ℕ
  -- such that
  pub here : is_gone before ≡ false
  pub shown : IsShown shows moment
  pub follows : Follows (input_course input before) session moment made text after
  pub wrote : piece ≡ text_for_input input before after text

-- the session answered these inputs in their order: these are its entries, and what it wrote for each of them
abbrev pub Talks : (ℕ → Bool) → ℕ → List Input → MemoryState → Log → List (List ℕ) → MemoryState → Type 0
Talks shows session [] before made pieces after = (made ≡ []) × (pieces ≡ []) × (after ≡ before)
Talks shows session (input ∷ inputs) before made [] after = ⊥
Talks shows session (input ∷ inputs) before made (piece ∷ pieces) after =
    (now : Log) × (later : Log) × (mid : MemoryState) × (made ≡ now ++ later)
    × Answers shows session input before now piece mid × Talks shows session inputs mid later pieces after

-- pieces one behind the other
abbrev pub joined : List (List ℕ) → List ℕ
joined [] = []
joined (piece ∷ pieces) = piece ++ joined pieces
