-- The order of a script's lines: this server's own rule. A session connects once, before all else that comes from it,
-- and nothing comes from it once it has left; a seated session is connected from the start. Moments never fall.
use Rattle.std.specs.Prelude.{◌≡◌, ◌==◌, ℕ, ◌≤◌, Bool, true, false, not, ◌&&◌, ◌||◌, nat_le, List, [], ◌∷◌, ◌++◌, All, filter}
use Rattle.std.specs.List.{list_any, range_with_len}
use Rattle.replay_core.specs.declared.script.ScriptEvent.{ScriptEvent}
use Rattle.replay_core.specs.declared.script.ScriptEvent.TheVariants.{Connect, Cut, Quiet, Plain, Stamped, Ack}
use Rattle.replay_core.specs.declared.script.ScriptLine.{ScriptLine}

-- a line that came, and whether it was a `quit` that was answered, which only a run of the server tells
pub record Arrival : Type 0 where
  pub line : ScriptLine
  pub quit : Bool

abbrev pub is_connect : ScriptEvent → Bool
is_connect Connect = true
is_connect Cut = false
is_connect Quiet = false
is_connect (Plain text) = false
is_connect (Stamped stamp text) = false
is_connect (Ack stamp) = false

abbrev pub is_cut : ScriptEvent → Bool
is_cut Connect = false
is_cut Cut = true
is_cut Quiet = false
is_cut (Plain text) = false
is_cut (Stamped stamp text) = false
is_cut (Ack stamp) = false

-- with this line its session leaves: its link ends, or its `quit` is answered
abbrev pub leaves : Arrival → Bool
leaves came = came.quit || is_cut came.line.event

-- the session is connected, by its seat or by a line: the first sessions are the seated ones
abbrev pub is_connected : ℕ → List Arrival → ℕ → Bool
is_connected seats lines session =
    nat_le session seats || list_any (λ came. (came.line.session == session) && is_connect came.line.event) lines

abbrev pub has_left : List Arrival → ℕ → Bool
has_left lines session = list_any (λ came. (came.line.session == session) && leaves came) lines

-- the line may come after these
pub record LineMayCome (seats : ℕ) (lines : List Arrival) (next : ScriptLine) : Type 0 where
  pub moment : All (λ came. came.line.moment ≤ next.moment) lines
  pub stays : has_left lines next.session ≡ false
  pub connects : is_connect next.event ≡ not (is_connected seats lines next.session)

-- each of the later lines may come after all that come before it
abbrev pub FollowInOrder : ℕ → List Arrival → List Arrival → Type 0
FollowInOrder seats lines [] = Unit {0}
FollowInOrder seats lines (next ∷ later) =
    LineMayCome seats lines next.line × FollowInOrder seats (lines ++ next ∷ []) later

-- the lines of a whole script stand in order
abbrev pub IsInOrder : ℕ → List Arrival → Type 0
IsInOrder seats lines = FollowInOrder seats [] lines

-- the session has connected and hasn't left
abbrev pub is_here : ℕ → List Arrival → ℕ → Bool
is_here seats lines session = is_connected seats lines session && not (has_left lines session)

-- the sessions that are left at the script's end, in the order of their numbers, in which they then leave
abbrev pub left_of : ℕ → List Arrival → List ℕ
left_of seats lines = filter (is_here seats lines) (range_with_len 1 64)

-- what the order says of a line and a later one
pub record KeepOrder (one other : Arrival) : Type 0 where
  pub moment : one.line.moment ≤ other.line.moment
  pub stays : one.line.session ≡ other.line.session → leaves one ≡ false
  pub connects : one.line.session ≡ other.line.session → is_connect other.line.event ≡ false
