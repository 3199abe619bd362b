-- What follows for each link that came, where memory was enough.
use Rattle.std.specs.Prelude.{◌≡◌, ◌⊎◌, ℕ, ◌<◌, ◌≤◌, Bool, true, false, ◌++◌, length, Some}
use Rattle.edge_traits.specs.Door.{DoorTale}
use Rattle.edge_traits.specs.Link.{Tale}
use Rattle.edge_traits.specs.Source.{most_reads}
use Rattle.one_server.specs.Running.{Log}
use Rattle.link_core.specs.Laws.{AnswersAll, WasGreeted, handed_over}
use Rattle.serve_core.specs.Sessions.{CameAs, CameBack, HadSession}

-- the link came back under its number with what it had to give, taken or left; it was greeted, or counted a fault; and
-- unless it counted one, or had 2^40 bytes and pauses to give, all that came over it was answered, by these entries
pub record ComesBack (shows : ℕ → Bool) (door : DoorTale) (number : ℕ) (calls : Log) (came : Tale) : Type 0 where
  -- there is
  pub link : Tale
  pub faults : ℕ
  -- such that
  pub back : CameBack number (handed_over link faults) door
  pub signs : link.taken ++ link.left ≡ came.left
  pub greeted : WasGreeted came link ⊎ (1 ≤ faults)
  pub answered : faults ≡ 0 → length came.left < most_reads → AnswersAll shows number calls came link

-- where the pass tells that memory was enough, the link of each session came back so: none was hung up unserved, none
-- was exchanged for
-- another, and no line was left without its answer
abbrev pub EachComesBack : Type 0
EachComesBack =
    (shows : ℕ → Bool) (short : Bool) (door : DoorTale) (number : ℕ) (calls : Log) (came : Tale) → short ≡ false
    → HadSession shows (short ≡ true) (Some door) number calls → CameAs number (Some came) door
    → ComesBack shows door number calls came
