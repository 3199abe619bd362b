-- What an object outside answered, as tests that compute: whether it failed, and whether a door gave a Quiet. Fakes and
-- proofs use them.
use Rattle.std.specs.Prelude.{⊤, Bool, true, false, Err, Result}
use Rattle.edge_traits.specs.declared.doorway.Came.{Came}
use Rattle.edge_traits.specs.declared.doorway.Came.TheVariants as came
use Rattle.edge_traits.specs.declared.keeper.KeeperFail.{KeeperFail}
use Rattle.edge_traits.specs.declared.keeper.KeeperFail.TheVariants as fail
use Rattle.edge_traits.specs.declared.keeper.Kept.{Kept}
use Rattle.edge_traits.specs.declared.keeper.Kept.TheVariants as kept
use Rattle.edge_traits.specs.declared.link.Heard.{Heard}
use Rattle.edge_traits.specs.declared.link.Heard.TheVariants as heard
use Rattle.edge_traits.specs.declared.sink.Sent.{Sent}
use Rattle.edge_traits.specs.declared.sink.Sent.TheVariants as sent
use Rattle.edge_traits.specs.declared.source.Got.{Got}
use Rattle.edge_traits.specs.declared.source.Got.TheVariants as got

-- whether a read of a source failed
abbrev pub read_failed : Got → Bool
read_failed got.Failed = true
read_failed answer = false

-- whether a read of a link failed
abbrev pub hear_failed : Heard → Bool
hear_failed heard.Failed = true
hear_failed answer = false

-- whether a write failed
abbrev pub write_failed : Sent → Bool
write_failed sent.Failed = true
write_failed answer = false

-- whether a change of a table failed
abbrev pub keep_failed : Kept → Bool
keep_failed kept.Failed = true
keep_failed answer = false

-- whether a load failed
abbrev pub load_failed : {A : Type 0} → Result A KeeperFail → Bool
load_failed (Err fail.Failed) = true
load_failed answer = false

-- whether a door failed
abbrev pub door_failed : {L : Type 0} → Came L → Bool
door_failed came.Failed = true
door_failed answer = false

-- the answer of a door is a Quiet
abbrev pub IsQuiet : {L : Type 0} → Came L → Type 0
IsQuiet came.Quiet = ⊤
IsQuiet answer = ⊥
