-- What serving comes to, by the counts of faults and the text. This server's own.
use Rattle.std.specs.Prelude.{◌≡◌, ◌⊎◌, ℕ}
use Rattle.std.specs.Io.KnownBytes.{Appends}
use Rattle.edge_traits.specs.Calls.{Store}
use Rattle.edge_traits.specs.Faults.{Rose}
use Rattle.edge_traits.specs.Sink.{AppendsFront}
use Rattle.serve_core.specs.Outside.{Sheet}
use Rattle.serve_core.specs.Text.{whole_text}
use Rattle.serve_turn.specs.Stopping.{IsClean}
use Rattle.serve_turn.specs.declared.end.ServeEnd.{ServeEnd}
use Rattle.serve_turn.specs.declared.end.ServeEnd.TheVariants.{DoorFault, WriteFault, KeeperFault, Memory}

-- over a door that had counted so many faults before and after, a sink and a keeper: a fault of one of them is told
-- only
-- where that one counted it; a front of the text was written, and all of it where nothing failed and memory was enough;
-- where no fault was counted, nothing failed or memory ran out; and where the sink counted one, that is told, or a
-- fault
-- of the door
pub record EndsServing (end : ServeEnd) (door door' : ℕ) (before after : Sheet) (old new : Store) : Type 0 where
  pub door_fault : end ≡ DoorFault → Rose door door'
  pub write_fault : end ≡ WriteFault → Rose before.faults after.faults
  pub keeper_fault : end ≡ KeeperFault → Rose old.faults new.faults
  pub write_told : (after.faults ≡ before.faults) ⊎ ((end ≡ WriteFault) ⊎ (end ≡ DoorFault))
  pub complete : ¬ Rose door door' → ¬ Rose before.faults after.faults → ¬ Rose old.faults new.faults
      → IsClean end ⊎ (end ≡ Memory)
  pub text : IsClean end → Appends before.written after.written whole_text
  pub text_part : AppendsFront before.written after.written whole_text
