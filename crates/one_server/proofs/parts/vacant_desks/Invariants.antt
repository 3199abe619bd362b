use Rattle.std.proofs.Common.{◌≡◌, map}
use Rattle.one_server.specs.declared.part.Part.TheVariants.{Desk as ADesk}
use Rattle.one_server.specs.Whole.{vacant_from}
use Rattle.one_server.proofs.parts.vacant_desks.Given as goal

abbrev pub invariant-loop-slot : goal.invariant-loop-slot
invariant-loop-slot l = l.desks ≡ map ADesk (vacant_from 1 l.slot)
