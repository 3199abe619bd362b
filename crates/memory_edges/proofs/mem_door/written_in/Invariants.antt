use Rattle.std.proofs.Common.{take}
use Rattle.memory_edges.proofs.Doors.{NoneOf}
use Rattle.memory_edges.proofs.mem_door.written_in.Given as goal

abbrev pub invariant-loop-link : goal.invariant-loop-link
invariant-loop-link l = NoneOf (take l.link-index l.links) l.number
