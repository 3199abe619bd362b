use Rattle.std.specs.Prelude.{map, string_bytes, length}
use Rattle.cmd_job.proofs.OptionsRead.{SoFar}
use Rattle.cmd_job.proofs.reading.read_options.Given as goal

-- the options so far were read, and the rest is left
abbrev pub invariant-loop-rest : goal.invariant-loop-rest
invariant-loop-rest l = SoFar l.command (map string_bytes l.words) (map string_bytes l.rest) l.values

abbrev pub decreases-loop-rest : goal.decreases-loop-rest
decreases-loop-rest l = length l.rest
