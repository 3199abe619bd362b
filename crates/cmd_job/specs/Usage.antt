-- What is written where the words name no job that is done.
use Rattle.std.specs.Prelude.{◌≡◌, ◌⊎◌, ℕ, List, Option, codes}
use Rattle.std.specs.Io.KnownBytes.{Appends}
use Rattle.edge_traits.specs.Sink.{AppendsFront}
use Rattle.cmd_lines.specs.Ends.{status_of}
use Rattle.cmd_lines.specs.declared.end.End.TheVariants.{WriteFault, Memory}

-- the line that is written for words outside the table
abbrev pub usage_line : List ℕ
usage_line = codes "usage: ficsd board, replay, demo N, check --store PATH, serve --port P\n"

-- the status that tells that the words name no job
abbrev pub usage_status : ℕ
usage_status = 1

-- how a call without a job ends: the usage line was written, or a prefix of it, at a fault or when out of memory
abbrev pub UsageEnds : Option (List ℕ) → Option (List ℕ) → ℕ → Type 0
UsageEnds written written' status =
    ((status ≡ usage_status) × Appends written written' usage_line)
    ⊎ (((status ≡ status_of WriteFault) ⊎ (status ≡ status_of Memory)) × AppendsFront written written' usage_line)
