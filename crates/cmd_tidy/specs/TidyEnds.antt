-- How the reading of the input of `tidy` ends: what was read and what was written by then.
use Rattle.std.specs.Prelude.{ℕ, List, Option}
use Rattle.cmd_lines.specs.FeederEnds.{FeederEnds}
use Rattle.cmd_lines.specs.declared.end.End.{End}
use Rattle.cmd_tidy.specs.Tidying.{tidying}

-- at its end the exports of exactly the games that the grammar reads in the input were written; at a line outside the
-- grammar those of the games before it, and its number; at a read fault, and where the reads are spent, those of the
-- games that are whole in what was read; at a write fault, and out of memory, a prefix of what was due
abbrev pub TidyEnds : Option (List ℕ) → Option (List ℕ) → Option (List ℕ) → Option (List ℕ) → End → Type 0
TidyEnds left left' written written' end = FeederEnds tidying left left' written written' end
