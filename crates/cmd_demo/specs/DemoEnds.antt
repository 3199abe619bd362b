-- How the command `demo` ends: what was written by then.
use Rattle.std.specs.Prelude.{◌≡◌, ℕ, List, Option}
use Rattle.std.specs.Io.KnownBytes.{Appends}
use Rattle.edge_traits.specs.Sink.{AppendsFront}
use Rattle.cmd_lines.specs.declared.end.End.{End}
use Rattle.cmd_lines.specs.declared.end.End.TheVariants.{Done, ReadFault, WriteFault, Memory, BadLine, Spent}
use Rattle.one_server.specs.Running.{Log}
use Rattle.cmd_demo.specs.Demo.{IsDemo}
use Rattle.cmd_demo.specs.Summary.{summary_of}

-- the text is the summary of the number's history
pub record IsSummary (number : ℕ) (text : List ℕ) : Type 0 where
  pub log : Log
  pub made : IsDemo number log
  pub told : text ≡ summary_of log

-- the summary of the number's history was written
pub record IsTold (number : ℕ) (written written' : Option (List ℕ)) : Type 0 where
  pub log : Log
  pub made : IsDemo number log
  pub wrote : Appends written written' (summary_of log)

-- a prefix of it was written
abbrev pub IsPartTold : ℕ → Option (List ℕ) → Option (List ℕ) → Type 0
IsPartTold number written written' = (log : Log) → IsDemo number log → AppendsFront written written' (summary_of log)

-- how a demo ends; it reads nothing
abbrev pub DemoEnds : ℕ → Option (List ℕ) → Option (List ℕ) → End → Type 0
DemoEnds number written written' Done = IsTold number written written'
DemoEnds number written written' ReadFault = ⊥
DemoEnds number written written' WriteFault = IsPartTold number written written'
DemoEnds number written written' Memory = IsPartTold number written written'
DemoEnds number written written' BadLine = ⊥
DemoEnds number written written' Spent = ⊥
