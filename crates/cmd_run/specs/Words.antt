-- The words of a command that `run` runs, and what is written at most for others.
use Rattle.std.specs.Prelude.{◌≡◌, ℕ, ◌≤◌, List, Option, Some, None, String, ⊤}
use Rattle.std.specs.Io.KnownBytes.{Keeps}
use Rattle.edge_traits.specs.Sink.{AppendsFront}
use Rattle.cmd_job.specs.Usage.{usage_line}
use Rattle.std.specs.declared.alloc.Global.{Global}
use Rattle.cmd_job.specs.Jobs as jobs
use Rattle.cmd_job.specs.declared.job.Job.{Job}
use Rattle.cmd_job.specs.declared.job.Job.TheVariants as job
use Rattle.cmd_run.specs.declared.command.RunCommand.{RunCommand}
use Rattle.cmd_run.specs.declared.command.RunCommand.TheVariants.{Board, Replay, Tourney, Tidy, Bot, Demo, Check, Pgn, Examine}

-- the command that is run for a job; players are served by another call
abbrev pub command_of_job : Job → Option RunCommand
command_of_job job.Board = Some Board
command_of_job job.Replay = Some Replay
command_of_job job.Tourney = Some Tourney
command_of_job job.Tidy = Some Tidy
command_of_job (job.Bot depth) = Some (Bot depth)
command_of_job (job.Demo number) = Some (Demo number)
command_of_job (job.Check store) = Some Check
command_of_job (job.Pgn store) = Some Pgn
command_of_job (job.Examine store game) = Some (Examine game)
command_of_job _ = None

-- the words name this command
abbrev pub NamesCommand : List (String Global) → RunCommand → Type 0
NamesCommand words command = (job : Job) × jobs.NamesJob words job × (command_of_job job ≡ Some command)

-- the bot looks 4 half-moves ahead at most
abbrev pub IsWithin : RunCommand → Type 0
IsWithin (Bot depth) = depth ≤ 4
IsWithin _ = ⊤

-- the command is over a store: it calls the keeper
abbrev pub IsOverStore : RunCommand → Type 0
IsOverStore Check = ⊤
IsOverStore Pgn = ⊤
IsOverStore (Examine game) = ⊤
IsOverStore _ = ⊥

-- the command reads the input
abbrev pub ReadsInput : RunCommand → Type 0
ReadsInput (Demo number) = ⊥
ReadsInput Check = ⊥
ReadsInput Pgn = ⊥
ReadsInput _ = ⊤

-- the words name a command
abbrev pub IsCommand : List (String Global) → Type 0
IsCommand words = (command : RunCommand) × NamesCommand words command

-- the words name a command, of which this holds
abbrev pub Does : List (String Global) → (RunCommand → Type 0) → Type 0
Does words P = (command : RunCommand) × NamesCommand words command × P command

-- nothing was read, and a prefix of the usage line was written
abbrev pub UsagePart : Option (List ℕ) → Option (List ℕ) → Option (List ℕ) → Option (List ℕ) → Type 0
UsagePart left left' written written' = Keeps left left' × AppendsFront written written' usage_line
