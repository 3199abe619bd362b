-- The words behind the program's name, and the job that they name. This program's own.
use Rattle.std.specs.Prelude.{◌≡◌, ℕ, ◌^◌, ◌-◌, ◌≤◌, List, [], ◌∷◌, map, Option, Some, None, codes, option_map, String, string_bytes}
use Rattle.std.specs.declared.alloc.Global.{Global}
use Rattle.fics_words.specs.Number.{IsDecimal}
use Rattle.cmd_job.specs.declared.command_name.CommandName.{CommandName}
use Rattle.cmd_job.specs.declared.command_name.CommandName.TheVariants as name
use Rattle.cmd_job.specs.declared.job.Job.{Job}
use Rattle.cmd_job.specs.declared.job.Job.TheVariants.{Board, Replay, Tourney, Tidy, Bot, Demo, Check, Pgn, Examine, Serve}
use Rattle.cmd_job.specs.declared.job.JobFail.{JobFail}
use Rattle.cmd_job.specs.declared.job.JobFail.TheVariants as fail
use Rattle.cmd_job.specs.Options.{Chosen, Says}

-- how a command is called
abbrev pub called_text : CommandName → List ℕ
called_text name.Board = codes "board"
called_text name.Replay = codes "replay"
called_text name.Tourney = codes "tourney"
called_text name.Tidy = codes "tidy"
called_text name.Bot = codes "bot"
called_text name.Demo = codes "demo"
called_text name.Check = codes "check"
called_text name.Pgn = codes "pgn"
called_text name.Examine = codes "examine"
called_text name.Serve = codes "serve"

-- ---- what the values stand for

-- the text is the decimal of this number, which is at least 1 and at most the limit
abbrev pub NumberFrom1 : ℕ → List ℕ → ℕ → Type 0
NumberFrom1 most text n = IsDecimal most text n × (1 ≤ n)

-- the port has to be given
abbrev pub IsPort : Option (List ℕ) → ℕ → Type 0
IsPort None port = ⊥
IsPort (Some text) port = NumberFrom1 65535 text port

-- where no address is given, connections are taken at this machine alone
abbrev pub IsBind : Option (List ℕ) → List ℕ → Type 0
IsBind None bind = bind ≡ codes "127.0.0.1"
IsBind (Some text) bind = bind ≡ text

-- where no number of connections is given there is none
abbrev pub IsCount : Option (List ℕ) → Option ℕ → Type 0
IsCount None None = Unit {0}
IsCount None (Some n) = ⊥
IsCount (Some text) None = ⊥
IsCount (Some text) (Some n) = NumberFrom1 (2 ^ 31) text n

-- the number of a stored game has to be given
abbrev pub IsGameGiven : Option (List ℕ) → ℕ → Type 0
IsGameGiven None game = ⊥
IsGameGiven (Some text) game = NumberFrom1 (2 ^ 64 - 1) text game

-- the bot looks 4 half-moves ahead at most
abbrev pub IsDepth : List ℕ → ℕ → Type 0
IsDepth text depth = IsDecimal 4 text depth

-- an evening is made from a number of at most six digits
abbrev pub IsDemoNumber : List ℕ → ℕ → Type 0
IsDemoNumber text number = IsDecimal 999999 text number

-- ---- the words behind a command's name

-- `bot D`: how many half-moves it looks ahead
abbrev pub IsBot : List (List ℕ) → ℕ → Type 0
IsBot words depth = (text : List ℕ) × (words ≡ text ∷ []) × IsDepth text depth

-- `demo N`: the number from which the evening is made
abbrev pub IsDemo : List (List ℕ) → ℕ → Type 0
IsDemo words number = (text : List ℕ) × (words ≡ text ∷ []) × IsDemoNumber text number

-- `check --store PATH` and `pgn --store PATH`: the store has to be named
abbrev pub IsOverStore : CommandName → List (List ℕ) → List ℕ → Type 0
IsOverStore command words store = (values : Chosen) × Says command words values × (values.store ≡ Some store)

-- `examine --store PATH --game N`
pub record IsExamine (words : List (List ℕ)) (store : List ℕ) (game : ℕ) : Type 0 where
  pub values : Chosen
  pub says : Says name.Examine words values
  pub store_is : values.store ≡ Some store
  pub game_is : IsGameGiven values.game game

-- `serve --port P [--bind A] [--store PATH] [--count K]`
pub record IsServe (words : List (List ℕ)) (port : ℕ) (bind : List ℕ) (store : Option (List ℕ)) (count : Option ℕ)
    : Type 0 where
  pub values : Chosen
  pub says : Says name.Serve words values
  pub port_is : IsPort values.port port
  pub bind_is : IsBind values.bind bind
  pub store_is : values.store ≡ store
  pub count_is : IsCount values.count count

-- ---- jobs

-- a job and the words behind the name of its command
abbrev pub IsBehind : CommandName → List (List ℕ) → Job → Type 0
IsBehind name.Board words job = (words ≡ []) × (job ≡ Board)
IsBehind name.Replay words job = (words ≡ []) × (job ≡ Replay)
IsBehind name.Tourney words job = (words ≡ []) × (job ≡ Tourney)
IsBehind name.Tidy words job = (words ≡ []) × (job ≡ Tidy)
IsBehind name.Bot words job = (depth : ℕ) × IsBot words depth × (job ≡ Bot depth)
IsBehind name.Demo words job = (number : ℕ) × IsDemo words number × (job ≡ Demo number)
IsBehind name.Check words job =
    (store : String Global) × IsOverStore name.Check words (string_bytes store) × (job ≡ Check store)
IsBehind name.Pgn words job =
    (store : String Global) × IsOverStore name.Pgn words (string_bytes store) × (job ≡ Pgn store)
IsBehind name.Examine words job =
    (store : String Global) × (game : ℕ) × IsExamine words (string_bytes store) game × (job ≡ Examine store game)
IsBehind name.Serve words job =
    (port : ℕ) × (bind : String Global) × (store : Option (String Global)) × (count : Option ℕ)
    × IsServe words port (string_bytes bind) (option_map string_bytes store) count × (job ≡ Serve port bind store count)

-- the texts name this job: the name of a command, and the words behind it
abbrev pub TextsName : List (List ℕ) → Job → Type 0
TextsName texts job =
    (command : CommandName) × (words : List (List ℕ)) × (texts ≡ called_text command ∷ words)
    × IsBehind command words job

-- the words name this job
abbrev pub NamesJob : List (String Global) → Job → Type 0
NamesJob words job = TextsName (map string_bytes words) job

-- the fact holds where the words name no job
abbrev pub OnUsage : JobFail → Type 0 → Type 0
OnUsage fail.Usage P = P
OnUsage fail.Memory P = Unit {0}

-- the words ask to serve players who connect
abbrev pub AsksToServe : List (String Global) → Type 0
AsksToServe words =
    (port : ℕ) × (bind : String Global) × (store : Option (String Global)) × (count : Option ℕ)
    × NamesJob words (Serve port bind store count)
