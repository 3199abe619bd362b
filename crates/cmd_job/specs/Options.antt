-- Options with their values, as they stand behind the name of a command. This program's own.
use Rattle.std.specs.Prelude.{◌≡◌, ◌≢◌, ◌⊎◌, ℕ, ◌<◌, ◌==◌, length, Bool, true, false, IsTrue, if◌then◌else◌, List, [], ◌∷◌, ◌++◌, Option, Some, None, bytes_eq, codes}
use Rattle.std.specs.Borrow.{Bor}
use Rattle.std.specs.List.{position_or_len, before_first, after_first}
use Rattle.cmd_job.specs.declared.command_name.CommandName.{CommandName}
use Rattle.cmd_job.specs.declared.command_name.CommandName.TheVariants.{Check, Pgn, Examine, Serve}
use Rattle.cmd_job.specs.declared.options.JobOption.{JobOption}
use Rattle.cmd_job.specs.declared.options.JobOption.TheVariants.{Port, Bind, Count, Store, Game}

-- how an option is called
abbrev pub name_of : JobOption → List ℕ
name_of Port = codes "--port"
name_of Bind = codes "--bind"
name_of Count = codes "--count"
name_of Store = codes "--store"
name_of Game = codes "--game"

-- the options that a command may have; those that aren't named here have none
abbrev pub takes : CommandName → JobOption → Bool
takes Check Store = true
takes Pgn Store = true
takes Examine Store = true
takes Examine Game = true
takes Serve Port = true
takes Serve Bind = true
takes Serve Store = true
takes Serve Count = true
takes _ _ = false

-- a value isn't empty and doesn't begin with a dash
abbrev pub IsValue : List ℕ → Type 0
IsValue [] = ⊥
IsValue (byte ∷ bytes) = byte ≢ 45

-- the words begin with an option of the command and its value, as two words or as one with `=` between them, and then
-- come the others
abbrev pub BeginsWith : CommandName → List (List ℕ) → JobOption → List ℕ → List (List ℕ) → Type 0
BeginsWith command words option value rest =
    ((words ≡ name_of option ∷ value ∷ rest) ⊎ (words ≡ (name_of option ++ 61 ∷ value) ∷ rest))
    × IsValue value × IsTrue (takes command option)

-- a byte is `=`
abbrev pub is_equals : ℕ → Bool
is_equals byte = byte == 61

-- a word is cut at its first `=`, where it has one
abbrev pub IsCut : List ℕ → Option (Bor (List ℕ) × Bor (List ℕ)) → Type 0
IsCut word None = position_or_len is_equals word ≡ length word
IsCut word (Some parts) =
    (parts.0.now ≡ before_first is_equals word) × (parts.1.now ≡ after_first is_equals word)
    × (position_or_len is_equals word < length word)

-- an option with its value
pub record GivenValue : Type 0 where
  pub option : JobOption
  pub value : List ℕ

-- the words are these options of the command with their values, one after the other
abbrev pub AreOptions : CommandName → List (List ℕ) → List GivenValue → Type 0
AreOptions command words [] = words ≡ []
AreOptions command words (given ∷ more) =
    (rest : List (List ℕ)) × BeginsWith command words given.option given.value rest × AreOptions command rest more

-- two options are one where they are called the same
abbrev pub same_option : JobOption → JobOption → Bool
same_option one other = bytes_eq (name_of one) (name_of other)

-- the values that an option is given
abbrev pub values_of : JobOption → List GivenValue → List (List ℕ)
values_of option [] = []
values_of option (given ∷ more) =
    if same_option given.option option then given.value ∷ values_of option more else values_of option more

-- the value of each option, where it is given
pub record Chosen : Type 0 where
  pub port : Option (List ℕ)
  pub bind : Option (List ℕ)
  pub count : Option (List ℕ)
  pub store : Option (List ℕ)
  pub game : Option (List ℕ)

abbrev pub chosen_of : Chosen → JobOption → Option (List ℕ)
chosen_of values Port = values.port
chosen_of values Bind = values.bind
chosen_of values Count = values.count
chosen_of values Store = values.store
chosen_of values Game = values.game

abbrev pub nothing_chosen : Chosen
nothing_chosen = record { port = None; bind = None; count = None; store = None; game = None }

abbrev pub with_chosen : Chosen → JobOption → List ℕ → Chosen
with_chosen values Port value = record values { port = Some value }
with_chosen values Bind value = record values { bind = Some value }
with_chosen values Count value = record values { count = Some value }
with_chosen values Store value = record values { store = Some value }
with_chosen values Game value = record values { game = Some value }

-- none or one
abbrev pub listed : Option (List ℕ) → List (List ℕ)
listed None = []
listed (Some value) = value ∷ []

-- each option is given at most once, and these are the values
abbrev pub TellsOptions : List GivenValue → Chosen → Type 0
TellsOptions given values = (option : JobOption) → values_of option given ≡ listed (chosen_of values option)

-- the words are options of the command, in any order, each at most once, and these are their values
pub record Says (command : CommandName) (words : List (List ℕ)) (values : Chosen) : Type 0 where
  pub given : List GivenValue
  pub options : AreOptions command words given
  pub once : TellsOptions given values
