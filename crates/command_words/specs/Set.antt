-- `set VARIABLE VALUE`: says what the player wants others to send. The variables are FICS's.
use Rattle.std.specs.Prelude.{◌≡◌, ℕ, bytes_eq, find, if◌then◌else◌, Bool, true, false, List, [], ◌∷◌, Option, Some, None, Result, Ok, Err, codes, refl}
use Rattle.fics_words.specs.declared.refusal.Refusal.{Refusal}
use Rattle.fics_words.specs.declared.refusal.Refusal.TheVariants.{BadArguments}
use Rattle.fics_words.specs.declared.variable.Variable.TheVariants.{Open, Shout, Seek}
use Rattle.command_words.specs.declared.command.Command.{Command}
use Rattle.command_words.specs.declared.command.Command.TheVariants.{Set}
use Rattle.command_words.specs.declared.variables.Values.{Values}
use Rattle.command_words.specs.declared.variables.Values.TheVariants.{OnOff}
use Rattle.command_words.specs.declared.variables.VariableRow.{VariableRow}
use Rattle.command_words.specs.Blanks.{Words, words_of}
use Rattle.command_words.specs.Naming.{is_name}
use Rattle.command_words.specs.Shapes.{read_as}
use Rattle.command_words.specs.Words.{in_nine}

-- a variable of this name, which takes this
abbrev pub variable : List ℕ → Values → VariableRow
variable name values = record { 0 = in_nine name; 1 = values }

-- the variables
abbrev pub variables : List VariableRow
variables =
    variable (codes "open") (OnOff Open)
    ∷ variable (codes "shout") (OnOff Shout)
    ∷ variable (codes "seek") (OnOff Seek)
    ∷ []

-- the variable has this name
abbrev pub is_variable : List ℕ → VariableRow → Bool
is_variable name row = is_name name row.0

-- what the variable of a row takes
abbrev pub values_in_row : Option VariableRow → Option Values
values_in_row None = None
values_in_row (Some row) = Some row.1

-- 0 is off and 1 is on
abbrev pub on_or_off : List ℕ → Option Bool
on_or_off value =
    if bytes_eq value (codes "0") then Some false
    else if bytes_eq value (codes "1") then Some true
    else None

-- what is set, where a variable takes the value
abbrev pub set_to : Option Values → List ℕ → Result Command Refusal
set_to None value = Err BadArguments
set_to (Some (OnOff which)) value = read_as (Set which) (on_or_off value)

-- two words, the variable's name and its value
abbrev pub setting_of : Words → Result Command Refusal
setting_of (name ∷ value ∷ []) = set_to (values_in_row (find (is_variable name) variables)) value
setting_of words = Err BadArguments

abbrev pub set_of : List ℕ → Result Command Refusal
set_of rest = setting_of (words_of rest)

example_off : set_of (codes "shout 0") ≡ Ok (Set Shout false)
unfolding words_of
example_off = refl

example_on : set_of (codes "seek  1") ≡ Ok (Set Seek true)
unfolding words_of
example_on = refl

example_two : set_of (codes "open 2") ≡ Err BadArguments
unfolding words_of
example_two = refl

example_three_words : set_of (codes "open 1 1") ≡ Err BadArguments
unfolding words_of
example_three_words = refl

-- a name stands whole
example_front : set_of (codes "ope 1") ≡ Err BadArguments
unfolding words_of
example_front = refl

-- argument words count with case
example_capital : set_of (codes "Open 1") ≡ Err BadArguments
unfolding words_of
example_capital = refl
