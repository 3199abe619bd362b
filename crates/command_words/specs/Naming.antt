-- The rule by which a word names a row of the table of commands. This server's own.
use Rattle.std.specs.Prelude.{◌≡◌, ℕ, nat_lt, nat_eq, bytes_eq, ◌||◌, ◌&&◌, not, length, [], ◌∷◌, if◌then◌else◌, Bool, List, Option, Some, None, Result, Ok, Err, codes, count_by, find, refl}
use Rattle.std.specs.List.{starts_with}
use Rattle.fics_words.specs.declared.refusal.Refusal.{Refusal}
use Rattle.fics_words.specs.declared.refusal.Refusal.TheVariants.{Unknown, AmbiguousWord}
use Rattle.command_words.specs.declared.rows.CommandRow.{CommandRow}
use Rattle.command_words.specs.declared.rows.Takes.{Takes}
use Rattle.command_words.specs.declared.rows.Takes.TheVariants.{Nothing, MaybeName}
use Rattle.command_words.specs.declared.rows.Bare.TheVariants.{Adjourn, Quit, Resign, SimOpen}
use Rattle.command_words.specs.declared.rows.MaybeByName.TheVariants.{Accept}
use Rattle.command_words.specs.Words.{commands}

-- the command's name begins with the word
abbrev pub begins : List ℕ → CommandRow → Bool
begins word row = starts_with nat_eq row.0 word

-- the word is the name, which has as many letters and blanks behind it
abbrev pub is_name : List ℕ → List ℕ → Bool
is_name word name = starts_with nat_eq name word && nat_eq (count_by (λ b. not (nat_eq b 32)) name) (length word)

-- the word is the command's name or its short form
abbrev pub is_called : List ℕ → CommandRow → Bool
is_called word row = is_name word row.0 || bytes_eq word (row.1 ∷ [])

-- the command of a row
abbrev pub taken_by_row : Option CommandRow → Option Takes
taken_by_row None = None
taken_by_row (Some row) = Some row.2

abbrev pub or_unknown : Option Takes → Result Takes Refusal
or_unknown None = Err Unknown
or_unknown (Some takes) = Ok takes

-- the one command whose name begins with a word, by how many there are and the first of them
abbrev pub one_by_front : ℕ → Option Takes → Result Takes Refusal
one_by_front count begun = if nat_lt 1 count then Err AmbiguousWord else or_unknown begun

-- the command of that name or short form, and else the one whose name begins with the word
abbrev pub called_or : Option Takes → Result Takes Refusal → Result Takes Refusal
called_or None other = other
called_or (Some takes) other = Ok takes

abbrev pub takes_named_by : List ℕ → Result Takes Refusal
takes_named_by word =
    called_or (taken_by_row (find (is_called word) commands))
    (one_by_front (count_by (begins word) commands) (taken_by_row (find (begins word) commands)))

example_name : takes_named_by (codes "quit") ≡ Ok (Nothing Quit)
example_name = refl

example_short : takes_named_by (codes "a") ≡ Ok (MaybeName Accept)
example_short = refl

example_front : takes_named_by (codes "resi") ≡ Ok (Nothing Resign)
example_front = refl

example_two : takes_named_by (codes "re") ≡ Err AmbiguousWord
example_two = refl

example_none : takes_named_by (codes "zz") ≡ Err Unknown
example_none = refl

example_one_of_a_simul : takes_named_by (codes "simo") ≡ Ok (Nothing SimOpen)
example_one_of_a_simul = refl

-- `a` is short for `accept`; `ad` begins `adjourn` alone
example_adjourn : takes_named_by (codes "ad") ≡ Ok (Nothing Adjourn)
example_adjourn = refl

-- `res` begins `resign` and `resume`
example_resign_or_resume : takes_named_by (codes "res") ≡ Err AmbiguousWord
example_resign_or_resume = refl
