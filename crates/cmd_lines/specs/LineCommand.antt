-- A command that answers each line of its input by a function: what it writes, and where an input stops it.
use Rattle.std.specs.Prelude.{◌≡◌, ℕ, ◌+◌, Bool, true, false, if◌then◌else◌, nat_lt, List, [], ◌∷◌, ◌++◌, length, Option, Some, None, MatchOption}
use Rattle.std.specs.Option.{option_map_or}
use Rattle.fics_words.specs.Line.{most_line_bytes}
use Rattle.cmd_lines.specs.Handling.{bad_line}

-- where it starts; what a line that isn't empty makes of where it stands, with the text that is written for the line,
-- or nothing where the line is outside the grammar; and the bytes that end the line which tells of that
pub record LineCommand (S : Type 0) : Type 0 where
  pub start : S
  pub answer : S → List ℕ → Option (S × List ℕ)
  pub ending : List ℕ

-- the command, started from here
abbrev pub begun_at : {S : Type 0} → LineCommand S → S → LineCommand S
begun_at command s = record command { start = s }

-- what a line makes of where the command stands, and what is written for it: an empty line does nothing, and one of
-- more than 1,023 bytes is outside the grammar
abbrev pub line_answer : {S : Type 0} → LineCommand S → S → List ℕ → Option (S × List ℕ)
line_answer command s [] = Some (s, [])
line_answer command s (b ∷ bytes) =
    if nat_lt most_line_bytes (length (b ∷ bytes)) then None else command.answer s (b ∷ bytes)

-- what is written for lines that begin with number n: the texts of their answers, up to a line outside the grammar
abbrev pub answers : {S : Type 0} → LineCommand S → ℕ → S → List (List ℕ) → List ℕ
answers command n s [] = []
answers command n s (line ∷ lines) =
    option_map_or (λ p. p.1 ++ answers command (n + 1) p.0 lines) (line_answer command s line)
    (bad_line command.ending n)

-- the number of the first line outside the grammar
abbrev pub first_bad : {S : Type 0} → LineCommand S → ℕ → S → List (List ℕ) → Option ℕ
first_bad command n s [] = None
first_bad command n s (line ∷ lines) =
    option_map_or (λ p. first_bad command (n + 1) p.0 lines) (line_answer command s line) (Some n)

-- where lines bring the command from here; a line outside the grammar, and what follows it, leaves it where it stands
abbrev pub state_after : {S : Type 0} → LineCommand S → S → List (List ℕ) → S
state_after command s [] = s
state_after command s (line ∷ lines) =
    option_map_or (λ p. state_after command p.0 lines) (line_answer command s line) s

-- where the lines of an input bring the command
abbrev pub last_state : {S : Type 0} → LineCommand S → List (List ℕ) → S
last_state command lines = state_after command command.start lines

-- what is written for the lines of an input; lines are counted from 1
abbrev pub text_of_lines : {S : Type 0} → LineCommand S → List (List ℕ) → List ℕ
text_of_lines command lines = answers command 1 command.start lines

-- the number of the first line of an input that is outside the grammar
abbrev pub bad_in : {S : Type 0} → LineCommand S → List (List ℕ) → Option ℕ
bad_in command lines = first_bad command 1 command.start lines

-- the lines are good, bring the command from its start to here, and this text is due for them: whatever lines follow,
-- the answers of these are made from here, bring it on from here, and their text goes on behind that text
pub record IsPlayed {S : Type 0} (command : LineCommand S) (lines : List (List ℕ)) (s : S) (due : List ℕ) : Type 0 where
  pub text : (more : List (List ℕ))
      → text_of_lines command (lines ++ more) ≡ due ++ answers command (length lines + 1) s more
  pub good : (more : List (List ℕ)) → bad_in command (lines ++ more) ≡ first_bad command (length lines + 1) s more
  pub state : (more : List (List ℕ)) → last_state command (lines ++ more) ≡ state_after command s more

-- the answer of a line was made: the command stands where the function says and the line's text was appended, or the
-- line is outside the grammar and nothing was
abbrev pub IsLineAnswer : {S : Type 0} → Option (S × List ℕ) → List ℕ → S → List ℕ → Bool → Type 0
IsLineAnswer answer out new out' good =
    MatchOption answer ((good ≡ false) × (out' ≡ out)) (λ next. (good ≡ true) × (new ≡ next.0) × (out' ≡ out ++ next.1))
