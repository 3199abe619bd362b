-- What the handler of a command makes of the lines of its input, as a relation between these lines, where they bring
-- the handler, and the text that is due for them.
use Rattle.std.specs.Prelude.{◌≡◌, ℕ, ◌+◌, ◌≤◌, ◌⊎◌, Bool, true, false, List, [], ◌∷◌, ◌++◌, length, decimal, codes}
use Rattle.fics_words.specs.Line.{most_line_bytes}

-- the lines bring the handler from its start to here, and this text is due for them
abbrev pub Reaching : Type 0 → Type 1
Reaching S = List (List ℕ) → S → List ℕ → Type 0

-- no run of the command has these lines
abbrev pub IsOutside : {S : Type 0} → Reaching S → List (List ℕ) → Type 0
IsOutside {S} reached lines = (s : S) (due : List ℕ) → reached lines s due → ⊥

-- the line takes the handler from the old place to the new one, and this text is due for it
abbrev pub TakesLine : {S : Type 0} → Reaching S → S → List ℕ → S → List ℕ → Type 0
TakesLine reached old line new text =
    (lines : List (List ℕ)) (due : List ℕ) → reached lines old due → reached (lines ++ line ∷ []) new (due ++ text)

-- no run has the line behind lines that bring the handler here
abbrev pub IsOutsideAt : {S : Type 0} → Reaching S → S → List ℕ → Type 0
IsOutsideAt reached old line =
    (lines : List (List ℕ)) (due : List ℕ) → reached lines old due → IsOutside reached (lines ++ line ∷ [])

-- after the answer of a line: it was good and its text was appended, or it is outside the grammar and nothing was
abbrev pub AfterAnswering : {S : Type 0} → Reaching S → S → List ℕ → List ℕ → S → List ℕ → Bool → Type 0
AfterAnswering reached old line out new out' true =
    (text : List ℕ) × (out' ≡ out ++ text) × TakesLine reached old line new text
AfterAnswering reached old line out new out' false = (out' ≡ out) × IsOutsideAt reached old line

-- the laws of the lines of a command: an empty line changes nothing, a prefix of lines that a run has is one too, and
-- no line of a run has more than 1,023 bytes
pub record AreLinesOfRun {S : Type 0} (reached : Reaching S) : Type 0 where
  pub empty : (lines : List (List ℕ)) (s : S) (due : List ℕ) → reached lines s due → reached (lines ++ [] ∷ []) s due
  pub fronts : (lines : List (List ℕ)) (line : List ℕ) (s : S) (due : List ℕ) → reached (lines ++ line ∷ []) s due
      → (before : S) × (text : List ℕ) × reached lines before text
  pub short : (lines : List (List ℕ)) (line : List ℕ) (s : S) (due : List ℕ) → reached (lines ++ line ∷ []) s due
      → length line ≤ most_line_bytes

-- the line that tells of a line outside the grammar: its number, and the bytes that end a line
abbrev pub bad_line : List ℕ → ℕ → List ℕ
bad_line ending n = codes "bad line " ++ decimal n ++ ending

-- the lines have one that no run has behind those before it; due is what is due for these, and the bad line's number
pub record HasBadLine {S : Type 0} (reached : Reaching S) (ending : List ℕ) (lines : List (List ℕ))
    (due : List ℕ) : Type 0 where
  pub before : List (List ℕ)
  pub line : List ℕ
  pub rest : List (List ℕ)
  pub stands : S
  pub text : List ℕ
  pub parts : lines ≡ before ++ line ∷ rest
  pub good : reached before stands text
  pub bad : IsOutside reached (before ++ line ∷ [])
  pub told : due ≡ text ++ bad_line ending (length before + 1)

-- what is due for lines, good or not
abbrev pub IsDue : {S : Type 0} → Reaching S → List ℕ → List (List ℕ) → List ℕ → Type 0
IsDue {S} reached ending lines due = ((s : S) × reached lines s due) ⊎ HasBadLine reached ending lines due
