-- The lines of a command that answers each by a function, as a relation: how it begins, and what an answer does.
use Rattle.std.proofs.Common.{◌≡◌, ℕ, ◌<◌, ◌≤◌, Bool, cond, List, [], ◌∷◌, ◌++◌, length, refl, sym, ap, subst, ◌∙◌, append-nil, arith, Some, None, Ok, Err}
use Rattle.std.specs.Prelude.{Option, Result, IfOk}
use Rattle.std.proofs.lemmas.Bool.{le-ltb}
use Rattle.cmd_lines.specs.Handling.{AfterAnswering}
use Rattle.cmd_lines.specs.LineCommand.{IsLineAnswer, IsPlayed, LineCommand, begun_at, last_state, line_answer, text_of_lines}
use Rattle.cmd_lines.specs.PlayedLinesProof.{IsPlayed-answer_line, IsOutside-refused}

module _ {S : Type 0} (command : LineCommand S) where
  -- any other makes its answer
  line_answer-short : (state : S) (line : List ℕ) → 0 < length line → length line ≤ 1023
      → line_answer command state line ≡ command.answer state line
  line_answer-short state [] some short = absurd (omega arith)
  line_answer-short state (b ∷ bytes) some short =
      ap (λ (t : Bool). cond t None (command.answer state (b ∷ bytes))) (le-ltb 1023 (length (b ∷ bytes)) short)

  -- before the first line
  pub IsPlayed-none : IsPlayed command [] command.start []
  IsPlayed-none = record { text = λ more. refl; good = λ more. refl; state = λ more. refl }

  -- and what is due for them is their text
  pub IsPlayed-text : (lines : List (List ℕ)) (state : S) (due : List ℕ) → IsPlayed command lines state due
      → text_of_lines command lines ≡ due
  IsPlayed-text lines state due p = ap (text_of_lines command) (sym (append-nil lines)) ∙ p.text [] ∙ append-nil due

  -- and they bring the command here
  pub IsPlayed-state : (lines : List (List ℕ)) (state : S) (due : List ℕ) → IsPlayed command lines state due
      → last_state command lines ≡ state
  IsPlayed-state lines state due p = ap (last_state command) (sym (append-nil lines)) ∙ p.state []

  -- what the answer of a line does, as a step of the relation
  AfterAnswering-made : (old : S) (line out : List ℕ) (new : S) (out' : List ℕ) (made : Bool) (t : Option (S × List ℕ))
      → line_answer command old line ≡ t
      → IsLineAnswer t out new out' made → AfterAnswering (IsPlayed command) old line out new out' made
  AfterAnswering-made old line out new out' made None e h =
      subst (AfterAnswering (IsPlayed command) old line out new out') (sym h.0)
      (h.1, λ lines due p. IsOutside-refused command lines old due line e p)
  AfterAnswering-made old line out new out' made (Some q) e h =
      let takes = λ (lines : List (List ℕ)) (due : List ℕ) (p : IsPlayed command lines old due).
      subst (λ (s : S). IsPlayed command (lines ++ line ∷ []) s (due ++ q.1)) (sym h.1)
      (IsPlayed-answer_line command lines old q.0 due line q.1 e p) in
      subst (AfterAnswering (IsPlayed command) old line out new out') (sym h.0) (q.1, h.2, takes)

  pub AfterAnswering-played : {E : Type 0} (old : S) (line out : List ℕ) (new : S) (out' : List ℕ) (r : Result Bool E)
      → 0 < length line → length line ≤ 1023
      → IfOk r (λ made. IsLineAnswer (command.answer old line) out new out' made)
      → IfOk r (λ made. AfterAnswering (IsPlayed command) old line out new out' made)
  AfterAnswering-played old line out new out' (Ok made) some short h =
      AfterAnswering-made old line out new out' made (command.answer old line) (line_answer-short old line some short) h
  AfterAnswering-played old line out new out' (Err e) some short h = tt

-- and so wherever the command started
pub AfterAnswering-begun : {S E : Type 0} (command : LineCommand S) (old : S) (line out : List ℕ) (new : S)
    (out' : List ℕ) (r : Result Bool E)
    → 0 < length line → length line ≤ 1023
    → IfOk r (λ made. IsLineAnswer (command.answer old line) out new out' made)
    → IfOk r (λ made. (start : S) → AfterAnswering (IsPlayed (begun_at command start)) old line out new out' made)
AfterAnswering-begun command old line out new out' (Ok made) some short h =
    λ start. AfterAnswering-played (begun_at command start) {E = Unit {0}} old line out new out' (Ok made) some short h
AfterAnswering-begun command old line out new out' (Err e) some short h = tt
