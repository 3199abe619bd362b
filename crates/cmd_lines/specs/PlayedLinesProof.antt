-- The lines of a command that answers each by a function keep the laws of lines.
use Rattle.std.proofs.Common.{◌≡◌, ℕ, ◌+◌, ◌<◌, ◌≤◌, Bool, true, false, cond, List, [], ◌∷◌, ◌++◌, length, refl, sym, ap, subst, ◌∙◌, append_assoc, append-nil, arith, Some, None, length-append}
use Rattle.std.specs.Prelude.{Option, nat_lt}
use Rattle.std.specs.Option.{option_map_or}
use Rattle.std.proofs.lemmas.Bool.{lt-ltb, ltb-true, ltb-false}
use Rattle.fics_words.specs.Line.{most_line_bytes}
use Rattle.cmd_lines.specs.Handling.{AreLinesOfRun, IsOutside, bad_line}
use Rattle.cmd_lines.specs.LineCommand.{LineCommand, line_answer, answers, first_bad, state_after, last_state, text_of_lines, bad_in, IsPlayed}

module _ {S : Type 0} (command : LineCommand S) where
  -- a long line has no answer
  line_answer-long : (state : S) (line : List ℕ) → most_line_bytes < length line → line_answer command state line ≡ None
  line_answer-long state [] long = absurd (omega arith)
  line_answer-long state (b ∷ bytes) long =
      ap (λ (t : Bool). cond t None (command.answer state (b ∷ bytes)))
      (lt-ltb most_line_bytes (length (b ∷ bytes)) long)

  -- the text and the good lines behind a line, by its answer
  pub answers-answer_line : (n : ℕ) (state : S) (line : List ℕ) (lines : List (List ℕ)) (t : Option (S × List ℕ))
      → line_answer command state line ≡ t
      → answers command n state (line ∷ lines)
      ≡ option_map_or (λ p. p.1 ++ answers command (n + 1) p.0 lines) t (bad_line command.ending n)
  answers-answer_line n state line lines t e =
      ap (λ (x : Option (S × List ℕ)).
      option_map_or (λ p. p.1 ++ answers command (n + 1) p.0 lines) x (bad_line command.ending n))
      e

  pub bad-answer_line : (n : ℕ) (state : S) (line : List ℕ) (lines : List (List ℕ)) (t : Option (S × List ℕ))
      → line_answer command state line ≡ t
      → first_bad command n state (line ∷ lines) ≡ option_map_or (λ p. first_bad command (n + 1) p.0 lines) t (Some n)
  bad-answer_line n state line lines t e =
      ap (λ (x : Option (S × List ℕ)). option_map_or (λ p. first_bad command (n + 1) p.0 lines) x (Some n)) e

  state-answer_line : (state : S) (line : List ℕ) (lines : List (List ℕ)) (t : Option (S × List ℕ))
      → line_answer command state line ≡ t
      → state_after command state (line ∷ lines) ≡ option_map_or (λ p. state_after command p.0 lines) t state
  state-answer_line state line lines t e =
      ap (λ (x : Option (S × List ℕ)). option_map_or (λ p. state_after command p.0 lines) x state) e

  -- a good line behind good lines
  pub IsPlayed-answer_line : (lines : List (List ℕ)) (state next : S) (due line text : List ℕ)
      → line_answer command state line ≡ Some (next, text)
      → IsPlayed command lines state due → IsPlayed command (lines ++ line ∷ []) next (due ++ text)
  IsPlayed-answer_line lines state next due line text e p =
      let number : length lines + 1 + 1 ≡ length (lines ++ line ∷ []) + 1 =
      omega (arith, length-append lines (line ∷ [])) in
      record {
        text = λ more.
            ap (text_of_lines command) (append_assoc lines (line ∷ []) more) ∙ p.text (line ∷ more)
            ∙ ap (λ l. due ++ l) (answers-answer_line (length lines + 1) state line more (Some (next, text)) e)
            ∙ sym (append_assoc due text (answers command (length lines + 1 + 1) next more))
            ∙ ap (λ n. (due ++ text) ++ answers command n next more) number;
        good = λ more.
            ap (bad_in command) (append_assoc lines (line ∷ []) more) ∙ p.good (line ∷ more)
            ∙ bad-answer_line (length lines + 1) state line more (Some (next, text)) e
            ∙ ap (λ n. first_bad command n next more) number;
        state = λ more.
            ap (last_state command) (append_assoc lines (line ∷ []) more) ∙ p.state (line ∷ more)
            ∙ state-answer_line state line more (Some (next, text)) e;
      }

  -- played lines have none outside the grammar
  pub IsPlayed-good : (lines : List (List ℕ)) (state : S) (due : List ℕ) → IsPlayed command lines state due
      → bad_in command lines ≡ None
  IsPlayed-good lines state due p = ap (bad_in command) (sym (append-nil lines)) ∙ p.good []

  -- a line that has no answer behind played lines is outside
  pub IsOutside-refused : (lines : List (List ℕ)) (state : S) (due line : List ℕ)
      → line_answer command state line ≡ None → IsPlayed command lines state due
      → IsOutside (IsPlayed command) (lines ++ line ∷ [])
  IsOutside-refused lines state due line e p s after h =
      let none : None ≡ Some (length lines + 1) =
      sym (IsPlayed-good (lines ++ line ∷ []) s after h) ∙ p.good (line ∷ [])
      ∙ bad-answer_line (length lines + 1) state line [] None e in
      cc

  -- lines behind which the command goes on, wherever they began
  record GoesOn (n : ℕ) (state : S) (lines : List (List ℕ)) : Type 0 where
    next : S
    due : List ℕ
    text : (more : List (List ℕ))
        → answers command n state (lines ++ more) ≡ due ++ answers command (n + length lines) next more
    good : (more : List (List ℕ))
        → first_bad command n state (lines ++ more) ≡ first_bad command (n + length lines) next more
    after : (more : List (List ℕ)) → state_after command state (lines ++ more) ≡ state_after command next more

  GoesOn-cons : (n : ℕ) (state : S) (line : List ℕ) (lines more : List (List ℕ)) (t : Option (S × List ℕ))
      → line_answer command state line ≡ t
      → option_map_or (λ p. first_bad command (n + 1) p.0 (lines ++ more)) t (Some n) ≡ None
      → ((p : S × List ℕ) → first_bad command (n + 1) p.0 (lines ++ more) ≡ None → GoesOn (n + 1) p.0 lines)
      → GoesOn n state (line ∷ lines)
  GoesOn-cons n state line lines more None e good rest = absurd (let bad : Some n ≡ None = good in cc)
  GoesOn-cons n state line lines more (Some p) e good rest =
      let later = rest p good in
      let number : n + 1 + length lines ≡ n + length (line ∷ lines) = omega arith in
      record {
        next = later.next;
        due = p.1 ++ later.due;
        text = λ behind.
            answers-answer_line n state line (lines ++ behind) (Some p) e ∙ ap (λ l. p.1 ++ l) (later.text behind)
            ∙ sym (append_assoc p.1 later.due (answers command (n + 1 + length lines) later.next behind))
            ∙ ap (λ k. (p.1 ++ later.due) ++ answers command k later.next behind) number;
        good = λ behind.
            bad-answer_line n state line (lines ++ behind) (Some p) e ∙ later.good behind
            ∙ ap (λ k. first_bad command k later.next behind) number;
        after = λ behind. state-answer_line state line (lines ++ behind) (Some p) e ∙ later.after behind;
      }

  GoesOn-front : (n : ℕ) (state : S) (lines more : List (List ℕ)) → first_bad command n state (lines ++ more) ≡ None
      → GoesOn n state lines
  GoesOn-front n state [] more good =
      let number : n ≡ n + length {A = List ℕ} [] = omega arith in
      record {
        next = state;
        due = [];
        text = λ behind. ap (λ k. answers command k state behind) number;
        good = λ behind. ap (λ k. first_bad command k state behind) number;
        after = λ behind. refl;
      }
  GoesOn-front n state (line ∷ lines) more good =
      GoesOn-cons n state line lines more (line_answer command state line) refl good
      (λ p is. GoesOn-front (n + 1) p.0 lines more is)

  -- lines before good lines are played
  IsPlayed-front : (lines more : List (List ℕ)) → bad_in command (lines ++ more) ≡ None
      → (state : S) × (due : List ℕ) × IsPlayed command lines state due
  IsPlayed-front lines more good =
      let played = GoesOn-front 1 command.start lines more good in
      let number : 1 + length lines ≡ length lines + 1 = omega arith in (
        played.next,
        played.due,
        record {
          text = λ behind. played.text behind ∙ ap (λ k. played.due ++ answers command k played.next behind) number;
          good = λ behind. played.good behind ∙ ap (λ k. first_bad command k played.next behind) number;
          state = played.after;
        },
      )

  -- an empty line changes nothing, a prefix of good lines is good, and no good line has more than 1,023 bytes
  pub played_lines : AreLinesOfRun (IsPlayed command)
  played_lines = record {
    empty = λ lines s due p.
        subst (λ (text : List ℕ). IsPlayed command (lines ++ [] ∷ []) s text) (append-nil due)
        (IsPlayed-answer_line lines s s due [] [] refl p);
    fronts = λ lines line s due p. IsPlayed-front lines (line ∷ []) (IsPlayed-good (lines ++ line ∷ []) s due p);
    short = λ lines line s due p.
        let front = IsPlayed-front lines (line ∷ []) (IsPlayed-good (lines ++ line ∷ []) s due p) in
        elim (nat_lt most_line_bytes (length line))
        as (λ t. nat_lt most_line_bytes (length line) ≡ t → length line ≤ most_line_bytes) [
          | true ↦ λ e.
              absurd (IsOutside-refused lines front.0 front.1 line
              (line_answer-long front.0 line (ltb-true most_line_bytes (length line) e)) front.2 s due p)
          | false ↦ λ e. ltb-false most_line_bytes (length line) e
        ] refl;
  }
