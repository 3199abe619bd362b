-- What `bot` writes at each of its ends.
use Rattle.std.proofs.Common.{◌≡◌, ℕ, ◌+◌, Bool, true, false, cond, List, [], ◌∷◌, ◌++◌, length, Some, None, refl, sym, ap, subst, ◌∙◌}
use Rattle.std.specs.Prelude.{Option, codes, nat_lt, option_map}
use Rattle.std.specs.Option.{option_map_or}
use Rattle.std.specs.Io.KnownBytes.{Appends}
use Rattle.cmd_lines.specs.ClosingCommandEnds.{AnswersAndCloses}
use Rattle.cmd_lines.specs.Handling.{bad_line}
use Rattle.cmd_lines.specs.LineCommand.{answers, bad_in, first_bad, last_state, line_answer, text_of_lines}
use Rattle.cmd_lines.specs.LineCommandEnds.{AnswersWhole, StopsAtBadLine}
use Rattle.cmd_lines.specs.Lines.{lines_come, lines_of}
use Rattle.cmd_bot.specs.BotLines.{BotState, answer_line, bot_answer, bot_lines, silent}
use Rattle.cmd_bot.specs.BotText.{AnswersGame, TellsBadLine, WritesNothing}
use Rattle.cmd_bot.specs.Game.{BotGame, move_named, new_game, variant_named, with_move}
use Rattle.cmd_bot.proofs.GamesGiven.{Give-given}

module _ (depth : ℕ) where
  told_nothing : {A : Type 0} (t : Option A) (game : A → BotGame) (p : BotState × List ℕ)
      → option_map (λ x. silent (game x)) t ≡ Some p → p.1 ≡ []
  told_nothing None game p e = absurd (let bad : None ≡ Some p = e in cc)
  told_nothing (Some x) game p e =
      let same : silent (game x) ≡ p = (let s : Some (silent (game x)) ≡ Some p = e in cc) in
      sym (ap (λ (q : BotState × List ℕ). q.1) same)

  silent_answer : (s : BotState) (line : List ℕ) (p : BotState × List ℕ) → answer_line depth s line ≡ Some p → p.1 ≡ []
  silent_answer None line p e = told_nothing (variant_named depth line) new_game p e
  silent_answer (Some game) line p e = told_nothing (move_named game line) (with_move game) p e

  silent_line : (s : BotState) (line : List ℕ) (p : BotState × List ℕ) → line_answer (bot_lines depth) s line ≡ Some p
      → p.1 ≡ []
  silent_line s [] p e =
      let same : (s, []) ≡ p = (let all : Some (s, []) ≡ Some p = e in cc) in
      sym (ap (λ (q : BotState × List ℕ). q.1) same)
  silent_line s (b ∷ bytes) p e =
      elim (nat_lt 1023 (length (b ∷ bytes)))
      as (λ t. cond t None (answer_line depth s (b ∷ bytes)) ≡ Some p → p.1 ≡ []) [
        | true ↦ λ f. absurd (let bad : None ≡ Some p = f in cc)
        | false ↦ λ f. silent_answer s (b ∷ bytes) p f
      ] e

  -- what is written for lines is the line that tells of the first bad one, and nothing where none is bad
  answers_silent : (n : ℕ) (s : BotState) (lines : List (List ℕ))
      → answers (bot_lines depth) n s lines
      ≡ option_map_or (λ k. bad_line (codes "\n") k) (first_bad (bot_lines depth) n s lines) []
  answers_silent n s [] = refl
  answers_silent n s (line ∷ lines) =
      elim (line_answer (bot_lines depth) s line) as (λ t. ((p : BotState × List ℕ) → t ≡ Some p → p.1 ≡ [])
      → option_map_or (λ (p : BotState × List ℕ). p.1 ++ answers (bot_lines depth) (n + 1) p.0 lines) t
      (bad_line (codes "\n") n)
      ≡ option_map_or
      (λ k.
      bad_line (codes "\n") k)
      (option_map_or (λ (p : BotState × List ℕ). first_bad (bot_lines depth) (n + 1) p.0 lines) t (Some n)) []) [
        | None ↦ λ h. refl
        | Some p ↦ λ h.
            ap (λ l. l ++ answers (bot_lines depth) (n + 1) p.0 lines) (h p refl) ∙ answers_silent (n + 1) p.0 lines
      ] (silent_line s line)

  text_at : (lines : List (List ℕ)) (t : Option ℕ) → bad_in (bot_lines depth) lines ≡ t
      → text_of_lines (bot_lines depth) lines ≡ option_map_or (λ k. bad_line (codes "\n") k) t []
  text_at lines t e = answers_silent 1 None lines ∙ ap (λ x. option_map_or (λ k. bad_line (codes "\n") k) x []) e

  pub AnswersGame-done : (left left' written written' : Option (List ℕ))
      → AnswersAndCloses (bot_lines depth) (bot_answer depth) left left' written written'
      → AnswersGame depth left left' written written'
  AnswersGame-done left left' written written' h =
      let lines = lines_of h.taken in
      let game = last_state (bot_lines depth) lines in
      record {
        taken = h.taken;
        game = game;
        came = h.came;
        given = Give-given depth lines h.good;
        text =
            subst (Appends written written') (ap (λ l. l ++ bot_answer depth game) (text_at lines None h.good)) h.text;
      }

  pub TellsBadLine-stopped : (left left' written written' : Option (List ℕ))
      → StopsAtBadLine (bot_lines depth) left left' written written' → TellsBadLine depth left left' written written'
  TellsBadLine-stopped left left' written written' h = record {
    taken = h.taken;
    ended = h.ended;
    number = h.number;
    came = h.came;
    bad = h.bad;
    text = subst (Appends written written') (text_at (lines_come h.ended h.taken) (Some h.number) h.bad) h.text;
  }

  pub WritesNothing-before : (left left' written written' : Option (List ℕ)) (ended : Bool)
      → AnswersWhole (bot_lines depth) left left' written written' ended → WritesNothing written written'
  WritesNothing-before left left' written written' ended h =
      subst (Appends written written') (text_at (lines_come ended h.taken) None h.good) h.text
