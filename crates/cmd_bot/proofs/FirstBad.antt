-- The number of a bad line is that of the first one.
use Rattle.std.proofs.Common.{◌≡◌, ℕ, zero, suc, ◌+◌, ◌-◌, ◌<◌, ◌≤◌, List, [], ◌∷◌, length, take, filter, Some, None, refl, sym, subst, ◌∙◌, arith}
use Rattle.std.specs.Prelude.{All, Option}
use Rattle.std.specs.Option.{option_map_or}
use Rattle.std.proofs.lemmas.List.Elements.{All-cons, All-nil}
use Rattle.cmd_lines.specs.LineCommand.{LineCommand, bad_in, first_bad, last_state, line_answer}
use Rattle.cmd_lines.specs.Lines.{is_written}
use Rattle.cmd_bot.specs.BotLines.{bot_lines}
use Rattle.cmd_bot.specs.Inputs.{Give, IsFirstBadLine}
use Rattle.cmd_bot.proofs.GamesGiven.{Give-given, Give-good}

module _ {S : Type 0} (command : LineCommand S) where
  -- so many lines are good, and with one more they aren't
  record IsFirst (k n : ℕ) (s : S) (lines : List (List ℕ)) : Type 0 where
    place : ℕ
    number : n ≡ k + place
    there : place < length lines
    before : first_bad command k s (take place lines) ≡ None
    at : first_bad command k s (take (suc place) lines) ≡ Some n

  -- whether the first lines are good, by the answer of the first one
  front : ℕ → List (List ℕ) → Option (S × List ℕ) → ℕ → Option ℕ
  front k lines t zero = None
  front k lines t (suc i) = option_map_or (λ (p : S × List ℕ). first_bad command (k + 1) p.0 (take i lines)) t (Some k)

  front_is : (k : ℕ) (s : S) (line : List ℕ) (lines : List (List ℕ)) (i : ℕ)
      → front k lines (line_answer command s line) i ≡ first_bad command k s (take i (line ∷ lines))
  unfolding front
  front_is k s line lines zero = refl
  front_is k s line lines (suc i) = refl

  first_place : (k n : ℕ) (s : S) (lines : List (List ℕ)) → first_bad command k s lines ≡ Some n → IsFirst k n s lines
  unfolding front
  first_place k n s [] e = absurd (let bad : None ≡ Some n = e in cc)
  first_place k n s (line ∷ lines) e =
      let found =
      elim (line_answer command s line)
      as (λ t. option_map_or (λ (p : S × List ℕ). first_bad command (k + 1) p.0 lines) t (Some k) ≡ Some n
      → (i : ℕ) × (n ≡ k + i) × (i < suc (length lines)) × (front k lines t i ≡ None)
      × (front k lines t (suc i) ≡ Some n)) [
        | None ↦ λ f.
            let same : k ≡ n = (let both : Some k ≡ Some n = f in cc) in (0, omega (arith, same), omega arith, refl, f)
        | Some p ↦ λ f.
            let rest = first_place (k + 1) n p.0 lines f in
            (suc rest.place, omega (arith, rest.number), omega (arith, rest.there), rest.before, rest.at)
      ] e in
      record {
        place = found.0;
        number = found.1;
        there = found.2;
        before = sym (front_is k s line lines found.0) ∙ found.3;
        at = sym (front_is k s line lines (suc found.0)) ∙ found.4;
      }

-- lines of a front of lines
short_front : (lines : List (List ℕ)) (n : ℕ) → All (λ line. length line ≤ 1023) lines
    → All (λ line. length line ≤ 1023) (take n lines)
short_front lines zero h = All-nil (λ line. length line ≤ 1023)
short_front [] (suc n) h = All-nil (λ line. length line ≤ 1023)
short_front (line ∷ lines) (suc n) h =
    All-cons (λ l. length l ≤ 1023) line (take n lines) (h 0 line (omega arith))
    (short_front lines n (λ k d within. h (suc k) d (omega (arith, within))))

pub IsFirstBad-told : (depth : ℕ) (lines : List (List ℕ)) (number : ℕ) → bad_in (bot_lines depth) lines ≡ Some number
    → IsFirstBadLine depth lines number
IsFirstBad-told depth lines number bad =
    let h = first_place (bot_lines depth) 1 number None lines bad in
    let last : number - 1 ≡ h.place = omega (arith, h.number) in
    let all : suc h.place ≡ number = omega (arith, h.number) in
    record {
      counted = omega (arith, h.number);
      there = omega (arith, h.number, h.there);
      game = last_state (bot_lines depth) (take h.place lines);
      before =
          subst
          (λ (i : ℕ). Give depth (filter is_written (take i lines)) (last_state (bot_lines depth) (take h.place lines)))
          (sym last) (Give-given depth (take h.place lines) h.before);
      none = λ short state given.
          let good = Give-good depth (take number lines) state (short_front lines number short) given in
          let is : bad_in (bot_lines depth) (take number lines) ≡ Some number =
          subst (λ (i : ℕ). bad_in (bot_lines depth) (take i lines) ≡ Some number) all h.at in
          let none : None ≡ Some number = sym good ∙ is in
          absurd (let clash : None ≡ Some number = none in cc);
    }
