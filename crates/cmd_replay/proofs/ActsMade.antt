-- Acts that seat the players of a seat line, one after another.
use Rattle.std.proofs.Common.{◌≡◌, ℕ, List, [], ◌∷◌, ◌++◌, map, length, get_or, append_assoc, sym, ap, ◌∙◌, arith, OnOk, Ok, Err, Result}
use Rattle.std.proofs.lemmas.List.{map-append}
use Rattle.memory.specs.declared.NoMemory.{NoMemory}
use Rattle.one_server.specs.declared.act.Timed.{Timed}
use Rattle.one_server.specs.Running.{Log}
use Rattle.cmd_replay.specs.Evening.{HasMade, asked_of}

-- and then others
pub made_then : (acts more : List (ℕ × Timed)) (before mid after : Log) → HasMade acts before mid
    → HasMade more mid after → HasMade (acts ++ more) before after
made_then acts more before mid after p q = record {
  entries = p.entries ++ q.entries;
  more = q.more ∙ ap (λ (l : Log). l ++ q.entries) p.more ∙ append_assoc before p.entries q.entries;
  acts_are =
      map-append asked_of p.entries q.entries ∙ ap (λ (l : List (ℕ × Timed)). l ++ map asked_of q.entries) p.acts_are
      ∙ ap (λ (l : List (ℕ × Timed)). acts ++ l) q.acts_are;
}

-- and then others, where these were made
pub made_last : (result : Result (Unit {0}) NoMemory) (acts more : List (ℕ × Timed)) (before mid after : Log)
    → HasMade acts before mid
    → OnOk result (HasMade more mid after) → OnOk result (HasMade (acts ++ more) before after)
made_last (Ok u) acts more before mid after p q = made_then acts more before mid after p q
made_last (Err e) acts more before mid after p q = tt

-- a list of two names
pub two_names : (names : List (List ℕ)) (white black : List ℕ) → length names ≡ 2 → white ≡ get_or names 0 white
    → black ≡ get_or names 1 black → names ≡ white ∷ black ∷ []
two_names [] white black count first second = absurd (omega (arith, count))
two_names (one ∷ []) white black count first second = absurd (omega (arith, count))
two_names (one ∷ two ∷ []) white black count first second =
    ap (λ (n : List ℕ). n ∷ two ∷ []) (sym first) ∙ ap (λ (n : List ℕ). white ∷ n ∷ []) (sym second)
two_names (one ∷ two ∷ three ∷ more) white black count first second = absurd (omega (arith, count))

-- a list of four names
pub four_names : (names : List (List ℕ)) (one two three four : List ℕ) → length names ≡ 4 → one ≡ get_or names 0 one
    → two ≡ get_or names 1 two
    → three ≡ get_or names 2 three → four ≡ get_or names 3 four → names ≡ one ∷ two ∷ three ∷ four ∷ []
four_names [] one two three four count first second third fourth = absurd (omega (arith, count))
four_names (a ∷ []) one two three four count first second third fourth = absurd (omega (arith, count))
four_names (a ∷ b ∷ []) one two three four count first second third fourth = absurd (omega (arith, count))
four_names (a ∷ b ∷ c ∷ []) one two three four count first second third fourth = absurd (omega (arith, count))
four_names (a ∷ b ∷ c ∷ d ∷ []) one two three four count first second third fourth =
    ap (λ (n : List ℕ). n ∷ b ∷ c ∷ d ∷ []) (sym first)
    ∙ ap (λ (n : List ℕ). one ∷ n ∷ c ∷ d ∷ []) (sym second)
    ∙ ap (λ (n : List ℕ). one ∷ two ∷ n ∷ d ∷ []) (sym third)
    ∙ ap (λ (n : List ℕ). one ∷ two ∷ three ∷ n ∷ []) (sym fourth)
four_names (a ∷ b ∷ c ∷ d ∷ e ∷ more) one two three four count first second third fourth = absurd (omega (arith, count))
