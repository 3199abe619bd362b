-- Two counters: an act adds one to the left counter, to the right one, or to both. Its reply is the first counter that
-- it changed.
use Rattle.std.specs.Prelude.{◌≡◌, ◌≢◌, ℕ, ◌+◌, ◌%◌, ◌^◌, ◌<◌, List, [], ◌∷◌, length}
use Rattle.std.proofs.Common.{◌∙◌, arith}
use Rattle.std.specs.declared.option.Option.{Option}
use Rattle.std.specs.declared.option.Option.TheVariants.{None, Some}
use Rattle.histories.specs.Core.{Core, Lawful}
use Rattle.histories.specs.declared.entry.Entry.{Entry}
use Rattle.histories.specs.History.{entry}
use Rattle.histories.proofs.Steps.{keeps_length}
use Rattle.test_base.specs.declared.bump.Bump.{Bump}
use Rattle.test_base.specs.declared.bump.Bump.TheVariants.{Left, Right, Both}

abbrev pub first_of : Bump → ℕ
first_of Left = 0
first_of Right = 1
first_of Both = 0

abbrev pub second_of : Bump → Option ℕ
second_of Left = None
second_of Right = None
second_of Both = Some 1

-- one more, in 64 bits
abbrev pub bumped : ℕ → ℕ
bumped n = (n + 1) % 2 ^ 64

abbrev pub test_counters : Core ℕ Bump ℕ
test_counters = record {
  first = first_of;
  second = λ p k a. second_of a;
  fits = λ a. Unit {0};
  whole = λ xs. length xs ≡ 2;
  answer = λ p q k a. bumped p;
  one = λ p q k a. bumped p;
  two = λ p q k a. bumped q;
}

pub first_in : (xs : List ℕ) (a : Bump) → length xs ≡ 2 → first_of a < length xs
first_in xs Left w = omega arith
first_in xs Right w = omega arith
first_in xs Both w = omega arith

pub second_in : (xs : List ℕ) (a : Bump) (s : ℕ) → length xs ≡ 2 → second_of a ≡ Some s
    → (s < length xs) × (s ≢ first_of a)
second_in xs Left s w e = absurd cc
second_in xs Right s w e = absurd cc
second_in xs Both s w e = let h : 1 ≡ s = cc in (omega arith, λ z. omega arith)

pub counters_lawful : Lawful test_counters
counters_lawful = record {
  first_in = λ xs a w f. first_in xs a w;
  second_in = λ xs k a p s w f g e. second_in xs a s w e;
  stays = λ xs k a w f. keeps_length test_counters xs k a ∙ w;
}

-- a history of two sessions
abbrev pub example : List (Entry Bump ℕ)
example = entry 1 Left 1 ∷ entry 2 Both 2 ∷ entry 1 Right 2 ∷ entry 2 Left 3 ∷ []

abbrev pub opening_counters : List ℕ
opening_counters = 0 ∷ 0 ∷ []
