-- Two counters behind turns: an act adds one to the first, or to both. Its reply is the first counter.
use Rattle.std.specs.Prelude.{◌≡◌, ◌≢◌, ℕ, ◌+◌, ◌%◌, ◌^◌, ◌<◌, List, length}
use Rattle.std.proofs.Common.{◌∙◌, arith}
use Rattle.std.specs.declared.option.Option.{Option}
use Rattle.std.specs.declared.option.Option.TheVariants.{None, Some}
use Rattle.histories.specs.Core.{Core, Lawful}
use Rattle.histories.proofs.Steps.{keeps_length}
use Rattle.turn_counters.specs.declared.bump.Bump.{Bump}
use Rattle.turn_counters.specs.declared.bump.Bump.TheVariants.{First, Both}

abbrev pub second_of : Bump → Option ℕ
second_of First = None
second_of Both = Some 1

-- one more, in 64 bits
abbrev pub more : ℕ → ℕ
more n = (n + 1) % 2 ^ 64

abbrev pub counters : Core ℕ Bump ℕ
counters = record {
  first = λ a. 0;
  second = λ p k a. second_of a;
  fits = λ a. Unit {0};
  whole = λ xs. length xs ≡ 2;
  answer = λ p q k a. more p;
  one = λ p q k a. more p;
  two = λ p q k a. more q;
}

pub second_in : (xs : List ℕ) (a : Bump) (s : ℕ) → length xs ≡ 2 → second_of a ≡ Some s → (s < length xs) × (s ≢ 0)
second_in xs First s w e = absurd cc
second_in xs Both s w e = let h : 1 ≡ s = cc in (omega arith, λ z. omega arith)

pub counters_lawful : Lawful counters
counters_lawful = record {
  first_in = λ xs a w f. omega arith;
  second_in = λ xs k a p s w f g e. second_in xs a s w e;
  stays = λ xs k a w f. keeps_length counters xs k a ∙ w;
}
