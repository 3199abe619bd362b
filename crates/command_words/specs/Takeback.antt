-- `takeback [N]`: offers to take so many half-moves back, 1 to 1,200, and 1 without a number.
use Rattle.std.specs.Prelude.{◌≡◌, ℕ, ◌==◌, if◌then◌else◌, List, [], ◌∷◌, Option, Some, None, Result, Ok, Err, codes, refl}
use Rattle.chess_model.specs.Limits.{most_halves}
use Rattle.fics_words.specs.declared.refusal.Refusal.{Refusal}
use Rattle.fics_words.specs.declared.refusal.Refusal.TheVariants.{BadArguments}
use Rattle.command_words.specs.declared.command.Command.{Command}
use Rattle.command_words.specs.declared.command.Command.TheVariants as command
use Rattle.command_words.specs.Numbers.{number_within}

abbrev pub takeback_from : Option ℕ → Result Command Refusal
takeback_from None = Err BadArguments
takeback_from (Some number) = if number == 0 then Err BadArguments else Ok (command.Takeback number)

abbrev pub takeback_of : List ℕ → Result Command Refusal
takeback_of [] = Ok (command.Takeback 1)
takeback_of (b ∷ rest) = takeback_from (number_within most_halves (b ∷ rest))

example_one : takeback_of [] ≡ Ok (command.Takeback 1)
example_one = refl

example_most : takeback_of (codes "1200") ≡ Ok (command.Takeback 1200)
unfolding number_within
example_most = refl

example_too_many : takeback_of (codes "1201") ≡ Err BadArguments
unfolding number_within
example_too_many = refl

example_none : takeback_of (codes "0") ≡ Err BadArguments
unfolding number_within
example_none = refl
