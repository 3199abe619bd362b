-- `unseek [N]`: takes back the seek of that number, or all of the player's.
use Rattle.std.specs.Prelude.{◌≡◌, ℕ, List, [], ◌∷◌, Some, None, Result, Ok, Err, codes, refl}
use Rattle.fics_words.specs.declared.refusal.Refusal.{Refusal}
use Rattle.fics_words.specs.declared.refusal.Refusal.TheVariants.{BadArguments}
use Rattle.command_words.specs.declared.command.Command.{Command}
use Rattle.command_words.specs.declared.command.Command.TheVariants.{Unseek}
use Rattle.command_words.specs.Numbers.{number_within}
use Rattle.command_words.specs.Shapes.{read_as}

abbrev pub unseek_of : List ℕ → Result Command Refusal
unseek_of [] = Ok (Unseek None)
unseek_of (b ∷ rest) = read_as (λ number. Unseek (Some number)) (number_within 65535 (b ∷ rest))

example_all : unseek_of [] ≡ Ok (Unseek None)
example_all = refl

example_most : unseek_of (codes "65535") ≡ Ok (Unseek (Some 65535))
unfolding number_within
example_most = refl

example_too_much : unseek_of (codes "65536") ≡ Err BadArguments
unfolding number_within
example_too_much = refl
