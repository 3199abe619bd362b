-- `observe N` or `observe HANDLE`: looks on at the game of that number, or at the one that this player plays.
use Rattle.std.specs.Prelude.{◌≡◌, ℕ, List, Option, Some, None, Result, Ok, Err, codes, refl}
use Rattle.fics_words.specs.declared.refusal.Refusal.{Refusal}
use Rattle.fics_words.specs.declared.refusal.Refusal.TheVariants.{BadArguments}
use Rattle.command_words.specs.declared.command.Command.{Command}
use Rattle.command_words.specs.declared.command.Command.TheVariants.{ObserveGame, ObservePlayer}
use Rattle.command_words.specs.Numbers.{number_within}
use Rattle.command_words.specs.Shapes.{read_as}
use Rattle.fics_words.specs.HandleTest.{handle_of}

-- a game, where the argument is a number; else a player
abbrev pub observe_from : Option ℕ → Option (List ℕ) → Result Command Refusal
observe_from None handle = read_as ObservePlayer handle
observe_from (Some number) handle = Ok (ObserveGame number)

abbrev pub observe_of : List ℕ → Result Command Refusal
observe_of rest = observe_from (number_within 65535 rest) (handle_of rest)

example_game : observe_of (codes "12") ≡ Ok (ObserveGame 12)
unfolding number_within
example_game = refl

example_player : observe_of (codes "Ann") ≡ Ok (ObservePlayer (codes "Ann"))
unfolding number_within
example_player = refl

example_neither : observe_of (codes "Ann 1") ≡ Err BadArguments
unfolding number_within
example_neither = refl
