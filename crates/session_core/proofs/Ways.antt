-- What is true of the way of each command.
use Rattle.std.proofs.Common.{◌≡◌, Bool, true, false, None, Ok, refl}
use Rattle.command_words.specs.declared.command.Command.{Command}
use Rattle.command_words.specs.declared.command.Command.TheVariants as command
use Rattle.command_words.specs.declared.rows.Bare.TheVariants.{Quit}
use Rattle.command_words.specs.declared.rows.ByName.TheVariants.{AddCensor}
use Rattle.command_words.specs.declared.rows.ByNumber.TheVariants.{Play}
use Rattle.command_words.specs.declared.rows.MaybeByName.TheVariants.{Accept, Decline}
use Rattle.command_words.specs.declared.rows.OnChannel.TheVariants.{Ask}
use Rattle.command_words.specs.declared.rows.WithText.TheVariants.{Kibitz}
use Rattle.one_server.specs.declared.act.Act.TheVariants.{Desk}
use Rattle.session_core.specs.declared.way.Way.{Way}
use Rattle.session_core.specs.declared.way.Way.TheVariants as way
use Rattle.session_core.specs.Inputs.{is_quit}
use Rattle.session_core.specs.Laws.{is_played_move}
use Rattle.session_core.specs.Stages.{way_asks_places}
use Rattle.session_core.specs.Ways.{way_of}

-- the act of a way is a half-move
abbrev pub makes_move : Way → Bool
makes_move (way.Server act) = is_played_move act
makes_move (way.Desk act) = is_played_move (Desk 0 0 act)
makes_move _ = false

abbrev pub is_leaving : Way → Bool
is_leaving way.Leave = true
is_leaving _ = false

-- the act of a way is neither the question for the places nor a half-move, and only to quit is to leave
pub record IsUsual (asked : Command) (way : Way) : Type 0 where
  pub asks : way_asks_places way ≡ false
  pub still : makes_move way ≡ false
  pub leaves : is_leaving way ≡ is_quit (Ok asked)

pub goes_as_usual : (asked : Command) → IsUsual asked (way_of asked)
goes_as_usual (command.Bare Quit) = record { asks = refl; still = refl; leaves = refl }
goes_as_usual (command.ByName AddCensor name) = record { asks = refl; still = refl; leaves = refl }
goes_as_usual (command.MaybeByName Accept None) = record { asks = refl; still = refl; leaves = refl }
goes_as_usual (command.MaybeByName Decline None) = record { asks = refl; still = refl; leaves = refl }
goes_as_usual (command.WithText Kibitz text) = record { asks = refl; still = refl; leaves = refl }
goes_as_usual (command.ByNumber Play number) = record { asks = refl; still = refl; leaves = refl }
goes_as_usual (command.OnChannel Ask number) = record { asks = refl; still = refl; leaves = refl }
goes_as_usual _ = record { asks = refl; still = refl; leaves = refl }
