-- `seek [MINUTES INCREMENT] [unrated] [VARIANT] [COLOUR]`: offers a game to whoever takes it.
use Rattle.std.specs.Prelude.{◌≡◌, ℕ, List, [], Some, None, Result, Ok, Err, codes, refl}
use Rattle.chess_model.specs.declared.man.Colour.TheVariants.{White}
use Rattle.chess_model.specs.declared.variant.Variant.TheVariants.{Chess, Crazyhouse, Fischer}
use Rattle.fics_words.specs.declared.refusal.Refusal.{Refusal}
use Rattle.fics_words.specs.declared.refusal.Refusal.TheVariants.{BadArguments}
use Rattle.command_words.specs.declared.command.Command.{Command}
use Rattle.command_words.specs.declared.command.Command.TheVariants.{Seek}
use Rattle.command_words.specs.declared.terms.Time.{Time}
use Rattle.command_words.specs.Blanks.{words_of}
use Rattle.command_words.specs.Numbers.{number_within}
use Rattle.command_words.specs.Shapes.{read_as}
use Rattle.command_words.specs.TermReading.{terms_of}

-- a seek without numbers is of a game of 5 minutes and nothing a move
abbrev pub five_nothing : Time
five_nothing = record { minutes = 5; increment = 0 }

abbrev pub seek_command : List ℕ → Result Command Refusal
seek_command rest = read_as Seek (terms_of five_nothing (words_of rest))

example_usual : seek_command [] ≡ Ok (Seek (record { minutes = 5; increment = 0; variant = Chess; colour = None }))
unfolding words_of terms_of number_within
example_usual = refl

example_all :
    seek_command (codes "3 2 unrated crazyhouse white")
    ≡ Ok (Seek (record { minutes = 3; increment = 2; variant = Crazyhouse; colour = Some White }))
unfolding words_of terms_of number_within
example_all = refl

example_fischer :
    seek_command (codes "5 0 fischer 518")
    ≡ Ok (Seek (record { minutes = 5; increment = 0; variant = Fischer 518; colour = None }))
unfolding words_of terms_of number_within
example_fischer = refl

example_no_array : seek_command (codes "5 0 fischer") ≡ Err BadArguments
unfolding words_of terms_of number_within
example_no_array = refl

example_array_too_great : seek_command (codes "5 0 fischer 960") ≡ Err BadArguments
unfolding words_of terms_of number_within
example_array_too_great = refl

example_rated : seek_command (codes "5 0 rated") ≡ Err BadArguments
unfolding words_of terms_of number_within
example_rated = refl
