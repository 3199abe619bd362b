-- `match HANDLE [MINUTES INCREMENT] [unrated] [VARIANT] [COLOUR]`, short `m`: challenges a player.
use Rattle.std.specs.Prelude.{◌≡◌, ℕ, List, [], ◌∷◌, Option, Some, None, Result, Ok, Err, codes, refl}
use Rattle.chess_model.specs.declared.man.Colour.TheVariants.{White, Black}
use Rattle.chess_model.specs.declared.variant.Terms.{Terms}
use Rattle.chess_model.specs.declared.variant.Variant.TheVariants.{Chess, Bughouse, Fischer}
use Rattle.fics_words.specs.declared.refusal.Refusal.{Refusal}
use Rattle.fics_words.specs.declared.refusal.Refusal.TheVariants.{BadArguments}
use Rattle.command_words.specs.declared.command.Command.{Command}
use Rattle.command_words.specs.declared.command.Command.TheVariants.{Match}
use Rattle.command_words.specs.declared.terms.Time.{Time}
use Rattle.command_words.specs.Blanks.{Words, words_of}
use Rattle.command_words.specs.Numbers.{number_within}
use Rattle.command_words.specs.TermReading.{terms_of}
use Rattle.fics_words.specs.HandleTest.{handle_of}

-- a challenge without numbers is to a game of 2 minutes and 12 seconds a move
abbrev pub two_twelve : Time
two_twelve = record { minutes = 2; increment = 12 }

abbrev pub challenge : Option (List ℕ) → Option Terms → Result Command Refusal
challenge (Some name) (Some terms) = Ok (Match name terms)
challenge name terms = Err BadArguments

-- the first word is the name of whom the player challenges, and the others are the terms
abbrev pub challenge_of : Words → Result Command Refusal
challenge_of [] = Err BadArguments
challenge_of (name ∷ words) = challenge (handle_of name) (terms_of two_twelve words)

abbrev pub match_of : List ℕ → Result Command Refusal
match_of rest = challenge_of (words_of rest)

example_usual :
    match_of (codes "Bob")
    ≡ Ok (Match (codes "Bob") (record { minutes = 2; increment = 12; variant = Chess; colour = None }))
unfolding words_of terms_of number_within
example_usual = refl

example_all :
    match_of (codes "bob 5  0 unrated bughouse w")
    ≡ Ok (Match (codes "bob") (record { minutes = 5; increment = 0; variant = Bughouse; colour = Some White }))
unfolding words_of terms_of number_within
example_all = refl

example_nobody : match_of [] ≡ Err BadArguments
unfolding words_of
example_nobody = refl

example_one_number : match_of (codes "bob 5") ≡ Err BadArguments
unfolding words_of terms_of number_within
example_one_number = refl

example_rated : match_of (codes "bob rated") ≡ Err BadArguments
unfolding words_of terms_of number_within
example_rated = refl

example_other_order : match_of (codes "bob chess unrated") ≡ Err BadArguments
unfolding words_of terms_of number_within
example_other_order = refl

-- argument words count with case
example_fischer :
    match_of (codes "ben 2 12 fischer 0 black")
    ≡ Ok (Match (codes "ben") (record { minutes = 2; increment = 12; variant = Fischer 0; colour = Some Black }))
unfolding words_of terms_of number_within
example_fischer = refl

example_capital : match_of (codes "bob Chess") ≡ Err BadArguments
unfolding words_of terms_of number_within
example_capital = refl
