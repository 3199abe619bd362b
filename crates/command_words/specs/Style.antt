-- `style 1` and `style 12`: how boards are printed.
use Rattle.std.specs.Prelude.{◌≡◌, ℕ, if◌then◌else◌, List, Result, Ok, Err, bytes_eq, codes, refl}
use Rattle.fics_words.specs.declared.refusal.Refusal.{Refusal}
use Rattle.fics_words.specs.declared.refusal.Refusal.TheVariants.{BadArguments}
use Rattle.command_words.specs.declared.command.Command.{Command}
use Rattle.command_words.specs.declared.command.Command.TheVariants as command
use Rattle.command_words.specs.declared.style.Style.TheVariants.{One, Twelve}

abbrev pub style_of : List ℕ → Result Command Refusal
style_of rest =
    if bytes_eq rest (codes "1") then Ok (command.Style One)
    else if bytes_eq rest (codes "12") then Ok (command.Style Twelve)
    else Err BadArguments

example_twelve : style_of (codes "12") ≡ Ok (command.Style Twelve)
example_twelve = refl

example_other : style_of (codes "2") ≡ Err BadArguments
example_other = refl
