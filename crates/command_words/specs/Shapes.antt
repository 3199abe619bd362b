-- The arguments that several commands take alike: nothing, a handle, a text, a number, a channel.
use Rattle.std.specs.Prelude.{◌≡◌, ℕ, if◌then◌else◌, List, [], ◌∷◌, Option, Some, None, Result, Ok, Err, codes, refl}
use Rattle.fics_words.specs.declared.refusal.Refusal.{Refusal}
use Rattle.fics_words.specs.declared.refusal.Refusal.TheVariants.{BadArguments, BadChannel}
use Rattle.command_words.specs.declared.command.Command.{Command}
use Rattle.command_words.specs.declared.command.Command.TheVariants as command
use Rattle.command_words.specs.declared.rows.Bare.{Bare}
use Rattle.command_words.specs.declared.rows.ByName.{ByName}
use Rattle.command_words.specs.declared.rows.ByName.TheVariants.{GoBoard}
use Rattle.command_words.specs.declared.rows.MaybeByName.{MaybeByName}
use Rattle.command_words.specs.declared.rows.MaybeByName.TheVariants.{Accept}
use Rattle.command_words.specs.declared.rows.WithText.{WithText}
use Rattle.command_words.specs.declared.rows.ByNumber.{ByNumber}
use Rattle.command_words.specs.declared.rows.ByNumber.TheVariants.{Play}
use Rattle.command_words.specs.declared.rows.OnChannel.{OnChannel}
use Rattle.command_words.specs.declared.rows.OnChannel.TheVariants.{Ask, Join}
use Rattle.command_words.specs.Blanks.{first_word}
use Rattle.command_words.specs.Numbers.{is_no_channel, number_within}
use Rattle.fics_words.specs.HandleTest.{handle_of}
use Rattle.command_words.specs.Texts.{is_message_text}

-- the command of what was read, if it could be read
abbrev pub read_as : {V : Type 0} → (V → Command) → Option V → Result Command Refusal
read_as made None = Err BadArguments
read_as made (Some value) = Ok (made value)

abbrev pub nothing : Bare → List ℕ → Result Command Refusal
nothing which [] = Ok (command.Bare which)
nothing which (b ∷ rest) = Err BadArguments

abbrev pub command_named : ByName → List ℕ → Result Command Refusal
command_named which rest = read_as (command.ByName which) (handle_of rest)

-- a handle or nothing
abbrev pub maybe_named : MaybeByName → List ℕ → Result Command Refusal
maybe_named which [] = Ok (command.MaybeByName which None)
maybe_named which (b ∷ rest) = read_as (λ name. command.MaybeByName which (Some name)) (handle_of (b ∷ rest))

abbrev pub with_text : WithText → List ℕ → Result Command Refusal
with_text which rest = if is_message_text rest then Ok (command.WithText which rest) else Err BadArguments

-- a decimal up to 65,535
abbrev pub numbered : ByNumber → List ℕ → Result Command Refusal
numbered which rest = read_as (command.ByNumber which) (number_within 65535 rest)

-- a channel: a decimal above 255 is refused as such, also where more stands behind it
abbrev pub on_channel : OnChannel → List ℕ → Result Command Refusal
on_channel which rest =
    if is_no_channel (first_word rest) then Err BadChannel
    else read_as (command.OnChannel which) (number_within 255 rest)

example_player : maybe_named Accept (codes "Bob") ≡ Ok (command.MaybeByName Accept (Some (codes "Bob")))
example_player = refl

example_nobody : maybe_named Accept (codes "") ≡ Ok (command.MaybeByName Accept None)
example_nobody = refl

example_two : command_named GoBoard (codes "Bob Ann") ≡ Err BadArguments
example_two = refl

example_join : on_channel Join (codes "255") ≡ Ok (command.OnChannel Join 255)
unfolding number_within
example_join = refl

example_no_channel : on_channel Ask (codes "256 x") ≡ Err BadChannel
unfolding number_within
example_no_channel = refl

example_number : numbered Play (codes "1") ≡ Ok (command.ByNumber Play 1)
unfolding number_within
example_number = refl
