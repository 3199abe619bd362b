-- `tell HANDLE TEXT` and `tell N TEXT`, short `t`: says something to a player, or to all others in a channel.
use Rattle.std.specs.Prelude.{◌≡◌, ℕ, if◌then◌else◌, List, Option, Some, None, Result, Ok, Err, codes, refl}
use Rattle.fics_words.specs.declared.refusal.Refusal.{Refusal}
use Rattle.fics_words.specs.declared.refusal.Refusal.TheVariants.{BadArguments, BadChannel}
use Rattle.command_words.specs.declared.command.Command.{Command}
use Rattle.command_words.specs.declared.command.Command.TheVariants.{Tell, TellChannel}
use Rattle.command_words.specs.Blanks.{first_word, rest_behind_word}
use Rattle.command_words.specs.Numbers.{is_no_channel, number_within}
use Rattle.fics_words.specs.HandleTest.{handle_of}
use Rattle.command_words.specs.Texts.{is_message_text}

abbrev pub telling : Option (List ℕ) → List ℕ → Result Command Refusal
telling None text = Err BadArguments
telling (Some name) text = if is_message_text text then Ok (Tell name text) else Err BadArguments

-- a word that is the number of a channel names that, and another a player
abbrev pub telling_to : Option ℕ → List ℕ → List ℕ → Result Command Refusal
telling_to None word text = telling (handle_of word) text
telling_to (Some channel) word text = if is_message_text text then Ok (TellChannel channel text) else Err BadArguments

abbrev pub tell_to : List ℕ → List ℕ → Result Command Refusal
tell_to word text = if is_no_channel word then Err BadChannel else telling_to (number_within 255 word) word text

abbrev pub tell_of : List ℕ → Result Command Refusal
tell_of rest = tell_to (first_word rest) (rest_behind_word rest)

example_player : tell_of (codes "Bob  hi there") ≡ Ok (Tell (codes "Bob") (codes "hi there"))
unfolding number_within
example_player = refl

example_no_text : tell_of (codes "Bob") ≡ Err BadArguments
unfolding number_within
example_no_text = refl

example_channel : tell_of (codes "255 hi") ≡ Ok (TellChannel 255 (codes "hi"))
unfolding number_within
example_channel = refl

example_no_channel : tell_of (codes "256") ≡ Err BadChannel
unfolding number_within
example_no_channel = refl

example_leading_zero : tell_of (codes "0300 hi") ≡ Err BadArguments
unfolding number_within
example_leading_zero = refl
