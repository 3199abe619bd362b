-- The terms of a challenge and of a seek that were read are within their bounds, and so are texts.
use Rattle.std.proofs.Common.{◌≡◌, ℕ, ◌≤◌, List, [], ◌∷◌, Ok, Err, Result, refl, sym, ap, subst, inl, inr, rules}
use Rattle.std.specs.declared.option.Option.{Option}
use Rattle.std.specs.declared.option.Option.TheVariants.{None, Some}
use Rattle.std.specs.Prelude.{Bool, true, false, ◌==◌, if◌then◌else◌, ◌&&◌, bytes_eq, codes, find, length, map, nat_le, nat_lt}
use Rattle.std.specs.Char.{to_ascii_lowercase}
use Rattle.chess_model.specs.declared.moves.MoveWord.{MoveWord}
use Rattle.chess_model.specs.declared.man.Colour.{Colour}
use Rattle.chess_model.specs.declared.variant.Terms.{Terms}
use Rattle.chess_model.specs.declared.variant.Variant.{Variant}
use Rattle.chess_model.specs.declared.variant.Variant.TheVariants.{Chess}
use Rattle.fics_words.specs.declared.refusal.Refusal.{Refusal}
use Rattle.fics_words.specs.declared.refusal.Refusal.TheVariants.{BadArguments, BadChannel, TooLong}
use Rattle.lobby_state.specs.Terms.{AreTerms}
use Rattle.move_reader.specs.Reading.{reading}
use Rattle.command_words.specs.declared.aliases.Alias.{Alias}
use Rattle.command_words.specs.declared.command.Command.{Command}
use Rattle.command_words.specs.declared.command.Command.TheVariants as command
use Rattle.command_words.specs.Aliases.{alias_of, expanded, is_alias_name}
use Rattle.command_words.specs.Blanks.{Words, first_word, rest_behind_word, trimmed, words_of}
use Rattle.command_words.specs.Commands.{arguments_of, command_asked, command_after, command_in, command_made, command_of, move_or}
use Rattle.command_words.specs.Match.{challenge, challenge_of, two_twelve}
use Rattle.chess_model.specs.VariantWord.{IsNumbered}
use Rattle.command_words.specs.Observe.{observe_from}
use Rattle.command_words.specs.Seek.{five_nothing}
use Rattle.command_words.specs.Naming.{takes_named_by}
use Rattle.command_words.specs.Shapes.{maybe_named, nothing, read_as}
use Rattle.command_words.specs.declared.rows.Bare.{Bare}
use Rattle.command_words.specs.declared.rows.Bare.TheVariants.{Quit}
use Rattle.command_words.specs.declared.rows.ByName.TheVariants.{AddCensor}
use Rattle.command_words.specs.declared.rows.ByNumber.TheVariants.{Play}
use Rattle.command_words.specs.declared.rows.MaybeByName.{MaybeByName}
use Rattle.command_words.specs.declared.rows.MaybeByName.TheVariants.{Accept, Decline}
use Rattle.command_words.specs.declared.rows.OnChannel.TheVariants.{Ask}
use Rattle.command_words.specs.declared.rows.Takes.{Takes}
use Rattle.command_words.specs.declared.rows.Takes.TheVariants as takes
use Rattle.command_words.specs.declared.rows.WithText.TheVariants.{Register}
use Rattle.command_words.specs.declared.variables.Values.{Values}
use Rattle.command_words.specs.declared.variables.Values.TheVariants.{OnOff}
use Rattle.command_words.specs.Numbers.{is_no_channel, number_within}
use Rattle.command_words.specs.Set.{is_variable, on_or_off, set_to, setting_of, values_in_row, variables}
use Rattle.command_words.specs.Tell.{tell_to, telling, telling_to}
use Rattle.command_words.specs.Takeback.{takeback_from, takeback_of}
use Rattle.command_words.specs.TermReading.{agreed_terms, terms_of}
use Rattle.command_words.specs.Unseek.{unseek_of}
use Rattle.command_words.specs.TermWords.{SpellsTerms, SpellsTime, UsualTime, time_of}
use Rattle.fics_words.specs.HandleTest.{handle_of}
use Rattle.command_words.specs.Texts.{is_message_text}
use Rattle.fics_words.proofs.HandleTests.{at_least}
use Rattle.command_words.proofs.TermParts.{are_read_as_spelled}
use Rattle.session_core.specs.Stages.{FitsWay}
use Rattle.session_core.specs.Ways.{way_of}
use Rattle.std.proofs.lemmas.Bool.{and_parts}

-- a time that was spelled is within its bounds, where the usual one is
spelled_fits : (usual : UsualTime) (words : Words) (terms : Terms) → usual.minutes ≤ 600 → usual.increment ≤ 600
    → SpellsTime usual words (time_of terms) → IsNumbered terms.variant → AreTerms terms
spelled_fits usual words terms few short (inl s) numbered =
    record { minutes = s.0; increment = s.1; numbered = numbered }
spelled_fits usual words terms few short (inr s) numbered = record {
  minutes =
      subst (λ (n : ℕ). n ≤ 600)
      (sym (ap (λ (f : Variant → Option Colour → Terms). (f Chess None).minutes) (ap agreed_terms s.1))) few;
  increment =
      subst (λ (n : ℕ). n ≤ 600)
      (sym (ap (λ (f : Variant → Option Colour → Terms). (f Chess None).increment) (ap agreed_terms s.1))) short;
  numbered = numbered;
}

-- the terms and the text of a command are within their bounds
abbrev FitsCommand : Command → Type 0
FitsCommand (command.Match name terms) = AreTerms terms
FitsCommand (command.Seek terms) = AreTerms terms
FitsCommand (command.WithText which text) = length text ≤ 800
FitsCommand (command.Tell name text) = length text ≤ 800
FitsCommand (command.TellChannel channel text) = length text ≤ 800
FitsCommand _ = Unit {0}

-- so its way fits
way_fits : (command_asked : Command) → FitsCommand command_asked → FitsWay (way_of command_asked)
way_fits (command.Match name terms) fits = fits
way_fits (command.Seek terms) fits = fits
way_fits (command.Tell name text) fits = fits
way_fits (command.TellChannel channel text) fits = fits
way_fits (command.WithText Register text) fits = tt
way_fits (command.WithText _ text) fits = fits
way_fits (command.Bare Quit) fits = tt
way_fits (command.ByName AddCensor name) fits = tt
way_fits (command.MaybeByName Accept None) fits = tt
way_fits (command.MaybeByName Decline None) fits = tt
way_fits (command.ByNumber Play number) fits = tt
way_fits (command.OnChannel Ask number) fits = tt
way_fits _ fits = tt

-- what the answer of a reader asks for
abbrev FitsAnswer : Result Command Refusal → Type 0
FitsAnswer (Ok command) = FitsCommand command
FitsAnswer (Err cause) = Unit {0}

challenge_fits : (name : Option (List ℕ)) (words : Words) (terms : Option Terms) → terms ≡ terms_of two_twelve words
    → FitsAnswer (challenge name terms)
challenge_fits (Some name) words (Some terms) is =
    let s : SpellsTerms two_twelve words terms = (are_read_as_spelled two_twelve words terms).0 (sym is) in
    spelled_fits two_twelve s.time terms (search rules) (search rules) s.spells_time s.numbered
challenge_fits (Some name) words None is = tt
challenge_fits None words terms is = tt

challenge_of_fits : (words : Words) → FitsAnswer (challenge_of words)
challenge_of_fits [] = tt
challenge_of_fits (name ∷ words) = challenge_fits (handle_of name) words (terms_of two_twelve words) refl

either_fits : (is : Bool) (a b : Result Command Refusal) → FitsAnswer a → FitsAnswer b
    → FitsAnswer (if is then a else b)
either_fits true a b p q = p
either_fits false a b p q = q

-- what is read fits, where it does whatever is read
read_as_fits : {V : Type 0} (made : V → Command) (value : Option V) → ((v : V) → FitsCommand (made v))
    → FitsAnswer (read_as made value)
read_as_fits made None fits = tt
read_as_fits made (Some value) fits = fits value

seeking_fits : (words : Words) (terms : Option Terms) → terms ≡ terms_of five_nothing words
    → FitsAnswer (read_as command.Seek terms)
seeking_fits words (Some terms) is =
    let s : SpellsTerms five_nothing words terms = (are_read_as_spelled five_nothing words terms).0 (sym is) in
    spelled_fits five_nothing s.time terms (search rules) (search rules) s.spells_time s.numbered
seeking_fits words None is = tt

unseek_fits : (rest : List ℕ) → FitsAnswer (unseek_of rest)
unseek_fits [] = tt
unseek_fits (b ∷ rest) = read_as_fits _ (number_within 65535 (b ∷ rest)) (λ number. tt)

takeback_from_fits : (number : Option ℕ) → FitsAnswer (takeback_from number)
takeback_from_fits None = tt
takeback_from_fits (Some number) = either_fits (number == 0) (Err BadArguments) (Ok (command.Takeback number)) tt tt

takeback_fits : (rest : List ℕ) → FitsAnswer (takeback_of rest)
takeback_fits [] = tt
takeback_fits (b ∷ rest) = takeback_from_fits (number_within 1200 (b ∷ rest))

-- a text that was read has at most 800 bytes
text_short : (text : List ℕ) → is_message_text text ≡ true → length text ≤ 800
text_short text e = at_least (length text) 800 (and_parts _ _ (and_parts (nat_le 1 (length text)) _ e).1).0

-- so has what is read of a text
text_fits : (made : List ℕ → Command) (text : List ℕ) → (length text ≤ 800 → FitsCommand (made text))
    → FitsAnswer (if is_message_text text then Ok (made text) else Err BadArguments)
text_fits made text fits =
    elim (is_message_text text)
    as (λ is. is_message_text text ≡ is → FitsAnswer (if is then Ok (made text) else Err BadArguments)) [
      | true ↦ λ e. fits (text_short text e)
      | false ↦ λ e. tt
    ] refl

telling_fits : (name : Option (List ℕ)) (text : List ℕ) → FitsAnswer (telling name text)
telling_fits None text = tt
telling_fits (Some name) text = text_fits (command.Tell name) text (λ short. short)

telling_to_fits : (channel : Option ℕ) (word text : List ℕ) → FitsAnswer (telling_to channel word text)
telling_to_fits None word text = telling_fits (handle_of word) text
telling_to_fits (Some channel) word text = text_fits (command.TellChannel channel) text (λ short. short)

observe_fits : (number : Option ℕ) (handle : Option (List ℕ)) → FitsAnswer (observe_from number handle)
observe_fits None handle = read_as_fits command.ObservePlayer handle (λ handle. tt)
observe_fits (Some number) handle = tt

tell_fits : (word text : List ℕ) → FitsAnswer (tell_to word text)
tell_fits word text =
    either_fits (is_no_channel word) (Err BadChannel) (telling_to (number_within 255 word) word text) tt
    (telling_to_fits (number_within 255 word) word text)

set_to_fits : (values : Option Values) (value : List ℕ) → FitsAnswer (set_to values value)
set_to_fits None value = tt
set_to_fits (Some (OnOff which)) value = read_as_fits (command.Set which) (on_or_off value) (λ on. tt)

setting_fits : (words : Words) → FitsAnswer (setting_of words)
setting_fits (name ∷ value ∷ []) = set_to_fits (values_in_row (find (is_variable name) variables)) value
setting_fits _ = tt

nothing_fits : (which : Bare) (rest : List ℕ) → FitsAnswer (nothing which rest)
nothing_fits which [] = tt
nothing_fits which (b ∷ rest) = tt

maybe_named_fits : (which : MaybeByName) (rest : List ℕ) → FitsAnswer (maybe_named which rest)
maybe_named_fits which [] = tt
maybe_named_fits which (b ∷ rest) = read_as_fits _ (handle_of (b ∷ rest)) (λ name. tt)

arguments_fit : (found : Takes) (rest : List ℕ) → FitsAnswer (arguments_of found rest)
arguments_fit (takes.Nothing which) rest = nothing_fits which rest
arguments_fit (takes.Name which) rest = read_as_fits (command.ByName which) (handle_of rest) (λ name. tt)
arguments_fit (takes.MaybeName which) rest = maybe_named_fits which rest
arguments_fit (takes.Text which) rest = text_fits (command.WithText which) rest (λ short. short)
arguments_fit (takes.Number which) rest =
    read_as_fits (command.ByNumber which) (number_within 65535 rest) (λ number. tt)
arguments_fit (takes.Channel which) rest =
    either_fits (is_no_channel (first_word rest)) (Err BadChannel) _ tt
    (read_as_fits (command.OnChannel which) (number_within 255 rest) (λ number. tt))
arguments_fit takes.Alias rest =
    either_fits (is_alias_name (first_word rest) && is_message_text (rest_behind_word rest))
    (Ok (command.Alias (first_word rest) (rest_behind_word rest))) (Err BadArguments) tt tt
arguments_fit takes.Challenge rest = challenge_of_fits (words_of rest)
arguments_fit takes.Look rest = observe_fits (number_within 65535 rest) (handle_of rest)
arguments_fit takes.Seek rest = seeking_fits (words_of rest) (terms_of five_nothing (words_of rest)) refl
arguments_fit takes.Setting rest = setting_fits (words_of rest)
arguments_fit takes.Style rest =
    either_fits (bytes_eq rest (codes "1")) _ _ tt (either_fits (bytes_eq rest (codes "12")) _ _ tt tt)
arguments_fit takes.Takeback rest = takeback_fits rest
arguments_fit takes.Telling rest = tell_fits (first_word rest) (rest_behind_word rest)
arguments_fit takes.Unalias rest = either_fits (is_alias_name rest) (Ok (command.Unalias rest)) (Err BadArguments) tt tt
arguments_fit takes.Unseek rest = unseek_fits rest

asked_fits : (found : Result Takes Refusal) (rest : List ℕ) → FitsAnswer (command_asked found rest)
asked_fits (Ok found) rest = arguments_fit found rest
asked_fits (Err cause) rest = tt

move_fits : (word : Option MoveWord) (text : List ℕ) → FitsAnswer (move_or word text)
move_fits (Some word) text = tt
move_fits None text = asked_fits (takes_named_by (map to_ascii_lowercase (first_word text))) (rest_behind_word text)

command_fits : (text : List ℕ) → FitsAnswer (command_of text)
command_fits [] = tt
command_fits (b ∷ text) = move_fits (reading (b ∷ text)) (b ∷ text)

made_fits : (made : List ℕ) → FitsAnswer (command_made made)
made_fits made =
    either_fits (nat_lt 1023 (length made)) (Err TooLong) (command_of (trimmed made)) tt (command_fits (trimmed made))

after_fits : (alias : Option Alias) (text : List ℕ) → FitsAnswer (command_after alias text)
after_fits None text = command_fits text
after_fits (Some alias) text = made_fits (expanded alias.text (rest_behind_word text))

-- what was read of a line can be asked for
read_fits : (aliases : List Alias) (line : List ℕ) → FitsAnswer (command_in aliases line)
read_fits aliases line = after_fits (alias_of aliases (first_word (trimmed line))) (trimmed line)

pub command_read : (aliases : List Alias) (line : List ℕ) (command_asked : Command)
    → command_in aliases line ≡ Ok command_asked
    → FitsWay (way_of command_asked)
command_read aliases line command_asked is = way_fits command_asked (subst FitsAnswer is (read_fits aliases line))
