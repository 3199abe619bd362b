-- What a line asks for. This server's own.
use Rattle.std.specs.Prelude.{◌≡◌, ℕ, nat_lt, if◌then◌else◌, List, [], ◌∷◌, length, map, Option, Some, None, Result, Ok, Err, codes, refl}
use Rattle.std.specs.Char.{to_ascii_lowercase}
use Rattle.fics_words.specs.Line.{most_line_bytes}
use Rattle.chess_model.specs.declared.moves.MoveWord.{MoveWord}
use Rattle.chess_model.specs.declared.moves.MoveWord.TheVariants.{Coordinate}
use Rattle.fics_words.specs.declared.refusal.Refusal.{Refusal}
use Rattle.fics_words.specs.declared.refusal.Refusal.TheVariants.{TooLong, Unknown, BadArguments}
use Rattle.move_reader.specs.Reading.{reading}
use Rattle.command_words.specs.declared.aliases.Alias.{Alias}
use Rattle.command_words.specs.declared.command.Command.{Command}
use Rattle.command_words.specs.declared.command.Command.TheVariants as command
use Rattle.command_words.specs.Blanks.{trimmed, first_word, rest_behind_word}
use Rattle.command_words.specs.Aliases.{alias_of, expanded}
use Rattle.command_words.specs.Alias.{alias_command, unalias_command}
use Rattle.command_words.specs.Match.{match_of}
use Rattle.command_words.specs.Seek.{seek_command}
use Rattle.command_words.specs.Takeback.{takeback_of}
use Rattle.command_words.specs.Unseek.{unseek_of}
use Rattle.command_words.specs.Set.{set_of}
use Rattle.command_words.specs.Tell.{tell_of}
use Rattle.command_words.specs.Naming.{takes_named_by}
use Rattle.command_words.specs.Observe.{observe_of}
use Rattle.command_words.specs.Shapes.{maybe_named, command_named, nothing, numbered, on_channel, with_text}
use Rattle.command_words.specs.declared.rows.Bare.TheVariants.{Quit}
use Rattle.command_words.specs.declared.rows.MaybeByName.TheVariants.{Accept}
use Rattle.command_words.specs.declared.rows.Takes.{Takes}
use Rattle.command_words.specs.declared.rows.Takes.TheVariants as takes
use Rattle.command_words.specs.declared.rows.WithText.TheVariants.{Register}
use Rattle.command_words.specs.Style.{style_of}

-- what the rest of the line says, as each command reads its arguments
abbrev pub arguments_of : Takes → List ℕ → Result Command Refusal
arguments_of (takes.Nothing which) rest = nothing which rest
arguments_of (takes.Name which) rest = command_named which rest
arguments_of (takes.MaybeName which) rest = maybe_named which rest
arguments_of (takes.Text which) rest = with_text which rest
arguments_of (takes.Number which) rest = numbered which rest
arguments_of (takes.Channel which) rest = on_channel which rest
arguments_of takes.Alias rest = alias_command rest
arguments_of takes.Challenge rest = match_of rest
arguments_of takes.Look rest = observe_of rest
arguments_of takes.Seek rest = seek_command rest
arguments_of takes.Setting rest = set_of rest
arguments_of takes.Style rest = style_of rest
arguments_of takes.Takeback rest = takeback_of rest
arguments_of takes.Telling rest = tell_of rest
arguments_of takes.Unalias rest = unalias_command rest
arguments_of takes.Unseek rest = unseek_of rest

abbrev pub command_asked : Result Takes Refusal → List ℕ → Result Command Refusal
command_asked (Ok found) rest = arguments_of found rest
command_asked (Err cause) rest = Err cause

-- a move, where the text is one; else the command of its first word, of which the case of letters doesn't count
abbrev pub move_or : Option MoveWord → List ℕ → Result Command Refusal
move_or (Some word) text = Ok (command.Move word)
move_or None text = command_asked (takes_named_by (map to_ascii_lowercase (first_word text))) (rest_behind_word text)

-- what a line asks for after its alias, without blanks at its ends
abbrev pub command_of : List ℕ → Result Command Refusal
command_of [] = Ok command.Nothing
command_of (b ∷ text) = move_or (reading (b ∷ text)) (b ∷ text)

-- the line after its alias, which may have become too long
abbrev pub command_made : List ℕ → Result Command Refusal
command_made made = if nat_lt most_line_bytes (length made) then Err TooLong else command_of (trimmed made)

abbrev pub command_after : Option Alias → List ℕ → Result Command Refusal
command_after None text = command_of text
command_after (Some alias) text = command_made (expanded alias.text (rest_behind_word text))

-- what a line asks for: its first word is replaced by its alias, once
abbrev pub command_in : List Alias → List ℕ → Result Command Refusal
command_in aliases line = command_after (alias_of aliases (first_word (trimmed line))) (trimmed line)

-- a player who has made `x` stand for `accept`
abbrev pub with_x : List Alias
with_x = record { name = codes "x"; text = codes "accept" } ∷ []

example_empty : command_in [] (codes "   ") ≡ Ok command.Nothing
example_empty = refl

example_move : command_in [] (codes " e2e4 ") ≡ Ok (command.Move (Coordinate 12 28 None))
example_move = refl

example_alias : command_in with_x (codes "x  Bob") ≡ Ok (command.MaybeByName Accept (Some (codes "Bob")))
example_alias = refl

-- an alias's name is compared exactly
example_other_case : command_in with_x (codes "X Bob") ≡ Err Unknown
example_other_case = refl

example_capitals : command_in [] (codes "QUIT") ≡ Ok (command.Bare Quit)
example_capitals = refl

example_password : command_in [] (codes "register a b ") ≡ Ok (command.WithText Register (codes "a b"))
example_password = refl

example_too_much : command_in [] (codes "quit now") ≡ Err BadArguments
example_too_much = refl
