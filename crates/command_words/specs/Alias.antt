-- `alias NAME TEXT`: makes the name stand for the text. `unalias NAME`: it stands for nothing any more.
use Rattle.std.specs.Prelude.{◌≡◌, ℕ, ◌&&◌, if◌then◌else◌, List, Result, Ok, Err, codes, refl}
use Rattle.fics_words.specs.declared.refusal.Refusal.{Refusal}
use Rattle.fics_words.specs.declared.refusal.Refusal.TheVariants.{BadArguments}
use Rattle.command_words.specs.declared.command.Command.{Command}
use Rattle.command_words.specs.declared.command.Command.TheVariants.{Alias, Unalias}
use Rattle.command_words.specs.Aliases.{is_alias_name}
use Rattle.command_words.specs.Blanks.{first_word, rest_behind_word}
use Rattle.command_words.specs.Texts.{is_message_text}

abbrev pub alias_from : List ℕ → List ℕ → Result Command Refusal
alias_from name text = if is_alias_name name && is_message_text text then Ok (Alias name text) else Err BadArguments

abbrev pub alias_command : List ℕ → Result Command Refusal
alias_command rest = alias_from (first_word rest) (rest_behind_word rest)

abbrev pub unalias_command : List ℕ → Result Command Refusal
unalias_command rest = if is_alias_name rest then Ok (Unalias rest) else Err BadArguments

example_text : alias_command (codes "x  tell 1 $@") ≡ Ok (Alias (codes "x") (codes "tell 1 $@"))
example_text = refl

example_no_text : alias_command (codes "x") ≡ Err BadArguments
example_no_text = refl

example_capital : alias_command (codes "X e4") ≡ Err BadArguments
example_capital = refl

example_gone : unalias_command (codes "x") ≡ Ok (Unalias (codes "x"))
example_gone = refl

example_two : unalias_command (codes "x y") ≡ Err BadArguments
example_two = refl
