-- A line is read by the alias of its first word.
use Rattle.std.proofs.Common.{◌≡◌, ℕ, List, subst}
use Rattle.std.specs.Prelude.{Option, Result}
use Rattle.fics_words.specs.Effect.{Gives}
use Rattle.fics_words.specs.declared.fail.Fail.{Fail}
use Rattle.command_words.specs.declared.aliases.Alias.{Alias}
use Rattle.command_words.specs.declared.command.Command.{Command}
use Rattle.command_words.specs.Blanks.{trimmed, first_word, rest_behind_word}
use Rattle.command_words.specs.Aliases.{alias_of, expanded}
use Rattle.command_words.specs.Commands.{command_after, command_in, command_made}

pub read_after_is : (aliases : List Alias) (line bytes text word : List ℕ) (alias : Option Alias)
    (result : Result Command Fail)
    → bytes ≡ line → text ≡ trimmed bytes → word ≡ first_word text → alias ≡ alias_of aliases word
    → Gives (command_after alias text) result → Gives (command_in aliases line) result
read_after_is aliases line bytes text word alias result b t w a gives =
    subst (λ (x : List ℕ). Gives (command_in aliases x) result) b
    (subst (λ (x : List ℕ). Gives (command_after (alias_of aliases (first_word x)) x) result) t
    (subst (λ (x : List ℕ). Gives (command_after (alias_of aliases x) text) result) w
    (subst (λ (x : Option Alias). Gives (command_after x text) result) a gives)))

-- what an alias makes of a line is read
pub made_is : (alias_text text bytes rest made slice : List ℕ) (result : Result Command Fail)
    → bytes ≡ alias_text → rest ≡ rest_behind_word text → made ≡ expanded bytes rest → slice ≡ made
    → Gives (command_made slice) result → Gives (command_made (expanded alias_text (rest_behind_word text))) result
made_is alias_text text bytes rest made slice result b r m s gives =
    subst (λ (x : List ℕ). Gives (command_made (expanded x (rest_behind_word text))) result) b
    (subst (λ (x : List ℕ). Gives (command_made (expanded bytes x)) result) r
    (subst (λ (x : List ℕ). Gives (command_made x) result) m
    (subst (λ (x : List ℕ). Gives (command_made x) result) s gives)))
