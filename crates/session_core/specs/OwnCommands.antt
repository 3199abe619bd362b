-- Commands that a session carries out by itself, with no act: those on its aliases and on its style. This server's own.
use Rattle.std.specs.Prelude.{ℕ, List, Result, Ok, Err}
use Rattle.command_words.specs.Aliases.{setting, unsetting}
use Rattle.command_words.specs.declared.aliases.Alias.{Alias}
use Rattle.fics_words.specs.Effect.{Effect, answer_of, state_of}
use Rattle.fics_words.specs.declared.refusal.Refusal.{Refusal}
use Rattle.session_core.specs.declared.own_commands.OwnCommand.{OwnCommand}
use Rattle.session_core.specs.declared.own_commands.OwnCommand.TheVariants as own
use Rattle.session_core.specs.Memory.{MemoryState}
use Rattle.session_core.specs.Texts.{done_line, refusal_line}

-- what comes of a command that a session carries out by itself: the line that it writes, and what it remembers then
pub record OwnAnswer : Type 0 where
  pub line : List ℕ
  pub memory : MemoryState

-- the line of what was done, or refused
abbrev pub own_line : Result (Unit {0}) Refusal → List ℕ
own_line (Ok done) = done_line
own_line (Err cause) = refusal_line cause

-- a change of the aliases
abbrev pub aliasing : Effect (List Alias) (Unit {0}) → MemoryState → OwnAnswer
aliasing effect memory = record {
  line = own_line (answer_of effect);
  memory = record memory { aliases = state_of memory.aliases effect };
}

-- what a session does by itself: boards are printed in that style, and a name stands for a text, or for nothing
abbrev pub own_answer : OwnCommand → MemoryState → OwnAnswer
own_answer (own.Style style) memory = record { line = done_line; memory = record memory { style = style } }
own_answer (own.Alias name text) memory = aliasing (setting memory.aliases name text) memory
own_answer (own.Unalias name) memory = aliasing (unsetting memory.aliases name) memory
