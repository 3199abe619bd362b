-- The lines of a replay script, which say what comes from whom and when: this server's own grammar.
use Rattle.std.specs.Prelude.{ℕ, ◌≤◌, List, [], ◌∷◌, codes, decimal}
use Rattle.std.specs.List.{join_with_byte}
use Rattle.clock_ledger.specs.Charges.{last_moment}
use Rattle.clock_ledger.specs.Span.{IsStamp}
use Rattle.fics_words.specs.Line.{IsLine}
use Rattle.fics_words.specs.Blank.{blank}
use Rattle.replay_core.specs.declared.script.ScriptEvent.{ScriptEvent}
use Rattle.replay_core.specs.declared.script.ScriptEvent.TheVariants.{Connect, Cut, Quiet, Plain, Stamped, Ack}
use Rattle.replay_core.specs.declared.script.ScriptLine.{ScriptLine}

-- what can come from a session
abbrev pub IsScriptEvent : ScriptEvent → Type 0
IsScriptEvent Connect = Unit {0}
IsScriptEvent Cut = Unit {0}
IsScriptEvent Quiet = Unit {0}
IsScriptEvent (Plain text) = IsLine text
IsScriptEvent (Stamped stamp text) = IsStamp stamp × IsLine text
IsScriptEvent (Ack stamp) = IsStamp stamp

-- moments are milliseconds, and a script has up to 64 sessions
pub record IsScriptLine (line : ScriptLine) : Type 0 where
  pub moment : line.moment ≤ last_moment
  pub first : 1 ≤ line.session
  pub last : line.session ≤ 64
  pub event : IsScriptEvent line.event

-- how an event is written
abbrev pub event_text : ScriptEvent → List ℕ
event_text Connect = codes "+"
event_text Cut = codes "-"
event_text Quiet = codes "?"
event_text (Plain text) = join_with_byte blank (codes ">" ∷ text ∷ [])
event_text (Stamped stamp text) = join_with_byte blank (codes "*" ∷ decimal stamp ∷ text ∷ [])
event_text (Ack stamp) = join_with_byte blank (codes "!" ∷ decimal stamp ∷ [])

-- the one way in which a line is written: the moment, the session and the event, with one blank between them
abbrev pub script_text : ScriptLine → List ℕ
script_text line = join_with_byte blank (decimal line.moment ∷ decimal line.session ∷ event_text line.event ∷ [])
