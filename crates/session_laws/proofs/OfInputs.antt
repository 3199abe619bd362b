-- No input makes a session tell save orders as saved, wherever it stands.
use Rattle.std.proofs.Common.{ℕ, Ok, Err, Result, List, [], ◌∷◌}
use Rattle.std.specs.declared.option.Option.{Option}
use Rattle.std.specs.declared.option.Option.TheVariants.{None, Some}
use Rattle.command_words.specs.Commands.{command_in}
use Rattle.fics_words.specs.HandleTest.{handle_of}
use Rattle.command_words.specs.declared.command.Command.{Command}
use Rattle.fics_words.specs.declared.refusal.Refusal.{Refusal}
use Rattle.fics_words.specs.declared.refusal.Refusal.TheVariants as refusal
use Rattle.line_reader.specs.declared.incoming.Incoming.{Incoming}
use Rattle.line_reader.specs.declared.incoming.Incoming.TheVariants as incoming
use Rattle.session_core.specs.declared.input.Input.{Input}
use Rattle.session_core.specs.declared.input.Input.TheVariants.{Line, Quiet}
use Rattle.session_asks.specs.declared.standing.LinkMark.TheVariants.{Stamped}
use Rattle.session_asks.specs.declared.standing.Standing.{Standing}
use Rattle.session_asks.specs.declared.standing.Standing.TheVariants as standing
use Rattle.session_core.specs.Course.{Done}
use Rattle.session_core.specs.Inputs.{ack_course, asked_course, input_course, is_greeting, line_course, past_line}
use Rattle.session_core.specs.Inputs.{quiet_course, refusing, stamp_on, text_course}
use Rattle.session_core.specs.Login.{enter_course, entering_named, is_guest, name_course, proving}
use Rattle.session_core.specs.Memory.{MemoryState, present_in, memory_told}
use Rattle.session_core.specs.Session.{acked_at}
use Rattle.session_laws.proofs.NeverSaving.{NeverSaves, never_either}
use Rattle.session_laws.proofs.OfCommands.{never_command, never_round}
use Rattle.simul_control.specs.declared.place.Place.{Place}

-- 1. The login.
never_entering : (name digest : Option (List ℕ)) (memory : MemoryState) → NeverSaves (enter_course name digest memory)
never_entering name digest memory = (λ is. is, λ r. tt)

never_named : (name : Option (List ℕ)) (memory : MemoryState) → NeverSaves (entering_named name memory)
never_named None memory = tt
never_named (Some name) memory = never_entering (Some name) None memory

never_naming : (text : List ℕ) (memory : MemoryState) → NeverSaves (name_course text memory)
never_naming [] memory = tt
never_naming (b ∷ text) memory =
    never_either (is_guest (b ∷ text)) (enter_course None None memory) (entering_named (handle_of (b ∷ text)) memory)
    (never_entering None None memory) (never_named (handle_of (b ∷ text)) memory)

never_proving : (name text : List ℕ) (memory : MemoryState) → NeverSaves (proving name text memory)
never_proving name [] memory = tt
never_proving name (b ∷ text) memory = (λ is. is, λ r. tt)

-- 2. Lines.
never_asked : (asked : Result Command Refusal) (stamp : Option ℕ) (memory : MemoryState)
    → NeverSaves (asked_course asked stamp memory)
never_asked (Ok asked) stamp memory = never_command asked stamp memory
never_asked (Err cause) stamp memory = never_round memory

never_text : (text : List ℕ) (stamp : Option ℕ) (at : Standing) (memory : MemoryState)
    → NeverSaves (text_course text stamp at memory)
never_text text stamp standing.Login memory = never_naming text memory
never_text text stamp (standing.Password name) memory = never_proving name text memory
never_text text stamp (standing.In name) memory = never_asked (command_in memory.aliases text) stamp memory
never_text text stamp standing.Gone memory = tt

never_refusing : (cause : Refusal) (at : Standing) (memory : MemoryState) → NeverSaves (refusing cause at memory)
never_refusing cause (standing.In name) memory = never_round memory
never_refusing cause _ memory = tt

never_acked : (stamp : ℕ) (place : Option Place) (memory : MemoryState) → NeverSaves (acked_at stamp place memory)
never_acked stamp None memory = tt
never_acked stamp (Some place) memory = (λ is. is, λ r. tt)

never_ack : (stamp : ℕ) (at : Standing) (memory : MemoryState) → NeverSaves (ack_course stamp at memory)
never_ack stamp (standing.In name) memory =
    (λ is. is, λ r. never_acked stamp (present_in (memory_told memory r)) (memory_told memory r))
never_ack stamp _ memory = tt

never_line : (line : Incoming) (memory : MemoryState) → NeverSaves (line_course line memory)
never_line (incoming.Plain text) memory = never_text text None memory.standing memory
never_line (incoming.Stamped text stamp) memory = never_text text (stamp_on memory.link stamp) memory.standing memory
never_line (incoming.Ack stamp) memory = never_ack stamp memory.standing memory
never_line incoming.TooLong memory = never_refusing refusal.TooLong memory.standing memory
never_line incoming.BadByte memory = never_refusing refusal.BadByte memory.standing memory

-- 3. Inputs.
never_quiet : (at : Standing) (memory : MemoryState) → NeverSaves (quiet_course at memory)
never_quiet (standing.In name) memory = never_round memory
never_quiet _ memory = tt

pub never_input : (input : Input) (memory : MemoryState) → NeverSaves (input_course input memory)
never_input Quiet memory = never_quiet memory.standing memory
never_input (Line line) memory =
    never_either (is_greeting memory.link line) (Done (record memory { link = Stamped }))
    (line_course line (past_line memory)) tt (never_line line (past_line memory))
