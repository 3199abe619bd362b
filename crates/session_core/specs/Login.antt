-- How a session comes in. This server's own.
use Rattle.std.specs.Prelude.{ℕ, Bool, if◌then◌else◌, List, [], ◌∷◌, Option, None, Some, codes}
use Rattle.std.specs.Str.{str_eq_ignore_ascii_case}
use Rattle.fics_words.specs.HandleTest.{handle_of}
use Rattle.fics_words.specs.declared.refusal.Refusal.{Refusal}
use Rattle.fics_words.specs.declared.refusal.Refusal.TheVariants.{BadHandle}
use Rattle.lobby_state.specs.declared.acts.LobbyAct.TheVariants.{Enter}
use Rattle.one_server.specs.declared.act.Act.TheVariants.{Lobby}
use Rattle.one_server.specs.declared.reply.Reply.{Reply}
pub use Rattle.session_asks.specs.Entering.{admitted, password_of}
use Rattle.session_asks.specs.declared.standing.Standing.TheVariants.{Login}
use Rattle.session_core.specs.Course.{Course, Done, Asks, Writes}
use Rattle.session_core.specs.Memory.{MemoryState, stands_at}
use Rattle.session_core.specs.Texts.{refusal_line, reply_text}
use Rattle.sha2.specs.Sha256.{sha256}

-- the session stands where the reply leaves it
abbrev pub entered_as : Option (List ℕ) → Reply → MemoryState → Course
entered_as name reply memory = Writes (reply_text reply) (Done (stands_at (admitted name reply) memory))

-- the session asks to enter under a name, or as a guest, perhaps with the digest of a password
abbrev pub enter_course : Option (List ℕ) → Option (List ℕ) → MemoryState → Course
enter_course name digest memory =
    Asks (Lobby (Enter name digest))
    (λ reply. entered_as name reply memory)

-- the session refuses a line by itself, and begins anew
abbrev pub turned_away : Refusal → MemoryState → Course
turned_away cause memory = Writes (refusal_line cause) (Done (stands_at Login memory))

-- the line of a guest: the word `guest` in any case
abbrev pub is_guest : List ℕ → Bool
is_guest bytes = str_eq_ignore_ascii_case bytes (codes "guest")

abbrev pub entering_named : Option (List ℕ) → MemoryState → Course
entering_named None memory = turned_away BadHandle memory
entering_named (Some name) memory = enter_course (Some name) None memory

-- a line where a name is asked for: a guest, or a handle. Nothing is dropped from it, and an empty one asks again
abbrev pub name_course : List ℕ → MemoryState → Course
name_course [] memory = Done memory
name_course (byte ∷ bytes) memory =
    if is_guest (byte ∷ bytes)
    then enter_course None None memory
    else entering_named (handle_of (byte ∷ bytes)) memory

-- a line where the password of a name is asked for: the digest of its bytes is compared. An empty one asks again
abbrev pub proving : List ℕ → List ℕ → MemoryState → Course
proving name [] memory = Done memory
proving name (byte ∷ bytes) memory = enter_course (Some name) (Some (sha256 (byte ∷ bytes))) memory
