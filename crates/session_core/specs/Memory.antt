-- What a session remembers from one input to the next. This server's own.
use Rattle.std.specs.Prelude.{ℕ, ◌==◌, Bool, true, false, nat_le, List, [], length, Option, None, Some, find, slice_get}
use Rattle.command_words.specs.declared.aliases.Alias.{Alias}
use Rattle.command_words.specs.declared.style.Style.{Style}
use Rattle.command_words.specs.declared.style.Style.TheVariants.{Twelve}
use Rattle.lobby_state.specs.declared.acts.LobbyReply.TheVariants.{Places, Waiting}
use Rattle.simul_control.specs.declared.place.Place.{Place}
use Rattle.lobby_state.specs.Places.{PlaceList, no_places, with_place, without_desk}
use Rattle.one_server.specs.declared.reply.Reply.{Reply}
use Rattle.one_server.specs.declared.reply.Reply.TheVariants.{Lobby}
use Rattle.session_core.specs.declared.reader.Reader.{Reader}
pub use Rattle.session_asks.specs.Entering.{standing_in}
use Rattle.session_asks.specs.declared.standing.LinkMark.{LinkMark}
use Rattle.session_asks.specs.declared.standing.LinkMark.TheVariants.{Fresh, Plain}
use Rattle.session_asks.specs.declared.standing.Standing.{Standing}
use Rattle.session_asks.specs.declared.standing.Standing.TheVariants.{Login, In, Gone}

-- where it stands, what is known of its link, its aliases, how boards are printed, its places, as the lobby told them
-- last, and where it looks on, in the order in which it began to
pub record MemoryState : Type 0 where
  pub standing : Standing
  pub link : LinkMark
  pub aliases : List Alias
  pub style : Style
  pub places : PlaceList
  pub observed : PlaceList

-- a session before its first input
abbrev pub newcomer : MemoryState
newcomer = record {
  standing = Login;
  link = Fresh;
  aliases = [];
  style = Twelve;
  places = no_places;
  observed = no_places;
}

-- one that a script has seated: it has entered under this name, and was told nothing yet
abbrev pub seated_memory : List ℕ → MemoryState
seated_memory name = record newcomer { standing = In name }

-- where it stands from now on
abbrev pub stands_at : Standing → MemoryState → MemoryState
stands_at standing memory = record memory { standing = standing }

-- the session has entered, and hasn't left
abbrev pub has_entered : MemoryState → Bool
has_entered memory = standing_in memory.standing

abbrev pub is_out : Standing → Bool
is_out Gone = true
is_out _ = false

-- the session has left
abbrev pub is_gone : MemoryState → Bool
is_gone memory = is_out memory.standing

-- a link on which a line came that is no greeting is a plain one, if nothing was known of it
abbrev pub past_first : LinkMark → LinkMark
past_first Fresh = Plain
past_first mark = mark

-- what the session remembers once it has this reply: the places that it tells, if it tells any
abbrev pub memory_told : MemoryState → Reply → MemoryState
memory_told memory (Lobby (Places places)) = record memory { places = places }
memory_told memory (Lobby (Waiting lines places)) = record memory { places = places }
memory_told memory _ = memory

-- once it has left
abbrev pub departed : MemoryState → MemoryState
departed memory = record memory { standing = Gone; places = no_places; observed = no_places }

-- the session's present place, if it has any
abbrev pub present_in : MemoryState → Option Place
present_in memory = slice_get memory.places.rows memory.places.at

-- the session gives a simul, as the lobby told it last
abbrev pub is_giving : MemoryState → Bool
is_giving memory = memory.places.giving

-- for whom the items of a game are written, where the session plays it at this seat, or looks on
abbrev pub reader_in : MemoryState → Option ℕ → Reader
reader_in memory seat = record { link = memory.link; style = memory.style; seat = seat }

-- the session looks on at one game more
abbrev pub with_observed : Place → MemoryState → MemoryState
with_observed place memory = record memory { observed = with_place place memory.observed }

-- and no longer at the game of this desk
abbrev pub without_observed : ℕ → MemoryState → MemoryState
without_observed desk memory = record memory { observed = without_desk desk memory.observed }

-- where it looks on at the game of this desk, if it does
abbrev pub observed_at : ℕ → MemoryState → Option Place
observed_at desk memory = find (λ place. place.desk == desk) memory.observed.rows

-- it looks on at 32 games
abbrev pub looks_on_at_most : MemoryState → Bool
looks_on_at_most memory = nat_le 32 (length memory.observed.rows)

abbrev pub or_else : Option Place → Option Place → Option Place
or_else None other = other
or_else (Some place) other = Some place

-- where it can say something about a game: at its present place, or else at the first game at which it looks on
abbrev pub remark_place : MemoryState → Option Place
remark_place memory = or_else (present_in memory) (slice_get memory.observed.rows 0)
