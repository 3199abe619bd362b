-- Resumed: the plans of a Resume are carried out. A game leaves the shelf and starts, or another is asked to resume it.
-- This server's own.
use Rattle.std.specs.Prelude.{ℕ, List, [], codes}
use Rattle.chess_model.specs.declared.variant.Terms.{Terms}
use Rattle.fics_words.specs.declared.seats.Seats.{Seats}
use Rattle.lobby_shelf.specs.Shelf.{asked, taken_off}
use Rattle.tables.specs.Rows.{change_first}
use Rattle.lobby_state.specs.declared.member.Member.{Member}
use Rattle.lobby_state.specs.Lobby.{LobbyState, is_session, member_of}
use Rattle.lobby_state.specs.Match.{member_with_line}
use Rattle.lobby_state.specs.Said.{spoken_line}
use Rattle.lobby_state.specs.Sought.{name_in}
use Rattle.lobby_state.specs.Start.{lobby_seated}

-- the lobby where the game of that number has left the shelf, with the requests for it, and starts at this desk
abbrev pub lobby_resumed : LobbyState → ℕ → ℕ → ℕ → Terms → Seats → LobbyState
lobby_resumed lobby desk serial number terms seats =
    lobby_seated (record lobby { shelf = taken_off lobby.shelf number }) desk serial terms seats

-- the line that asks to resume
abbrev pub resume_words : List ℕ → List ℕ
resume_words name = spoken_line name (codes " asks to resume.") []

-- the line that this session's asking sends
abbrev pub ask_line : LobbyState → ℕ → List ℕ
ask_line lobby from = resume_words (name_in (member_of lobby from))

-- the member for whom these lines wait
abbrev pub with_lines : List (List ℕ) → Member → Member
with_lines lines member = record member { waiting = lines }

-- the lobby where the request of the one stands, and the other is told
abbrev pub asked_of : LobbyState → ℕ → ℕ → ℕ → LobbyState
asked_of lobby from to number = record lobby {
  members = change_first (is_session to) (member_with_line (ask_line lobby from)) lobby.members;
  shelf = asked lobby.shelf from number;
}
