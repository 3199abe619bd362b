-- All pair acts and all plans in one table each: what a pair act is to do, by the lobby alone, and the lobby once that
-- is carried out. This server's own.
use Rattle.std.specs.Prelude.{ℕ, Bool, true, false, Option, None, Some, Result}
use Rattle.fics_words.specs.declared.refusal.Refusal.{Refusal}
use Rattle.fics_words.specs.Effect.{Effect, answer_of}
use Rattle.game_records.specs.declared.stored_game.StoredGame.{StoredGame}
use Rattle.lobby_shelf.specs.Shelf.{shelved}
use Rattle.lobby_state.specs.declared.acts.PairAct.{PairAct}
use Rattle.lobby_state.specs.declared.acts.PairAct.TheVariants.{Accept, Play, Clear, Resume}
use Rattle.lobby_state.specs.declared.acts.Plan.{Plan}
use Rattle.lobby_state.specs.declared.acts.Plan.TheVariants.{Start, Clear as Clearing, Resume as Resuming, Ask}
use Rattle.lobby_state.specs.declared.game.ListedGame.{ListedGame}
use Rattle.lobby_state.specs.Accept.{accept_effect}
use Rattle.lobby_state.specs.Clear.{clear_effect, freed, cleared}
use Rattle.lobby_state.specs.Desks.{IsDesk}
use Rattle.lobby_state.specs.Lobby.{LobbyState}
use Rattle.lobby_state.specs.Play.{play_effect}
use Rattle.lobby_state.specs.Resume.{resume_effect}
use Rattle.lobby_state.specs.Resumed.{asked_of, lobby_resumed}
use Rattle.lobby_state.specs.Start.{lobby_seated}

-- what a pair act does by the lobby alone: it changes nothing, and its reply is a plan, which is then carried out
abbrev pub plan_effect : LobbyState → ℕ → PairAct → Effect LobbyState Plan
plan_effect lobby session (Accept name) = accept_effect lobby session name
plan_effect lobby session (Play number) = play_effect lobby session number
plan_effect lobby session (Clear desk serial) = clear_effect lobby session desk serial
plan_effect lobby session (Resume name) = resume_effect lobby session name

-- what a pair act is to do, by the lobby alone, or why it is refused
abbrev pub plan_of : LobbyState → ℕ → PairAct → Result Plan Refusal
plan_of lobby session act = answer_of (plan_effect lobby session act)

-- the desk of a plan, which is the second part that its act needs
abbrev pub desk_of : Plan → Option ℕ
desk_of (Start desk serial terms seats) = Some desk
desk_of (Clearing session desk serial) = Some desk
desk_of (Resuming desk serial number terms seats) = Some desk
desk_of (Ask from to number) = None

-- the lobby once a desk is cleared, with its game on the shelf where that was adjourned
abbrev pub put_away : LobbyState → ℕ → Option StoredGame → LobbyState
put_away lobby desk None = cleared lobby desk
put_away lobby desk (Some game) = record (cleared lobby desk) { shelf = shelved lobby.shelf game }

-- the lobby once the plan is carried out; a Clear has either freed the caller alone or cleared the desk
abbrev pub committed : LobbyState → Plan → Option StoredGame → Bool → LobbyState
committed lobby (Start desk serial terms seats) game is_cleared = lobby_seated lobby desk serial terms seats
committed lobby (Clearing session desk serial) game true = put_away lobby desk game
committed lobby (Clearing session desk serial) game false = freed lobby session desk
committed lobby (Resuming desk serial number terms seats) game is_cleared =
    lobby_resumed lobby desk serial number terms seats
committed lobby (Ask from to number) game is_cleared = asked_of lobby from to number

-- the game that the lobby lists for the plan's desk once the plan is carried out, by the one that it listed before
abbrev pub game_after : Plan → Bool → Option ListedGame → Option ListedGame
game_after (Start desk serial terms seats) is_cleared before =
    Some (record { serial = serial; terms = terms; seats = seats })
game_after (Clearing session desk serial) true before = None
game_after (Clearing session desk serial) false before = before
game_after (Resuming desk serial number terms seats) is_cleared before =
    Some (record { serial = serial; terms = terms; seats = seats })
game_after (Ask from to number) is_cleared before = before

-- a desk that a pair act names is one
abbrev pub NamesDesk : PairAct → Type 0
NamesDesk (Clear desk serial) = IsDesk desk
NamesDesk _ = Unit {0}
