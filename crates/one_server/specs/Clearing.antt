-- A place at a desk is given up, and a game that was adjourned there goes on the shelf. This server's own.
use Rattle.std.specs.Prelude.{ℕ, Bool, true, false, cond, ◌&&◌, Option, None}
use Rattle.std.specs.Option.{option_map_or}
use Rattle.chess_model.specs.declared.why.Why.{Why}
use Rattle.chess_model.specs.declared.why.Why.TheVariants.{Adjourned}
use Rattle.game_records.specs.declared.stored_game.StoredGame.{StoredGame}
use Rattle.linked_desk.specs.declared.ended.Ended.{Ended}
use Rattle.linked_desk.specs.Desk.{DeskState, ended_at}
use Rattle.linked_desk.specs.Shelve.{shelved_at}
use Rattle.lobby_state.specs.declared.acts.Plan.{Plan}
use Rattle.lobby_state.specs.declared.acts.Plan.TheVariants.{Clear}
use Rattle.lobby_state.specs.Lobby.{LobbyState}
use Rattle.lobby_state.specs.Plans.{committed}
use Rattle.one_server.specs.Desks.{desk_emptied, has_ended, nobody_looks_on}
use Rattle.one_server.specs.declared.reply.PairReply.{PairReply}
use Rattle.one_server.specs.declared.reply.PairReply.TheVariants.{Kept, Freed, Cleared}

-- the plan is a Clear
abbrev pub IsClear : Plan → Type 0
IsClear (Clear session number serial) = Unit {0}
IsClear _ = ⊥

-- a game that ended so was adjourned
abbrev pub is_adjournment : Why → Bool
is_adjournment Adjourned = true
is_adjournment _ = false

-- the game at the desk was adjourned
abbrev pub was_adjourned : DeskState → Bool
was_adjourned desk = option_map_or (λ (e : Ended). is_adjournment e.why) (ended_at desk) false

-- the game that goes on the shelf once the desk is cleared: the one that was adjourned there
abbrev pub kept_at : DeskState → Option StoredGame
kept_at desk = cond (was_adjourned desk) (shelved_at desk) None

-- a Clear is Kept where no game of that serial has ended at the desk, Freed where somebody still looks on, and else
-- Cleared
abbrev pub clear_reply : DeskState → ℕ → PairReply
clear_reply desk serial = cond (has_ended desk serial) (cond (nobody_looks_on desk) Cleared Freed) Kept

-- the lobby afterwards: the caller has no place there any more; where the desk is cleared nobody has, and an adjourned
-- game is on the shelf
abbrev pub clear_lobby : LobbyState → ℕ → ℕ → ℕ → DeskState → LobbyState
clear_lobby lobby session number serial desk =
    cond (has_ended desk serial) (committed lobby (Clear session number serial) (kept_at desk) (nobody_looks_on desk))
    lobby

-- the desk afterwards: it is vacant where it is cleared
abbrev pub clear_desk : DeskState → ℕ → DeskState
clear_desk desk serial = cond (has_ended desk serial && nobody_looks_on desk) (desk_emptied desk) desk
