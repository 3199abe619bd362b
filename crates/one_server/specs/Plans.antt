-- What a plan does to its lobby and to its desk, if it needs one, and what is replied. This server's own.
use Rattle.std.specs.Prelude.{◌≡◌, ℕ, None, true}
use Rattle.chess_model.specs.declared.variant.Terms.{Terms}
use Rattle.fics_words.specs.declared.seats.Seats.{Seats}
use Rattle.lobby_state.specs.declared.acts.Plan.{Plan}
use Rattle.lobby_state.specs.declared.acts.Plan.TheVariants.{Start, Clear, Resume, Ask}
use Rattle.lobby_state.specs.Lobby.{LobbyState}
use Rattle.lobby_state.specs.Plans.{committed}
use Rattle.lobby_state.specs.Reserve.{CanShelve}
use Rattle.linked_desk.specs.Desk.{DeskState}
use Rattle.linked_desk.specs.Seating.{AllDiffer, HasPairsFor, names_of, sessions_seated, desk_started}
use Rattle.one_server.specs.Clearing.{clear_desk, clear_lobby, clear_reply, kept_at}
use Rattle.one_server.specs.Resuming.{CanResumeAt, resume_desk}
use Rattle.one_server.specs.declared.reply.PairReply.{PairReply}
use Rattle.one_server.specs.declared.reply.PairReply.TheVariants.{Started, Asked, Kept}

-- the reply to a plan that needs the lobby alone: another was asked to resume
abbrev pub alone_reply : Plan → PairReply
alone_reply (Ask from to number) = Asked
alone_reply _ = Kept

-- the lobby after such a plan: the request stands, and the other is told
abbrev pub alone_lobby : LobbyState → Plan → LobbyState
alone_lobby lobby (Ask from to number) = committed lobby (Ask from to number) None true
alone_lobby lobby _ = lobby

-- the reply to a plan that has its desk
abbrev pub plan_reply : Plan → DeskState → PairReply
plan_reply (Start number serial terms seats) desk = Started
plan_reply (Clear session number serial) desk = clear_reply desk serial
plan_reply (Resume number serial stored terms seats) desk = Started
plan_reply (Ask from to number) desk = alone_reply (Ask from to number)

-- the lobby afterwards: a game starts, also one that leaves the shelf for it; or a place is given up
abbrev pub plan_lobby : LobbyState → Plan → DeskState → LobbyState
plan_lobby lobby (Start number serial terms seats) desk = committed lobby (Start number serial terms seats) None true
plan_lobby lobby (Clear session number serial) desk = clear_lobby lobby session number serial desk
plan_lobby lobby (Resume number serial stored terms seats) desk =
    committed lobby (Resume number serial stored terms seats) None true
plan_lobby lobby (Ask from to number) desk = alone_lobby lobby (Ask from to number)

-- the desk afterwards: a game starts there or goes on from where it was left, or the desk is vacant where it is cleared
abbrev pub plan_desk : LobbyState → Plan → DeskState → ℕ → DeskState
plan_desk lobby (Start number serial terms seats) desk moment = desk_started desk serial terms seats moment
plan_desk lobby (Clear session number serial) desk moment = clear_desk desk serial
plan_desk lobby (Resume number serial stored terms seats) desk moment =
    resume_desk lobby desk serial stored seats moment
plan_desk lobby (Ask from to number) desk moment = desk

-- a game can start at this desk: it is vacant, no two of the players are one, and there are as many as its variant has
pub record CanStartAt (desk : DeskState) (terms : Terms) (seats : Seats) : Type 0 where
  pub vacant : desk.game ≡ None
  pub sessions : AllDiffer (sessions_seated seats)
  pub names : AllDiffer (names_of seats)
  pub pairs : HasPairsFor terms seats

-- the plan can be carried out with this lobby at this desk: a game that goes on the shelf replays, and comes from a
-- desk in use
abbrev pub CanCarry : LobbyState → Plan → DeskState → Type 0
CanCarry lobby (Start number serial terms seats) desk = CanStartAt desk terms seats
CanCarry lobby (Clear session number serial) desk = CanShelve lobby (Clear session number serial) (kept_at desk)
CanCarry lobby (Resume number serial stored terms seats) desk = CanResumeAt lobby desk stored seats
CanCarry lobby (Ask from to number) desk = Unit {0}
