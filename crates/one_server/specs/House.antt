-- The server of one lobby and 128 desks: what an act replies, and what it leaves of the parts that it was lent.
-- This server's own.
use Rattle.std.specs.Prelude.{ℕ, Option, Some, Result, Ok, Err}
use Rattle.fics_words.specs.declared.refusal.Refusal.{Refusal}
use Rattle.histories.specs.Core.{Core}
use Rattle.linked_desk.specs.Acts.{desk_answer, desk_after}
use Rattle.linked_desk.specs.Desk.{DeskState}
use Rattle.lobby_state.specs.declared.acts.Plan.{Plan}
use Rattle.lobby_state.specs.Acts.{lobby_answer, lobby_after}
use Rattle.lobby_state.specs.Lobby.{LobbyState}
use Rattle.lobby_state.specs.Plans.{plan_of}
use Rattle.one_server.specs.declared.act.Act.{Act}
use Rattle.one_server.specs.declared.act.Act.TheVariants.{Lobby, Desk, Pair}
use Rattle.one_server.specs.declared.act.Timed.{Timed}
use Rattle.one_server.specs.declared.part.Part.{Part}
use Rattle.one_server.specs.declared.part.Part.TheVariants.{Lobby as TheLobby, Desk as ADesk}
use Rattle.one_server.specs.declared.reply.Reply.{Reply}
use Rattle.one_server.specs.declared.reply.Reply.TheVariants as reply
use Rattle.one_server.specs.declared.reply.PairReply.TheVariants.{Kept}
use Rattle.one_server.specs.Acts.{first_part, second_part, IsEvent, lobby_reply, desk_reply}
use Rattle.one_server.specs.Plans.{alone_lobby, alone_reply, plan_desk, plan_lobby, plan_reply}
use Rattle.one_server.specs.Whole.{IsWhole}

-- what is replied where an act lacks its parts, which it has in every whole state: nothing was done
abbrev pub no_parts : Reply
no_parts = reply.Pair Kept

-- the reply to a pair act: a refusal by the lobby, or what the plan replies with its desk in hand, or by the lobby
-- alone where it has none
abbrev pub pair_reply : Result Plan Refusal → Option Part → Reply
pair_reply (Err cause) other = reply.Refused cause
pair_reply (Ok plan) (Some (ADesk desk)) = reply.Pair (plan_reply plan desk)
pair_reply (Ok plan) _ = reply.Pair (alone_reply plan)

-- the lobby after a pair act
abbrev pub pair_lobby : LobbyState → Result Plan Refusal → Option Part → LobbyState
pair_lobby lobby (Ok plan) (Some (ADesk desk)) = plan_lobby lobby plan desk
pair_lobby lobby (Ok plan) _ = alone_lobby lobby plan
pair_lobby lobby (Err cause) _ = lobby

-- the desk after a pair act
abbrev pub pair_desk : LobbyState → Result Plan Refusal → DeskState → ℕ → DeskState
pair_desk lobby (Ok plan) desk moment = plan_desk lobby plan desk moment
pair_desk lobby (Err cause) desk moment = desk

-- the reply to an act, whose first part is the one that it needs in every whole state
abbrev pub house_answer : Part → Option Part → ℕ → ℕ → Act → Reply
house_answer (TheLobby lobby) other session moment (Lobby act) = lobby_reply (lobby_answer lobby session act)
house_answer (TheLobby lobby) other session moment (Pair act) = pair_reply (plan_of lobby session act) other
house_answer (ADesk desk) other session moment (Desk number serial act) =
    desk_reply (desk_answer desk session moment serial act)
house_answer _ other session moment _ = no_parts

-- the first part afterwards
abbrev pub house_one : Part → Option Part → ℕ → ℕ → Act → Part
house_one (TheLobby lobby) other session moment (Lobby act) = TheLobby (lobby_after lobby session act)
house_one (TheLobby lobby) other session moment (Pair act) =
    TheLobby (pair_lobby lobby (plan_of lobby session act) other)
house_one (ADesk desk) other session moment (Desk number serial act) = ADesk (desk_after desk session moment serial act)
house_one part other session moment _ = part

-- the second part afterwards: the desk of a pair act
abbrev pub house_two : Part → Part → ℕ → ℕ → Act → Part
house_two (TheLobby lobby) (ADesk desk) session moment (Pair act) =
    ADesk (pair_desk lobby (plan_of lobby session act) desk moment)
house_two _ other session moment _ = other

abbrev pub house : Core Part Timed Reply
house = record {
  first = λ timed. first_part timed.act;
  second = λ one session timed. second_part one session timed.act;
  fits = IsEvent;
  whole = IsWhole;
  answer = λ one other session timed. house_answer one other session timed.moment timed.act;
  one = λ one other session timed. house_one one other session timed.moment timed.act;
  two = λ one two session timed. house_two one two session timed.moment timed.act;
}
