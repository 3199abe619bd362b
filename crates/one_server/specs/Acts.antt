-- What an act is: the parts that it needs, the conditions on its numbers, and how the answer of its part is replied.
-- This server's own.
use Rattle.std.specs.Prelude.{◌≡◌, ℕ, ◌≤◌, false, Option, None, Result, Ok, Err}
use Rattle.clock_ledger.specs.Charges.{last_moment}
use Rattle.fics_words.specs.declared.refusal.Refusal.{Refusal}
use Rattle.linked_desk.specs.declared.acts.DeskReply.{DeskReply}
use Rattle.linked_desk.specs.Acts.{FitsDeskAct, needs_memory}
use Rattle.lobby_state.specs.declared.acts.LobbyReply.{LobbyReply}
use Rattle.lobby_state.specs.declared.acts.Plan.{Plan}
use Rattle.lobby_state.specs.Acts.{FitsLobby, LobbyNeedsNoMemory}
use Rattle.lobby_state.specs.Desks.{IsDesk}
use Rattle.lobby_state.specs.Plans.{NamesDesk, plan_of, desk_of}
use Rattle.one_server.specs.declared.act.Act.{Act}
use Rattle.one_server.specs.declared.act.Act.TheVariants.{Lobby, Desk, Pair}
use Rattle.one_server.specs.declared.act.Timed.{Timed}
use Rattle.one_server.specs.declared.part.Part.{Part}
use Rattle.one_server.specs.declared.part.Part.TheVariants.{Lobby as TheLobby}
use Rattle.one_server.specs.declared.reply.Reply.{Reply}
use Rattle.one_server.specs.declared.reply.Reply.TheVariants as reply

-- the number of an act's first part: the desk of a desk act, and else the lobby's, which is 0
abbrev pub first_part : Act → ℕ
first_part (Lobby act) = 0
first_part (Desk desk serial act) = desk
first_part (Pair act) = 0

-- the desk of a plan, where there is a plan and it has one
abbrev pub planned_desk : Result Plan Refusal → Option ℕ
planned_desk (Ok plan) = desk_of plan
planned_desk (Err cause) = None

-- the number of an act's second part: the desk of the plan that a pair act has
abbrev pub second_part : Part → ℕ → Act → Option ℕ
second_part (TheLobby lobby) session (Pair act) = planned_desk (plan_of lobby session act)
second_part _ session _ = None

-- the conditions on the numbers of an act: a desk is 1 to 128, minutes and increments are at most 600, and a client's
-- stamp is below 10,000,000
abbrev pub FitsAct : Act → Type 0
FitsAct (Lobby act) = FitsLobby act
FitsAct (Desk desk serial act) = IsDesk desk × FitsDeskAct act
FitsAct (Pair act) = NamesDesk act

-- and a moment is at most 2^48 milliseconds
pub record IsEvent (timed : Timed) : Type 0 where
  pub moment : timed.moment ≤ last_moment
  pub act : FitsAct timed.act

-- the reply to a lobby act
abbrev pub lobby_reply : Result LobbyReply Refusal → Reply
lobby_reply (Ok answer) = reply.Lobby answer
lobby_reply (Err cause) = reply.Refused cause

-- the reply to a desk act
abbrev pub desk_reply : Result DeskReply Refusal → Reply
desk_reply (Ok answer) = reply.Desk answer
desk_reply (Err cause) = reply.Refused cause

-- the acts that need no memory of their own: in the lobby Where, Going and Bye, and at a desk all but those that tell
-- boards or items
abbrev pub NeedsNoMemory : Act → Type 0
NeedsNoMemory (Lobby act) = LobbyNeedsNoMemory act
NeedsNoMemory (Desk desk serial act) = needs_memory act ≡ false
NeedsNoMemory (Pair act) = ⊥
