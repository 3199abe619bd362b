-- The parts that an act is lent. This server's own.
use Rattle.std.specs.Prelude.{ℕ, IsSome, IfSome, Result, Ok, Err}
use Rattle.fics_words.specs.declared.refusal.Refusal.{Refusal}
use Rattle.linked_desk.specs.Desk.{DeskState}
use Rattle.lobby_state.specs.declared.acts.Plan.{Plan}
use Rattle.lobby_state.specs.Desks.{IsDesk}
use Rattle.lobby_state.specs.Lobby.{LobbyState}
use Rattle.lobby_state.specs.Plans.{plan_of, desk_of}
use Rattle.one_server.specs.declared.act.Act.{Act}
use Rattle.one_server.specs.declared.act.Act.TheVariants.{Lobby, Desk, Pair}
use Rattle.one_server.specs.declared.part.Part.{Part}
use Rattle.one_server.specs.declared.part.Part.TheVariants.{Lobby as TheLobby, Desk as ADesk}
use Rattle.one_server.specs.Plans.{CanCarry}

-- the part is of the kind that the act needs first: a desk for a desk act, and else the lobby
abbrev pub IsFirstOf : Part → Act → Type 0
IsFirstOf (TheLobby lobby) (Lobby act) = Unit {0}
IsFirstOf (TheLobby lobby) (Pair act) = Unit {0}
IsFirstOf (ADesk desk) (Desk number serial act) = Unit {0}
IsFirstOf _ _ = ⊥

-- there is a plan with a desk, and it can be carried out there
abbrev pub IsCarried : LobbyState → Result Plan Refusal → DeskState → Type 0
IsCarried lobby (Ok plan) desk = IsSome (desk_of plan) × IfSome (desk_of plan) IsDesk × CanCarry lobby plan desk
IsCarried lobby (Err cause) desk = ⊥

-- the parts are the lobby and the desk of the plan that a pair act has
abbrev pub AreBothOf : Part → Part → ℕ → Act → Type 0
AreBothOf (TheLobby lobby) (ADesk desk) session (Pair act) = IsCarried lobby (plan_of lobby session act) desk
AreBothOf _ _ session _ = ⊥
