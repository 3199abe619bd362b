-- A refused act changes nothing: neither at a desk, nor in the lobby, nor one that needs both.
use Rattle.std.specs.Prelude.{◌≡◌, ℕ, Err}
use Rattle.std.specs.declared.option.Option.{Option}
use Rattle.fics_words.specs.declared.refusal.Refusal.{Refusal}
use Rattle.linked_desk.specs.declared.acts.DeskAct.{DeskAct}
use Rattle.linked_desk.specs.Acts.{desk_after, desk_answer}
use Rattle.linked_desk.specs.Desk.{DeskState}
use Rattle.lobby_state.specs.declared.acts.LobbyAct.{LobbyAct}
use Rattle.lobby_state.specs.declared.acts.PairAct.{PairAct}
use Rattle.lobby_state.specs.Acts.{lobby_after, lobby_answer}
use Rattle.lobby_state.specs.Lobby.{LobbyState}
use Rattle.lobby_state.specs.Plans.{plan_of}
use Rattle.one_server.specs.declared.part.Part.{Part}
use Rattle.one_server.specs.House.{pair_desk, pair_lobby}

-- at a desk: so a word of a move that is refused leaves the boards and the clocks as they were
abbrev pub KeepsTheDesk : Type 0
KeepsTheDesk =
    (desk : DeskState) (session moment serial : ℕ) (act : DeskAct) (cause : Refusal)
    → desk_answer desk session moment serial act ≡ Err cause → desk_after desk session moment serial act ≡ desk

-- in the lobby
abbrev pub KeepsTheLobby : Type 0
KeepsTheLobby =
    (lobby : LobbyState) (session : ℕ) (act : LobbyAct) (cause : Refusal) → lobby_answer lobby session act ≡ Err cause
    → lobby_after lobby session act ≡ lobby

-- an act that needs both, which the lobby refuses
abbrev pub KeepsBoth : Type 0
KeepsBoth =
    (lobby : LobbyState) (desk : DeskState) (other : Option Part) (session moment : ℕ) (act : PairAct) (cause : Refusal)
    → plan_of lobby session act ≡ Err cause → (pair_lobby lobby (plan_of lobby session act) other ≡ lobby)
    × (pair_desk lobby (plan_of lobby session act) desk moment ≡ desk)
