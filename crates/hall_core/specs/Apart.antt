-- Acts that have no common part. This server's own.
use Rattle.std.specs.Prelude.{◌≡◌, ◌≢◌, ℕ, List, ◌∷◌, ◌++◌, Some, slice_get}
use Rattle.histories.specs.declared.entry.Entry.{Entry}
use Rattle.histories.specs.Core.{reply, after}
use Rattle.histories.specs.History.{state, Legal}
use Rattle.histories.specs.Laws.{Apart}
use Rattle.linked_desk.specs.declared.acts.DeskAct.{DeskAct}
use Rattle.lobby_state.specs.declared.acts.LobbyAct.{LobbyAct}
use Rattle.lobby_state.specs.declared.acts.PairAct.{PairAct}
use Rattle.lobby_state.specs.Desks.{IsDesk}
use Rattle.lobby_state.specs.Lobby.{LobbyState}
use Rattle.lobby_state.specs.Plans.{plan_of}
use Rattle.one_server.specs.declared.act.Act.TheVariants.{Lobby, Desk, Pair}
use Rattle.one_server.specs.declared.act.Timed.{Timed}
use Rattle.one_server.specs.declared.part.Part.{Part}
use Rattle.one_server.specs.declared.part.Part.TheVariants.{Lobby as TheLobby}
use Rattle.one_server.specs.declared.reply.Reply.{Reply}
use Rattle.one_server.specs.Acts.{planned_desk}
use Rattle.one_server.specs.House.{house}
use Rattle.one_server.specs.Running.{Log}

-- an act of a session, at its moment
pub record Call : Type 0 where
  pub session : ℕ
  pub timed : Timed

-- two acts get the same replies in either order, and leave the same state
pub record Commute (parts : List Part) (one other : Call) : Type 0 where
  pub one_reply : reply house (after house parts other.session other.timed) one.session one.timed
      ≡ reply house parts one.session one.timed
  pub other_reply : reply house (after house parts one.session one.timed) other.session other.timed
      ≡ reply house parts other.session other.timed
  pub state : after house (after house parts one.session one.timed) other.session other.timed
      ≡ after house (after house parts other.session other.timed) one.session one.timed

-- two acts without a common part commute
abbrev pub ApartCommute : Type 0
ApartCommute =
    (parts : List Part) (one other : Call) → Apart house parts one.session one.timed other.session other.timed
    → Commute parts one other

-- so do acts at two desks
abbrev pub DesksCommute : Type 0
DesksCommute =
    (parts : List Part) (one other : Call) (desk desk' serial serial' : ℕ) (act act' : DeskAct) → desk ≢ desk'
    → one.timed.act ≡ Desk desk serial act → other.timed.act ≡ Desk desk' serial' act' → Commute parts one other

-- and an act of the lobby alone with one at a desk
abbrev pub LobbyCommutes : Type 0
LobbyCommutes =
    (parts : List Part) (one other : Call) (desk serial : ℕ) (act : LobbyAct) (act' : DeskAct) → IsDesk desk
    → one.timed.act ≡ Lobby act → other.timed.act ≡ Desk desk serial act' → Commute parts one other

-- and a pair act with one at a desk that isn't its plan's
abbrev pub PairCommutes : Type 0
PairCommutes =
    (parts : List Part) (lobby : LobbyState) (one other : Call) (desk serial : ℕ) (act : PairAct) (act' : DeskAct)
    → slice_get parts 0 ≡ Some (TheLobby lobby) → planned_desk (plan_of lobby one.session act) ≢ Some desk
    → IsDesk desk → one.timed.act ≡ Pair act → other.timed.act ≡ Desk desk serial act' → Commute parts one other

-- where two entries behind one another in a legal history have no common part, the history is legal in the other order
-- too, and leaves the same state: nobody can tell which of the two came first
abbrev pub NobodyCanTell : Type 0
NobodyCanTell =
    (opening : List Part) (before rest : Log) (one other : Entry Timed Reply)
    → Apart house (state house opening before) one.session one.act other.session other.act
    → Legal house opening (before ++ one ∷ other ∷ rest)
    → Legal house opening (before ++ other ∷ one ∷ rest)
    × (state house opening (before ++ other ∷ one ∷ rest) ≡ state house opening (before ++ one ∷ other ∷ rest))
