-- What follows of the acts of session 0, where it tended the server.
use Rattle.std.specs.Prelude.{◌≡◌, ℕ, ◌+◌, ⊤, Bool, true, false, List, [], ◌∷◌, IfSome}
use Rattle.std.specs.declared.option.Option.{Option}
use Rattle.edge_traits.specs.Calls.{Store}
use Rattle.edge_traits.specs.Door.{DoorTale}
use Rattle.edge_traits.specs.Faults.{Rose}
use Rattle.histories.specs.History.{calls_of}
use Rattle.lobby_state.specs.declared.acts.LobbyAct.TheVariants.{InUse, Orders, Saved}
use Rattle.lobby_state.specs.declared.acts.PairAct.TheVariants.{Clear}
use Rattle.one_server.specs.declared.act.Act.{Act}
use Rattle.one_server.specs.declared.act.Act.TheVariants.{Lobby, Pair}
use Rattle.one_server.specs.declared.part.Part.{Part}
use Rattle.one_server.specs.Running.{Log}
use Rattle.steward_core.specs.declared.turn.StewardEnd.{StewardEnd}
use Rattle.steward_core.specs.declared.turn.StewardEnd.TheVariants.{Done, KeeperFault, Memory}
use Rattle.serve_core.specs.Stewarding.{AreTurns, HasTended, MayEnd, StewardTurn}

-- an act that a steward makes: it asks which desks are in use, clears a desk, asks for save orders, or tells some as
-- saved
abbrev pub IsStewards : Act → Type 0
IsStewards (Lobby InUse) = ⊤
IsStewards (Lobby Orders) = ⊤
IsStewards (Lobby (Saved upto)) = ⊤
IsStewards (Pair (Clear desk serial)) = ⊤
IsStewards act = ⊥

-- all the acts are a steward's
abbrev pub AreStewards : Log → Type 0
AreStewards [] = ⊤
AreStewards (e ∷ es) = IsStewards e.act.act × AreStewards es

-- whether an act asks which desks are in use, as a number
abbrev pub asks_once : Act → ℕ
asks_once (Lobby InUse) = 1
asks_once act = 0

-- how often it was asked which desks are in use
abbrev pub times_asked : Log → ℕ
times_asked [] = 0
times_asked (e ∷ es) = asks_once e.act.act + times_asked es

-- every act of the turn was made, and all orders that it was told were saved
abbrev pub IsDone : StewardEnd → Type 0
IsDone (Done count) = ⊤
IsDone KeeperFault = ⊥
IsDone Memory = ⊥

-- all entries are those of such turns, of which there is one for each Quiet of the door, and one more
abbrev pub HasTurns : (Store → Store → StewardTurn → Type 0) → Option DoorTale → Store → Store → Log → Type 0
HasTurns Ends door before now made =
    (n : ℕ) × AreTurns Ends n before now made × IfSome door (λ tale. n ≡ tale.quiets + 1)

-- all that session 0 makes are acts of a steward
abbrev pub MakesStewardsActs : Type 0
MakesStewardsActs =
    (short : Bool) (last : StewardEnd) (door : Option DoorTale) (before now : Store) (opening : List Part) (seen : Log)
    → HasTended (short ≡ true) last door before now opening seen → AreStewards (calls_of 0 seen)

-- and all of it is turns, the last one among them
abbrev pub MakesTurns : Type 0
MakesTurns =
    (short : Bool) (last : StewardEnd) (door : Option DoorTale) (before now : Store) (opening : List Part) (seen : Log)
    → HasTended (short ≡ true) last door before now opening seen
    → HasTurns (MayEnd (short ≡ true)) door before now (calls_of 0 seen)

-- where memory was enough and the keeper counted no fault, each turn was done, and in each it was asked once which
-- desks are in use
abbrev pub MakesEachTurn : Type 0
MakesEachTurn =
    (short : Bool) (last : StewardEnd) (door : Option DoorTale) (before now : Store) (opening : List Part) (seen : Log)
    → HasTended (short ≡ true) last door before now opening seen → short ≡ false → ¬ Rose before.faults now.faults
    → HasTurns (λ mid later turn. IsDone turn.end) door before now (calls_of 0 seen)
    × IfSome door (λ tale. times_asked (calls_of 0 seen) ≡ tale.quiets + 1)
