-- A store agrees with a lobby where it holds, once the save orders that stand are carried out, what it is to hold for
-- the lobby's accounts and stored games. This server's own.
use Rattle.std.specs.Prelude.{◌≡◌, ℕ, Bool, List, ◌++◌, Option}
use Rattle.game_records.specs.declared.stored_game.StoredGame.{StoredGame}
use Rattle.lobby_shelf.specs.Wanted.{Agrees, StoreMap, wanted}
use Rattle.lobby_shelf.specs.declared.order.Order.{Order}
use Rattle.lobby_state.specs.declared.acts.LobbyAct.{LobbyAct}
use Rattle.lobby_state.specs.declared.acts.LobbyAct.TheVariants.{Saved}
use Rattle.lobby_state.specs.declared.acts.Plan.{Plan}
use Rattle.lobby_state.specs.Acts.{lobby_after}
use Rattle.lobby_state.specs.Lobby.{LobbyState}
use Rattle.lobby_state.specs.Planned.{IsPlanned}
use Rattle.lobby_state.specs.Plans.{committed}
use Rattle.lobby_state.specs.Reserve.{CanShelve}
use Rattle.lobby_state.specs.WellFormed.{IsWellFormed}

-- what a store is to hold for the lobby
abbrev pub wanted_by : LobbyState → StoreMap
wanted_by lobby = wanted lobby.accounts lobby.shelf.games

-- the table agrees with the lobby
abbrev pub AgreesWith : StoreMap → LobbyState → Type 0
AgreesWith table lobby = Agrees table lobby.accounts lobby.shelf

-- from the one lobby to the other a store is led along: a table that agrees with the one agrees with the other, and the
-- save orders that stood are the first of those that stand
pub record LeadsAlong (old new : LobbyState) : Type 0 where
  pub agrees : (table : StoreMap) → AgreesWith table old → AgreesWith table new
  pub more : List Order
  pub orders : new.shelf.orders ≡ old.shelf.orders ++ more

-- the act tells save orders as saved
abbrev pub TellsSaved : LobbyAct → Type 0
TellsSaved (Saved upto) = Unit {0}
TellsSaved _ = ⊥

-- every act leads a store along, but for one that tells orders as saved; and so does every plan that is carried out
pub record ActsLeadAlong : Type 0 where
  pub act : (lobby : LobbyState) (session : ℕ) (act : LobbyAct) → (TellsSaved act → ⊥)
      → LeadsAlong lobby (lobby_after lobby session act)
  pub plan : (lobby : LobbyState) (plan : Plan) (game : Option StoredGame) (is_cleared : Bool) → IsWellFormed lobby
      → IsPlanned lobby plan → CanShelve lobby plan game → LeadsAlong lobby (committed lobby plan game is_cleared)
