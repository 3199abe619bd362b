-- That a server leaves a good store. This server's own.
use Rattle.std.specs.Prelude.{◌≡◌, ◌⊎◌, ◌*◌, All, Some, IfSome}
use Rattle.std.specs.declared.option.Option.{Option}
use Rattle.std.specs.List.{AllByRecursion}
use Rattle.edge_traits.specs.Calls.{Store}
use Rattle.edge_traits.specs.Pairs.{Records}
use Rattle.fics_words.specs.Handle.{IsHandle}
use Rattle.game_records.specs.Bounds.{IsTyped}
use Rattle.game_records.specs.declared.records.Record.TheVariants as a
use Rattle.hall_core.specs.Pass.{PassState}
use Rattle.lobby_load.specs.BadRows.{IsGoodStore}
use Rattle.lobby_state.specs.Lobby.{LobbyState}
use Rattle.restart_laws.specs.Restart.{EndsWith, Evening, last_turn}
use Rattle.serve_turn.specs.Stopping.{IsClean}
use Rattle.serve_turn.specs.declared.end.ServeEnd.{ServeEnd}
use Rattle.steward_core.specs.Saving.{most_answers}
use Rattle.steward_core.specs.declared.turn.StewardEnd.TheVariants as steward

-- each account has a handle and a digest of 32 bytes, and each player of a stored game a handle: the types of a server
-- have no other values
pub record AreOfTypes (lobby : LobbyState) : Type 0 where
  pub accounts : All (λ account. IsTyped (a.Account account)) lobby.accounts
  pub players : All (λ row. AllByRecursion IsHandle row.game.names) lobby.shelf.games

-- the keeper tells a table that is a good store
abbrev pub TellsGood : Option Records → Type 0
TellsGood told = (table : Records) × (told ≡ Some table) × IsGoodStore table

-- where serving ended well, over a keeper that tells its table, and the last lobby's values are of their types, the
-- store is a good one, unless the last turn had as many answers of 16 orders as a turn has at most
abbrev pub LeavesGood : Type 0
LeavesGood =
    (old new : Store) (first last : LobbyState) (end : ServeEnd) (pass : PassState)
    → (evening : Evening old new first end pass) → EndsWith pass last → IsClean end → AreOfTypes last
    → IfSome old.table (λ table. TellsGood new.table ⊎ (last_turn evening ≡ steward.Done (most_answers * 16)))
