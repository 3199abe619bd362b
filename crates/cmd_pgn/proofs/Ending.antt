-- How `pgn` ends where the store is opened.
use Rattle.std.proofs.Common.{ℕ, List, [], Option, inl, inr}
use Rattle.std.specs.Prelude.{IfSome}
use Rattle.std.specs.Io.KnownBytes.{Appends}
use Rattle.std.proofs.KnownBytes.{Appends-trans}
use Rattle.edge_traits.specs.Pairs.{Records}
use Rattle.lobby_shelf.specs.declared.shelved.Shelved.{Shelved}
use Rattle.cmd_lines.specs.declared.end.End.TheVariants.{Done, ReadFault, WriteFault, Memory, BadLine, Spent}
use Rattle.cmd_lines.proofs.Sending.{AppendsFront-behind}
use Rattle.lobby_load.specs.BadRows.{IsGoodStore}
use Rattle.lobby_load.specs.Loaded.{AreSpelled, HasLoaded}
use Rattle.lobby_state.specs.Lobby.{LobbyState}
use Rattle.lobby_state.specs.WellFormed.{IsWellFormed}
use Rattle.cmd_store.specs.declared.outcome.Outcome.{Outcome}
use Rattle.cmd_store.specs.declared.outcome.Outcome.TheVariants as outcome
use Rattle.cmd_pgn.specs.Exports.{exports}
use Rattle.cmd_pgn.specs.Games.{AreStoreGames}
use Rattle.cmd_pgn.specs.PgnEnds.{PgnEnds, WritesText}
use Rattle.cmd_pgn.proofs.StoreGames.{store_games}

-- the store was opened, which wrote nothing, and then its games were written
exported : (table : Option Records) (old mid new : Option (List ℕ)) (games : List Shelved) (end : Outcome)
    → AreStoreGames table games → Appends old mid []
    → WritesText mid new (exports games) end → PgnEnds table old new end
exported table old mid new games (outcome.Read Done) stored none w =
    record { games = games; stored = stored; text = Appends-trans old mid new [] (exports games) none w }
exported table old mid new games (outcome.Read ReadFault) stored none w = absurd w
exported table old mid new games (outcome.Read WriteFault) stored none w =
    inl (record { games = games; stored = stored; text = AppendsFront-behind old mid new [] (exports games) none w })
exported table old mid new games (outcome.Read Memory) stored none w =
    inr (inl (record {
      games = games;
      stored = stored;
      text = AppendsFront-behind old mid new [] (exports games) none w;
    }))
exported table old mid new games (outcome.Read BadLine) stored none w = absurd w
exported table old mid new games (outcome.Read Spent) stored none w = absurd w
exported table old mid new games outcome.BadRecord stored none w = absurd w
exported table old mid new games outcome.KeeperFault stored none w = absurd w
exported table old mid new games outcome.NoGame stored none w = absurd w

pub store_exported : (table : Option Records) (old mid new : Option (List ℕ)) (lobby : LobbyState) (end : Outcome)
    → IsWellFormed lobby → AreSpelled lobby
    → IfSome table (λ told. HasLoaded told lobby) → IfSome table IsGoodStore → Appends old mid []
    → WritesText mid new (exports lobby.shelf.games) end → PgnEnds table old new end
store_exported table old mid new lobby end formed spelled loaded good none w =
    exported table old mid new lobby.shelf.games end (store_games table lobby formed spelled loaded good) none w
