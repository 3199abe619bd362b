-- How `pgn` ends: what was written by then, by the table of the keeper, where the keeper tells it.
use Rattle.std.specs.Prelude.{◌⊎◌, ℕ, List, []}
use Rattle.std.specs.declared.option.Option.{Option}
use Rattle.std.specs.Io.KnownBytes.{Appends}
use Rattle.edge_traits.specs.Pairs.{Records}
use Rattle.edge_traits.specs.Sink.{AppendsFront}
use Rattle.lobby_shelf.specs.declared.shelved.Shelved.{Shelved}
use Rattle.cmd_lines.specs.declared.end.End.TheVariants.{Done, WriteFault, Memory}
use Rattle.lobby_load.specs.Telling.{IsBadTold, WroteFront}
use Rattle.cmd_store.specs.declared.outcome.Outcome.{Outcome}
use Rattle.cmd_store.specs.declared.outcome.Outcome.TheVariants as outcome
use Rattle.cmd_pgn.specs.Exports.{exports}
use Rattle.cmd_pgn.specs.Games.{AreStoreGames}

-- the exports of the store's games were written, all of them
pub record AreExported (table : Option Records) (old new : Option (List ℕ)) : Type 0 where
  pub games : List Shelved
  pub stored : AreStoreGames table games
  pub text : Appends old new (exports games)

-- a beginning of these exports was written
pub record AreBegun (table : Option Records) (old new : Option (List ℕ)) : Type 0 where
  pub games : List Shelved
  pub stored : AreStoreGames table games
  pub text : AppendsFront old new (exports games)

-- at its end exactly the exports of the store's chess games were written; at a fault of writing, and out of memory, a
-- beginning of these, or of the line that tells of a bad record; at a bad record this line; and nothing else ends it
abbrev pub PgnEnds : Option Records → Option (List ℕ) → Option (List ℕ) → Outcome → Type 0
PgnEnds table old new (outcome.Read Done) = AreExported table old new
PgnEnds table old new (outcome.Read WriteFault) = AreBegun table old new ⊎ WroteFront table old new
PgnEnds table old new (outcome.Read Memory) =
    Appends old new [] ⊎ (AreBegun table old new ⊎ WroteFront table old new)
PgnEnds table old new outcome.BadRecord = IsBadTold table old new
PgnEnds table old new outcome.KeeperFault = Appends old new []
PgnEnds table old new _ = ⊥

-- this text was written, all of it, or a beginning of it at a fault of writing and out of memory
abbrev pub WritesText : Option (List ℕ) → Option (List ℕ) → List ℕ → Outcome → Type 0
WritesText old new text (outcome.Read Done) = Appends old new text
WritesText old new text (outcome.Read WriteFault) = AppendsFront old new text
WritesText old new text (outcome.Read Memory) = AppendsFront old new text
WritesText old new text _ = ⊥
