-- That the game of a number is one, so that what `examine` writes for a table and an input is one text. This server's
-- own.
use Rattle.std.specs.Prelude.{◌≡◌, ℕ}
use Rattle.edge_traits.specs.Pairs.{Records}
use Rattle.game_records.specs.declared.stored_game.StoredGame.{StoredGame}
use Rattle.cmd_examine.specs.ExamineEnds.{StandsUnder}

-- two games that stand in a table under the key of one number are the same
abbrev pub HasOneGame : Type 0
HasOneGame = (table : Records) (number : ℕ) (one other : StoredGame)
    → StandsUnder number one table → StandsUnder number other table → one ≡ other
