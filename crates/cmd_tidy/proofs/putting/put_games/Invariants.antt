use Rattle.std.proofs.Common.{◌≡◌, ◌++◌, ℕ, List}
use Rattle.pgn_book.specs.declared.game.PgnGame.{PgnGame}
use Rattle.pgn_book.specs.Reader.{most_left}
use Rattle.pgn_book.specs.Runs.{HasGiven}
use Rattle.cmd_tidy.specs.Putting.{HasPutGames}
use Rattle.cmd_tidy.specs.Tidying.{exports}
use Rattle.cmd_tidy.proofs.putting.put_games.Given as goal

-- what is due for the games so far was put
abbrev pub invariant-loop : goal.invariant-loop
invariant-loop l =
    (taken base : List ℕ) (games : List PgnGame) → HasGiven taken games l.fn.reader
    → base ++ l.fn.out.items ≡ exports games → HasPutGames taken (base ++ l.out.items) l.reader

abbrev pub decreases-loop : goal.decreases-loop
decreases-loop l = most_left l.reader
