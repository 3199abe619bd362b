-- The line that tells how much a store holds. This program's own.
use Rattle.std.specs.Prelude.{◌≡◌, ℕ, List, ◌++◌, codes, decimal, IfSome, refl}
use Rattle.std.specs.declared.option.Option.{Option}
use Rattle.std.specs.FinMap as map
use Rattle.std.specs.Fmt.{digits}
use Rattle.edge_traits.specs.Pairs.{Records}
use Rattle.lobby_load.specs.BadRows.{IsAccount, IsRowOfGame, IsGoodStore}
use Rattle.lobby_load.specs.Loaded.{HasCount}

-- `ok: A accounts, G games`
abbrev pub check_line : ℕ → ℕ → List ℕ
check_line accounts games =
    codes "ok: " ++ decimal accounts ++ codes " accounts, " ++ decimal games ++ codes " games\n"

-- each record of a table that is told is good, and so many of its rows are accounts, and so many games
abbrev pub AreCounts : Option Records → ℕ → ℕ → Type 0
AreCounts table accounts games = IfSome table (λ told. IsGoodStore told
    × HasCount IsAccount accounts (map.entries told) × HasCount IsRowOfGame games (map.entries told))

example_line : check_line 2 1 ≡ codes "ok: 2 accounts, 1 games\n"
unfolding digits
example_line = refl
