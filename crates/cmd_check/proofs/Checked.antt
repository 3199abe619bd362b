-- How a check ends, by whether its store could be opened.
use Rattle.std.proofs.Common.{◌≡◌, ℕ, List, [], length, Option, None, Some, refl, sym, subst, inl, inr}
use Rattle.std.specs.Prelude.{IfSome}
use Rattle.std.specs.FinMap as map
use Rattle.std.specs.Io.KnownBytes.{Appends}
use Rattle.std.proofs.KnownBytes.{Appends-trans}
use Rattle.edge_traits.specs.Pairs.{Records}
use Rattle.cmd_lines.specs.declared.end.End.{End}
use Rattle.cmd_lines.specs.declared.end.End.TheVariants.{Done, ReadFault, WriteFault, Memory, BadLine, Spent}
use Rattle.cmd_lines.proofs.Sending.{AppendsFront-behind}
use Rattle.lobby_load.specs.BadRows.{IsAccount, IsRowOfGame, IsGoodStore}
use Rattle.lobby_load.specs.Loaded.{HasCount, HasSizes}
use Rattle.lobby_state.specs.Lobby.{LobbyState}
use Rattle.cmd_store.specs.declared.outcome.Outcome.TheVariants.{Read}
use Rattle.cmd_check.specs.CheckEnds.{CheckEnds, WritesLine}
use Rattle.cmd_check.specs.Counts.{AreCounts, check_line}

-- a loaded lobby has the numbers of the table's rows
pub counted : (table : Option Records) (lobby : LobbyState) (accounts games : ℕ) → IfSome table IsGoodStore
    → IfSome table (λ told. HasSizes told lobby)
    → accounts ≡ length lobby.accounts → games ≡ length lobby.shelf.games → AreCounts table accounts games
counted None lobby accounts games good sized a g = tt
counted (Some told) lobby accounts games good sized a g = (
  good,
  subst (λ (n : ℕ). HasCount IsAccount n (map.entries told)) (sym a) sized.accounts,
  subst (λ (n : ℕ). HasCount IsRowOfGame n (map.entries told)) (sym g) sized.games,
)

-- the line of the counts was written, or a beginning of it
pub told : (table : Option Records) (a b c : Option (List ℕ)) (accounts games : ℕ) (end : End)
    → AreCounts table accounts games → Appends a b []
    → WritesLine (check_line accounts games) b c end → CheckEnds table a c (Read end)
told table a b c accounts games Done counts nothing wrote =
    record {
      accounts = accounts;
      games = games;
      counts = counts;
      wrote = Appends-trans a b c [] (check_line accounts games) nothing wrote;
    }
told table a b c accounts games ReadFault counts nothing wrote = absurd wrote
told table a b c accounts games WriteFault counts nothing wrote =
    inr (
      check_line accounts games,
      inl (accounts, games, counts, refl),
      AppendsFront-behind a b c [] (check_line accounts games) nothing wrote,
    )
told table a b c accounts games Memory counts nothing wrote =
    inr (
      check_line accounts games,
      inl (accounts, games, counts, refl),
      AppendsFront-behind a b c [] (check_line accounts games) nothing wrote,
    )
told table a b c accounts games BadLine counts nothing wrote = absurd wrote
told table a b c accounts games Spent counts nothing wrote = absurd wrote
