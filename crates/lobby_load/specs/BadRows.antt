-- Which keys of a store are bad: what stands under them is no account under the key of its name and no game that
-- replays under the key of its number, or it is one account or game more than a server holds. This server's own.
use Rattle.std.specs.Prelude.{◌≡◌, ◌⊎◌, ℕ, ◌≤◌, Bool, true, List, All, Some, codes, count_by, refl}
use Rattle.std.specs.FinMap as map
use Rattle.std.specs.declared.cmp.Ordering.TheVariants.{Less}
use Rattle.fics_words.specs.declared.account.Account.{Account}
use Rattle.game_records.specs.declared.stored_game.StoredGame.{StoredGame}
use Rattle.lobby_shelf.specs.Shelf.{most_stored}
use Rattle.edge_traits.specs.Pairs.{Pairs, Records, keys_order}
use Rattle.lobby_state.specs.Lobby.{most_accounts}
use Rattle.lobby_store.specs.Carrying.{held}
use Rattle.lobby_store.specs.Rows.{IsAccountRow, IsGameRow, IsNoRow}

-- a key and its record
abbrev pub Row : Type 0
Row = List ℕ × List ℕ

-- the row is that of an account
abbrev pub IsAccount : Row → Type 0
IsAccount row = (account : Account) × IsAccountRow account row

-- the row is that of a game
abbrev pub IsRowOfGame : Row → Type 0
IsRowOfGame row = (number : ℕ) × (game : StoredGame) × IsGameRow number game row

-- the one key comes before the other
abbrev pub ComesBefore : List ℕ → List ℕ → Type 0
ComesBefore one other = keys_order one other ≡ Less

example_byte_by_byte : ComesBefore (codes "aann") (codes "aben")
example_byte_by_byte = refl

example_prefix_first : ComesBefore (codes "aann") (codes "aanna")
example_prefix_first = refl

-- the rows have at least so many of a kind at keys before this one: so many can be picked, all of the kind and before
pub record HasBefore (IsOfKind : Row → Type 0) (count : ℕ) (rows : Pairs) (key : List ℕ) : Type 0 where
  pub pick : Row → Bool
  pub kind : All (λ row. pick row ≡ true → IsOfKind row) rows
  pub before : All (λ row. pick row ≡ true → ComesBefore row.0 key) rows
  pub many : count ≤ count_by pick rows

-- the row is beyond what a server holds: an account before which there are 4,096 accounts in the order of the keys, or
-- a game before which there are 10,000 games
abbrev pub IsBeyond : Pairs → Row → Type 0
IsBeyond rows row = (IsAccount row × HasBefore IsAccount most_accounts rows row.0)
    ⊎ (IsRowOfGame row × HasBefore IsRowOfGame most_stored rows row.0)

-- the key is bad: its record is no row under it, or a row beyond what a server holds
pub record IsBad (table : Records) (key : List ℕ) : Type 0 where
  pub record_of : List ℕ
  pub stands : held table key ≡ Some record_of
  pub bad : IsNoRow (key, record_of) ⊎ IsBeyond (map.entries table) (key, record_of)

-- the key is bad, and no key before it is
pub record IsLeastBad (table : Records) (key : List ℕ) : Type 0 where
  pub bad : IsBad table key
  pub least : (other : List ℕ) → ComesBefore other key → IsBad table other → ⊥

-- each pair of the table is a row, and no key is bad
pub record IsGoodStore (table : Records) : Type 0 where
  pub rows : All (λ row. IsAccount row ⊎ IsRowOfGame row) (map.entries table)
  pub none_bad : (key : List ℕ) → IsBad table key → ⊥
