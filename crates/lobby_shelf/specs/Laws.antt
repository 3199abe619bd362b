-- What the changes of a shelf mean. This server's own.
use Rattle.std.specs.Prelude.{◌≡◌, ◌≢◌, ℕ, ◌<◌, ◌≤◌, true, false, List, ◌++◌, All, None, Some, IfNone, IfSome}
use Rattle.game_records.specs.declared.stored_game.StoredGame.{StoredGame}
use Rattle.lobby_shelf.specs.Numbers.{IsLeastUnused, is_used, next_number, stored_game}
use Rattle.lobby_shelf.specs.Players.{IsLeastOf, is_of_both, least_of}
use Rattle.lobby_shelf.specs.Shelf.{ShelfState, asked, asks, saved, taken_off, with_stored, without_requests}
use Rattle.lobby_shelf.specs.Wanted.{told_up_to}

-- a game that comes is found under its number, a game that goes is found no more, and every other one is found as
-- before; and a game that is adjourned gets the least positive number that no stored game has
pub record GamesAreFound (shelf : ShelfState) : Type 0 where
  pub put : (number : ℕ) (game : StoredGame) → is_used shelf.games number ≡ false
      → stored_game (with_stored shelf number game).games number ≡ Some game
  pub others_put : (number other : ℕ) (game : StoredGame) → is_used shelf.games number ≡ false → other ≢ number
      → stored_game (with_stored shelf number game).games other ≡ stored_game shelf.games other
  pub gone : (number : ℕ) → stored_game (taken_off shelf number).games number ≡ None
  pub others_gone : (number other : ℕ) → other ≢ number
      → stored_game (taken_off shelf number).games other ≡ stored_game shelf.games other
  pub number : IsLeastUnused shelf.games (next_number shelf.games)

-- who is looked for finds the game of least number that both have among its players, or there is none that both have
pub record FindsLeast (shelf : ShelfState) (one other : List ℕ) : Type 0 where
  pub found : IfSome (least_of shelf.games one other) (IsLeastOf shelf.games one other)
  pub none : IfNone (least_of shelf.games one other) (All (λ row. is_of_both one other row ≡ false) shelf.games)

-- the orders that are told as saved are the first ones, and the rest stands as it stood
pub record SavedAreFirst (shelf : ShelfState) : Type 0 where
  pub first : (upto : ℕ) → shelf.orders ≡ told_up_to shelf upto ++ (saved shelf upto).orders
  pub told : (upto : ℕ) → All (λ order. order.number ≤ upto) (told_up_to shelf upto)
  pub later : (upto : ℕ) → All (λ order. upto < order.number) (saved shelf upto).orders

-- a request stands once it was put, and goes with its game, with its member, and as its member is seated; nothing else
-- changes what others ask
pub record RequestsStand (shelf : ShelfState) : Type 0 where
  pub put : (by game : ℕ) → asks (asked shelf by game) by game ≡ true
  pub others_put : (by game other number : ℕ) → (other ≡ by → number ≡ game → ⊥)
      → asks (asked shelf by game) other number ≡ asks shelf other number
  pub off : (by number : ℕ) → asks (taken_off shelf number) by number ≡ false
  pub others_off : (by number other : ℕ) → other ≢ number
      → asks (taken_off shelf number) by other ≡ asks shelf by other
  pub gone : (by game : ℕ) → asks (without_requests by shelf) by game ≡ false
  pub others_gone : (by other game : ℕ) → other ≢ by
      → asks (without_requests by shelf) other game ≡ asks shelf other game
