-- Who plays in a stored game. This server's own.
use Rattle.std.specs.Prelude.{◌≡◌, ℕ, ◌+◌, ◌<◌, ◌≤◌, ◌&&◌, ◌||◌, Bool, true, List, [], ◌∷◌, Contains, Option, None, Some, bytes_eq, drop, length, slice_get}
use Rattle.std.specs.List.{filter, find, list_all, list_any}
use Rattle.fics_words.specs.Handle.{key_of}
use Rattle.game_records.specs.declared.stored_game.StoredGame.{StoredGame}
use Rattle.lobby_shelf.specs.declared.shelved.Shelved.{Shelved}

-- the handle with this key is among the players of the game
abbrev pub has_player : List ℕ → StoredGame → Bool
has_player key game = list_any (λ name. bytes_eq (key_of name) key) game.names

-- all players of the game pass the test but the handle with this key, which needn't
abbrev pub all_others : List ℕ → (List ℕ → Bool) → StoredGame → Bool
all_others own passes game = list_all (λ name. bytes_eq (key_of name) own || passes name) game.names

-- the games that the handle with this key plays in, in the order of their numbers
abbrev pub of_player : List ℕ → List Shelved → List Shelved
of_player key games = filter (λ row. has_player key row.game) games

-- both are among the players of the game
abbrev pub is_of_both : List ℕ → List ℕ → Shelved → Bool
is_of_both one other row = has_player one row.game && has_player other row.game

-- the stored game of least number that has both among its players, if there is one
abbrev pub least_of : List Shelved → List ℕ → List ℕ → Option Shelved
least_of games one other = find (is_of_both one other) games

-- this is the game of least number that both have among theirs
pub record IsLeastOf (games : List Shelved) (one other : List ℕ) (row : Shelved) : Type 0 where
  pub stored : Contains games row
  pub both : is_of_both one other row ≡ true
  pub least : (another : Shelved) → Contains games another → is_of_both one other another ≡ true
      → row.number ≤ another.number

-- of the games from a place on those that pass begin with the one at this place, or none of them passes
abbrev pub IsNext : (Shelved → Bool) → ℕ → List Shelved → Option ℕ → Type 0
IsNext passes from games None = filter passes (drop from games) ≡ []
IsNext passes from games (Some place) = (place < length games) × ((row : Shelved) → slice_get games place ≡ Some row
    → filter passes (drop from games) ≡ row ∷ filter passes (drop (place + 1) games))
