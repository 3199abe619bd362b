-- The games on the shelf stand in the order of their numbers, which are from 1 on. This server's own.
use Rattle.std.specs.Prelude.{◌≡◌, ℕ, ◌^◌, ◌==◌, nat_lt, Bool, not, List, [], ◌∷◌, ◌++◌, Option, None, Some, refl}
use Rattle.std.specs.List.{filter, find}
use Rattle.collections.specs.Rising as rising
use Rattle.game_records.specs.declared.stored_game.StoredGame.{StoredGame}
use Rattle.lobby_shelf.specs.declared.shelved.Shelved.{Shelved}

-- the number of a game
abbrev pub number_of : Shelved → ℕ
number_of row = row.number

-- the game has this number
abbrev pub has_number : ℕ → Shelved → Bool
has_number number row = row.number == number

-- a game has that number
abbrev pub is_used : List Shelved → ℕ → Bool
is_used games number = rising.is_used number_of games number

-- the game in a row that is there
abbrev pub row_game : Option Shelved → Option StoredGame
row_game None = None
row_game (Some row) = Some row.game

-- the stored game of that number, if there is one
abbrev pub stored_game : List Shelved → ℕ → Option StoredGame
stored_game games number = row_game (find (has_number number) games)

-- the numbers rise from game to game, all of them above this one, and below 2^64
abbrev pub RiseAbove : ℕ → List Shelved → Type 0
RiseAbove low games = rising.RiseAbove number_of (2 ^ 64) low games

-- the games stand in the order of their numbers, which are positive and differ
abbrev pub AreInOrder : List Shelved → Type 0
AreInOrder games = RiseAbove 0 games

-- the number is the least positive one that no game has
abbrev pub IsLeastUnused : List Shelved → ℕ → Type 0
IsLeastUnused games number = rising.IsLeastUnused number_of games number

-- the first number from this one on that a row of rising numbers leaves out
abbrev pub first_gap : ℕ → List Shelved → ℕ
first_gap number games = rising.first_gap number_of number games

-- the number that the next game gets
abbrev pub next_number : List Shelved → ℕ
next_number games = first_gap 1 games

-- the game has a lesser number
abbrev pub is_below : ℕ → Shelved → Bool
is_below number row = nat_lt row.number number

-- the game has a greater number
abbrev pub is_above : ℕ → Shelved → Bool
is_above number row = nat_lt number row.number

-- the games with one more: it stands behind those of lesser numbers and before those of greater ones
abbrev pub with_game : Shelved → List Shelved → List Shelved
with_game new games = filter (is_below new.number) games ++ new ∷ filter (is_above new.number) games

-- the games without the one of that number
abbrev pub without_game : ℕ → List Shelved → List Shelved
without_game number games = filter (λ row. not (has_number number row)) games

-- a game under a number, for the examples
numbered : StoredGame → ℕ → Shelved
numbered game number = record { number = number; game = game }

example_first : next_number [] ≡ 1
example_first = refl

example_gap : (game : StoredGame) → next_number (numbered game 1 ∷ numbered game 2 ∷ numbered game 4 ∷ []) ≡ 3
unfolding numbered
example_gap game = refl

example_in_its_place : (game : StoredGame) → with_game (numbered game 3) (numbered game 2 ∷ numbered game 4 ∷ [])
    ≡ numbered game 2 ∷ numbered game 3 ∷ numbered game 4 ∷ []
unfolding numbered
example_in_its_place game = refl
