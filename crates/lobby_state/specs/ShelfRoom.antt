-- How much of the shelf is taken: each game for which a desk is in use may be adjourned, and has its place there. This
-- server's own.
use Rattle.std.specs.Prelude.{ℕ, ◌+◌, Bool, false, nat_le, List, [], ◌∷◌, length, map, Option, is_some, count_by}
use Rattle.fics_words.specs.Effect.{Effect}
use Rattle.fics_words.specs.declared.refusal.Refusal.TheVariants.{ShelfFull}
use Rattle.game_records.specs.declared.stored_game.StoredGame.{StoredGame}
use Rattle.lobby_shelf.specs.Shelf.{most_stored, with_stored}
use Rattle.lobby_shelf.specs.declared.shelved.Shelved.{Shelved}
use Rattle.lobby_state.specs.declared.game.ListedGame.{ListedGame}
use Rattle.lobby_state.specs.Lobby.{LobbyState}

-- the numbers of these games, in their order
abbrev pub numbers_of : List Shelved → List ℕ
numbers_of games = map (λ row. row.number) games

-- how many desks are in use
abbrev pub desks_used : List (Option ListedGame) → ℕ
desks_used games = count_by is_some games

-- stored games and desks in use, together
abbrev pub places_taken : LobbyState → ℕ
places_taken lobby = length lobby.shelf.games + desks_used lobby.games

-- these are 10,000
abbrev pub is_shelf_full : LobbyState → Bool
is_shelf_full lobby = nat_le most_stored (places_taken lobby)

-- a game that was kept elsewhere is put on the shelf: refused where stored games and desks in use are 10,000 together
abbrev pub storing_effect : LobbyState → ℕ → StoredGame → Effect LobbyState (Unit {0})
storing_effect lobby number game = record {
  causes = (is_shelf_full lobby, ShelfFull) ∷ [];
  memory = false;
  reply = tt;
  after = record lobby { shelf = with_stored lobby.shelf number game };
}
