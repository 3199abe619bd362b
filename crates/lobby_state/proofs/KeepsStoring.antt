-- What the loading of a stored game keeps.
use Rattle.std.proofs.Common.{◌≡◌, ℕ, ◌^◌, ◌<◌, false, Result, arith}
use Rattle.std.proofs.lemmas.Bool.{leb-false}
use Rattle.fics_words.specs.Effect.{Takes}
use Rattle.fics_words.specs.declared.fail.Fail.{Fail}
use Rattle.game_records.specs.Replays.{Replays}
use Rattle.game_records.specs.declared.stored_game.StoredGame.{StoredGame}
use Rattle.lobby_shelf.specs.Numbers.{is_used}
use Rattle.lobby_shelf.specs.Shelf.{with_stored}
use Rattle.lobby_shelf.specs.declared.shelved.Shelved.{Shelved}
use Rattle.lobby_shelf.proofs.Keeping.{IsShelf-with_stored, length-with}
use Rattle.lobby_state.specs.Lobby.{LobbyState}
use Rattle.lobby_state.specs.ShelfRoom.{is_shelf_full, places_taken, storing_effect}
use Rattle.lobby_state.specs.WellFormed.{AreCounted, IsWellFormed}
use Rattle.lobby_state.proofs.Refusals.{holds_taken}

formed_storing : (lobby : LobbyState) (number : ℕ) (game : StoredGame) → 0 < number → number < 2 ^ 64
    → is_used lobby.shelf.games number ≡ false
    → Replays game → is_shelf_full lobby ≡ false → IsWellFormed lobby
    → IsWellFormed (record lobby { shelf = with_stored lobby.shelf number game })
formed_storing lobby number game positive fits unused replays room h =
    let sound = h.shelf.sound in
    let left = leb-false 10000 (places_taken lobby) room in
    let new : Shelved = record { number = number; game = game } in
    let long = length-with new 0 lobby.shelf.games unused sound.numbers in
    let stored = IsShelf-with_stored lobby.shelf number game positive fits unused (omega (arith, left)) replays sound in
    let counted : AreCounted lobby.accounts lobby.games lobby.started (with_stored lobby.shelf number game) =
    record { few = h.counted.few; room = omega (arith, long, left); orders = h.counted.orders } in
    assumption (stored, h.shelf.members, counted, h)

pub IsWellFormed-storing : (lobby : LobbyState) (number : ℕ) (game : StoredGame) (new : LobbyState)
    (result : Result (Unit {0}) Fail)
    → 0 < number → number < 2 ^ 64
    → is_used lobby.shelf.games number ≡ false → Replays game → IsWellFormed lobby
    → Takes (storing_effect lobby number game) lobby new result → IsWellFormed new
IsWellFormed-storing lobby number game new result positive fits unused replays h =
    holds_taken IsWellFormed lobby (storing_effect lobby number game) new result h
    (λ allowed. formed_storing lobby number game positive fits unused replays allowed.0 h)
