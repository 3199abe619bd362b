-- What carrying out a Clear keeps.
use Rattle.std.proofs.Common.{◌≡◌, ◌≢◌, ℕ, ◌-◌, ◌<◌, ◌≤◌, Bool, true, false, eqb, List, length, Option, None, Some, map, slice_get, refl, ap, ◌∙◌, arith, sym, subst}
use Rattle.std.proofs.Math.ListN.{set}
use Rattle.std.proofs.lemmas.Bool.{eqb-false, not-true}
use Rattle.std.proofs.lemmas.List.{length-set}
use Rattle.std.proofs.lemmas.List.Elements.{All-set, All-filter}
use Rattle.std.proofs.lemmas.Option.{slice_get_within, same_Some}
use Rattle.fics_words.specs.Handle.{key_of}
use Rattle.lobby_state.specs.declared.acts.Plan.TheVariants.{Clear}
use Rattle.lobby_state.specs.declared.game.ListedGame.{ListedGame}
use Rattle.simul_control.specs.declared.place.Place.{Place}
use Rattle.lobby_state.specs.Clear.{off_desk, freed, cleared}
use Rattle.lobby_state.specs.Keeps.{KeepsPlan}
use Rattle.lobby_state.specs.Desks.{IsDesk}
use Rattle.lobby_state.specs.Lobby.{LobbyState, game_at, listed_game_in, is_session}
use Rattle.lobby_state.specs.Places.{is_elsewhere}
use Rattle.lobby_state.specs.Plans.{committed, game_after, put_away}
use Rattle.lobby_state.specs.WellFormed.{AreCounted, IsWellFormed, IsSeatOf, IsStarted, HasSeats}
use Rattle.lobby_state.proofs.Lists.{map-map_same, All-map_each, All-filter_passing, get-set_other, get-set_same}
use Rattle.std.specs.Prelude.{IfSome, IsSome}
use Rattle.game_records.specs.Replays.{Replays}
use Rattle.game_records.specs.declared.stored_game.StoredGame.{StoredGame}
use Rattle.lobby_shelf.specs.Numbers.{next_number}
use Rattle.lobby_shelf.specs.Shelf.{most_stored, shelved}
use Rattle.lobby_shelf.specs.declared.shelved.Shelved.{Shelved}
use Rattle.lobby_shelf.proofs.Keeping.{IsShelf-shelved, length-with}
use Rattle.lobby_shelf.proofs.Rising.{next_number-least}
use Rattle.lobby_state.specs.Reserve.{CanShelve}
use Rattle.lobby_state.proofs.DesksUsed.{desks_used-free, desks_used-freed}
use Rattle.lobby_state.proofs.WellFormed.{kept, member_changed}

formed_freed : (lobby : LobbyState) (session desk : ℕ) → IsWellFormed lobby → IsWellFormed (freed lobby session desk)
formed_freed lobby session desk h =
    member_changed lobby (is_session session) (off_desk desk) (λ _. refl) (λ _. refl)
    (λ m has. All-filter (is_elsewhere desk) (IsSeatOf lobby.games m.session) m.places.rows has) h

-- a place at another desk stays a seat where a desk is freed
IsSeatOf-cleared : (games : List (Option ListedGame)) (desk session : ℕ) (place : Place) → IsDesk desk
    → is_elsewhere desk place ≡ true
    → IsSeatOf games session place → IsSeatOf (set games (desk - 1) None) session place
IsSeatOf-cleared games desk session place is_desk else h =
    let apart : place.desk ≢ desk = eqb-false place.desk desk (not-true (eqb place.desk desk) else) in
    record {
      desk = h.desk;
      game = h.game;
      in_use =
          get-set_other games (desk - 1) (place.desk - 1) None (λ e. apart (omega (arith, is_desk, h.desk))) ∙ h.in_use;
      serial = h.serial;
      seat = h.seat;
      sits = h.sits;
      theirs = h.theirs;
    }

formed_cleared : (lobby : LobbyState) (desk : ℕ) → IsDesk desk → IsWellFormed lobby → IsWellFormed (cleared lobby desk)
formed_cleared lobby desk is_desk h =
    let games = set lobby.games (desk - 1) None in
    let fewer = desks_used-free lobby.games (desk - 1) in
    let room = h.counted.room in
    let orders = h.counted.orders in
    kept lobby (map (off_desk desk) lobby.members) lobby.challenges games lobby.started lobby.shelf
    (map-map_same (λ m. m.session) (off_desk desk) (λ _. refl) lobby.members)
    (map-map_same (λ m. key_of m.name) (off_desk desk) (λ _. refl) lobby.members)
    h.challenges
    (length-set lobby.games (desk - 1) None ∙ h.games)
    (All-set (IsStarted lobby.started) lobby.games (desk - 1) None tt h.serials)
    (All-map_each (HasSeats lobby.games) (HasSeats games) (off_desk desk)
    (λ m has. All-filter_passing (IsSeatOf lobby.games m.session) (IsSeatOf games m.session) (is_elsewhere desk)
    (λ p else. IsSeatOf-cleared lobby.games desk m.session p is_desk else) m.places.rows has)
    lobby.members h.places) h.shelf
    (record { few = h.counted.few; room = omega (arith, fewer, room); orders = omega (arith, fewer, orders) }) h

-- what a desk in use holds
used_game : (o : Option (Option ListedGame)) → IsSome (listed_game_in o) → (game : ListedGame) × (o ≡ Some (Some game))
used_game None there = absurd (let bad : false ≡ true = there in cc)
used_game (Some None) there = absurd (let bad : false ≡ true = there in cc)
used_game (Some (Some game)) there = (game, refl)

-- the desk's game goes on the shelf
formed_shelved : (lobby : LobbyState) (desk : ℕ) (game : StoredGame) → IsDesk desk → Replays game
    → IsSome (game_at lobby desk) → IsWellFormed lobby
    → IsWellFormed (record (cleared lobby desk) { shelf = shelved lobby.shelf game })
formed_shelved lobby desk game is_desk replays there h =
    let left = formed_cleared lobby desk is_desk h in
    let used = used_game (slice_get lobby.games (desk - 1)) there in
    let fewer = desks_used-freed lobby.games (desk - 1) used.0 used.1 in
    let sound = h.shelf.sound in
    let least = next_number-least lobby.shelf.games sound.numbers in
    let new : Shelved = record { number = next_number lobby.shelf.games; game = game } in
    let long = length-with new 0 lobby.shelf.games least.unused sound.numbers in
    let room = h.counted.room in
    let orders = h.counted.orders in
    let stored = IsShelf-shelved lobby.shelf game (omega (arith, fewer, room)) replays sound in
    let counted : AreCounted lobby.accounts (cleared lobby desk).games lobby.started (shelved lobby.shelf game) =
    record { few = h.counted.few; room = omega (arith, fewer, long, room); orders = omega (arith, fewer, orders) } in
    assumption (stored, left.shelf.members, counted, left)

formed_by : (lobby : LobbyState) (session desk serial : ℕ) → IsDesk desk
    → (game : Option StoredGame) (is_cleared : Bool)
    → CanShelve lobby (Clear session desk serial) game → IsWellFormed lobby
    → IsWellFormed (committed lobby (Clear session desk serial) game is_cleared)
formed_by lobby session desk serial is_desk None true can h = formed_cleared lobby desk is_desk h
formed_by lobby session desk serial is_desk (Some game) true can h =
    formed_shelved lobby desk game is_desk can.0 can.1 h
formed_by lobby session desk serial is_desk game false can h = formed_freed lobby session desk h

-- the games of the lobby don't ask whether one goes on the shelf
games-put_away : (lobby : LobbyState) (desk : ℕ) (game : Option StoredGame)
    → (put_away lobby desk game).games ≡ set lobby.games (desk - 1) None
games-put_away lobby desk None = refl
games-put_away lobby desk (Some game) = refl

others_by : (lobby : LobbyState) (session desk serial : ℕ) → IsDesk desk
    → (game : Option StoredGame) (is_cleared : Bool) (number : ℕ) → 1 ≤ number
    → Some desk ≢ Some number
    → slice_get (committed lobby (Clear session desk serial) game is_cleared).games (number - 1)
    ≡ slice_get lobby.games (number - 1)
others_by lobby session desk serial is_desk game true number low other =
    ap (λ games. slice_get games (number - 1)) (games-put_away lobby desk game)
    ∙ get-set_other lobby.games (desk - 1) (number - 1) None (λ e. other (ap Some (omega (arith, is_desk))))
others_by lobby session desk serial is_desk game false number low other = refl

own_by : (lobby : LobbyState) (session desk serial : ℕ) (game : Option StoredGame) (is_cleared : Bool) (number : ℕ)
    (before : Option ListedGame)
    → desk ≡ number
    → slice_get lobby.games (number - 1) ≡ Some before
    → slice_get (committed lobby (Clear session desk serial) game is_cleared).games (number - 1)
    ≡ Some (game_after (Clear session desk serial) is_cleared before)
own_by lobby session desk serial game true number before same there =
    ap (λ games. slice_get games (number - 1)) (games-put_away lobby desk game)
    ∙ subst (λ (n : ℕ). slice_get (set lobby.games (n - 1) None) (number - 1) ≡ Some None) (sym same)
    (get-set_same lobby.games (number - 1) None (slice_get_within lobby.games (number - 1) before there))
own_by lobby session desk serial game false number before same there = there

pub keeps_cleared : (lobby : LobbyState) (session desk serial : ℕ) → IsDesk desk
    → KeepsPlan lobby (Clear session desk serial)
keeps_cleared lobby session desk serial is_desk = record {
  is_desk = is_desk;
  formed = formed_by lobby session desk serial is_desk;
  own = λ game is_cleared number before e there.
      own_by lobby session desk serial game is_cleared number before (same_Some desk number e) there;
  others = others_by lobby session desk serial is_desk;
}

-- there is a place on the shelf for the game of the desk that is cleared
pub place-left : (lobby : LobbyState) (session desk serial : ℕ) (game : Option StoredGame)
    → CanShelve lobby (Clear session desk serial) game
    → IsWellFormed lobby → IfSome game (λ _. length lobby.shelf.games < most_stored)
place-left lobby session desk serial None can h = tt
place-left lobby session desk serial (Some game) can h =
    let used = used_game (slice_get lobby.games (desk - 1)) can.1 in
    let fewer = desks_used-freed lobby.games (desk - 1) used.0 used.1 in
    let room = h.counted.room in
    omega (arith, fewer, room)
