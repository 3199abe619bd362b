-- Who has a place at a desk plays in the game there, and nobody else changes as the places at the desk go.
use Rattle.std.proofs.Common.{◌≡◌, ℕ, ◌-◌, false, not, List, Option, Some, ap, refl, sym, subst, ◌∙◌, map, eqb, slice_get}
use Rattle.std.specs.Prelude.{All, IsTrue}
use Rattle.std.specs.List.{IsDistinct, list_any}
use Rattle.std.proofs.lemmas.Bool.{eq-eqb, eqb-true, false_from_ne_true, true≢false}
use Rattle.std.proofs.lemmas.List.Elements.{All-weaker}
use Rattle.std.proofs.lemmas.List.Folds.{Any-from_list_any, list_any_at}
use Rattle.std.proofs.lemmas.Map.Views.{any-filter_same}
use Rattle.std.proofs.lemmas.Option.{get_or_from_slice_get, slice_get_within}
use Rattle.fics_words.specs.Seats.{plays_as, seat_list}
use Rattle.fics_words.specs.declared.player.Player.{Player}
use Rattle.simul_control.specs.declared.place.Place.{Place}
use Rattle.simul_control.proofs.Leaving.{nothing_left}
use Rattle.lobby_state.specs.declared.game.ListedGame.{ListedGame}
use Rattle.lobby_state.specs.declared.member.Member.{Member}
use Rattle.lobby_state.specs.Clear.{PlaysThere, off_desk}
use Rattle.lobby_state.specs.Lobby.{listed_game_in}
use Rattle.lobby_state.specs.Places.{is_at, is_elsewhere}
use Rattle.lobby_state.specs.Players.{change_players, plays_in}
use Rattle.lobby_state.specs.WellFormed.{HasSeats, IsSeatOf}
use Rattle.lobby_state.proofs.Seated.{all_once}

-- who has no place at the desk stays as it is
idle : (desk : ℕ) (m : Member) → list_any (is_at desk) m.places.rows ≡ false → off_desk desk m ≡ m
idle desk m none = ap (λ places. record m { places = places }) (sym (nothing_left desk m.places none))

-- and so does who has left
twice : (desk : ℕ) (m : Member) → off_desk desk (off_desk desk m) ≡ off_desk desk m
twice desk m =
    idle desk (off_desk desk m)
    (any-filter_same (is_at desk) (is_elsewhere desk) false (λ place at. ap not at) m.places.rows)

-- the seat's player plays in the desk's game
plays : (games : List (Option ListedGame)) (desk session : ℕ) (place : Place) → IsSeatOf games session place
    → IsTrue (is_at desk place)
    → IsTrue (plays_in (listed_game_in (slice_get games (desk - 1))) session)
plays games desk session place h at =
    let here : slice_get games (desk - 1) ≡ Some (Some h.game) =
    ap (λ n. slice_get games (n - 1)) (sym (eqb-true place.desk desk at)) ∙ h.in_use in
    let seats = seat_list h.game.seats in
    let within = slice_get_within seats place.seat h.seat h.sits in
    let is_seat = get_or_from_slice_get seats place.seat h.seat h.seat h.sits in
    ap (λ o. plays_in (listed_game_in o) session) here
    ∙ list_any_at (plays_as session) seats place.seat h.seat within
    (ap (plays_as session) is_seat ∙ eq-eqb h.seat.session session h.theirs)

-- one of the places at the desk is enough
some_plays : (games : List (Option ListedGame)) (desk session : ℕ) (places : List Place)
    → All (IsSeatOf games session) places
    → IsTrue (list_any (is_at desk) places) → IsTrue (plays_in (listed_game_in (slice_get games (desk - 1))) session)
some_plays games desk session places seats there =
    let one = Any-from_list_any (is_at desk) places there in
    plays games desk session one.1 (subst (IsSeatOf games session) one.3 (seats one.0 one.1 one.2)) one.4

-- so in the lobby whose members have seats in its games all who have a place at the desk play there
pub all_play : (games : List (Option ListedGame)) (desk : ℕ) (members : List Member) → All (HasSeats games) members
    → All (PlaysThere desk (listed_game_in (slice_get games (desk - 1)))) members
all_play games desk members seats =
    All-weaker (HasSeats games) (PlaysThere desk (listed_game_in (slice_get games (desk - 1))))
    (λ m has. some_plays games desk m.session m.places.rows has) members seats

stays : (desk : ℕ) (game : Option ListedGame) (m : Member) → PlaysThere desk game m → plays_in game m.session ≡ false
    → off_desk desk m ≡ m
stays desk game m there none = idle desk m (false_from_ne_true _ (λ at. true≢false (sym (there at) ∙ none)))

-- where the players of that game get up, nobody has a place at the desk any more
pub all_up : (desk : ℕ) (game : Option ListedGame) (players : List Player) (members : List Member)
    → ((session : ℕ) → plays_in game session ≡ list_any (plays_as session) players)
    → IsDistinct eqb (map (λ (m : Member). m.session) members)
    → All (PlaysThere desk game) members → change_players (off_desk desk) players members ≡ map (off_desk desk) members
all_up desk game players members are apart there =
    all_once (off_desk desk) (λ _. refl) (twice desk) players members apart
    (All-weaker (PlaysThere desk game) (λ m. list_any (plays_as m.session) players ≡ false → off_desk desk m ≡ m)
    (λ m plays none. stays desk game m plays (are m.session ∙ none)) members there)
