-- What carrying out a Start keeps.
use Rattle.std.proofs.Common.{◌≡◌, ℕ, ◌+◌, ◌-◌, ◌<◌, Bool, true, false, not, cond, List, [], ◌∷◌, ◌++◌, Option, None, Some, length, map, filter, slice_get, refl, sym, ap, subst, ◌∙◌, arith}
use Rattle.std.specs.Prelude.{All, is_some}
use Rattle.std.proofs.Math.ListN.{set}
use Rattle.std.proofs.lemmas.Bool.{eqb-true}
use Rattle.std.proofs.lemmas.List.{length-set}
use Rattle.std.proofs.lemmas.List.Elements.{All-set, All-push, All-weaker}
use Rattle.std.proofs.lemmas.Option.{slice_get_within, same_Some}
use Rattle.chess_model.specs.declared.variant.Terms.{Terms}
use Rattle.chess_model.specs.declared.variant.Variant.{Variant}
use Rattle.chess_model.specs.declared.variant.Variant.TheVariants.{Chess, Crazyhouse, Bughouse, Fischer}
use Rattle.fics_words.specs.Effect.{unless}
use Rattle.fics_words.specs.Handle.{key_of}
use Rattle.fics_words.specs.Seats.{plays_as, seat_list, seat_number}
use Rattle.fics_words.specs.declared.player.Player.{Player}
use Rattle.fics_words.specs.declared.refusal.Refusal.TheVariants.{SimulFull}
use Rattle.fics_words.specs.declared.seats.Seats.{Seats}
use Rattle.lobby_state.specs.declared.acts.Plan.TheVariants.{Start}
use Rattle.lobby_state.specs.declared.game.ListedGame.{ListedGame}
use Rattle.lobby_state.specs.declared.member.Member.{Member}
use Rattle.simul_control.specs.declared.place.Place.{Place}
use Rattle.lobby_state.specs.Keeps.{KeepsPlan}
use Rattle.lobby_state.specs.Desks.{IsDesk}
use Rattle.lobby_state.specs.Lobby.{LobbyState}
use Rattle.lobby_state.specs.Places.{PlaceList, are_places_full}
use Rattle.lobby_state.specs.Pairing.{needs_partners}
use Rattle.lobby_state.specs.Planned.{CanStart, FitsVariant}
use Rattle.lobby_state.specs.Start.{in_seat, is_seek_of_seated, is_settled, lobby_seated}
use Rattle.lobby_state.specs.WellFormed.{AreCounted, IsShelfOf, IsWellFormed, IsSeatOf, IsStarted, HasSeats, sessions_in}
use Rattle.lobby_state.proofs.ChallengeRows.{AreChallengesOf-filter}
use Rattle.lobby_state.proofs.Lists.{map-map_same, All-map_each, find-passes, get-set_same, get-set_other}
use Rattle.lobby_shelf.specs.Shelf.{ShelfState, is_by_seated as asks_seated}
use Rattle.lobby_state.specs.Terms.{AreTerms}
use Rattle.lobby_state.proofs.DesksUsed.{desks_used-taken}
use Rattle.lobby_state.proofs.WellFormed.{kept, resumes_gone, seeks_gone}
use Rattle.tables.proofs.Placed.{position-within, find-found}
use Rattle.lobby_state.proofs.Lent.{at_place}
use Rattle.lobby_state.proofs.Seated.{in_seat_session}

-- a number of a seat is that of the session's own
record Sits (session : ℕ) (seats : Seats) (number : ℕ) : Type 0 where
  seat : Player
  sits : slice_get (seat_list seats) number ≡ Some seat
  theirs : seat.session ≡ session

Sits-seat_number : (session : ℕ) (seats : Seats) (number : ℕ) → seat_number session (seat_list seats) ≡ Some number
    → Sits session seats number
Sits-seat_number session seats number e =
    let p = plays_as session in
    let found = at_place (seat_list seats) number (position-within p (seat_list seats) number e) in
    record {
      seat = found.0;
      sits = found.1;
      theirs =
          eqb-true found.0.session session
          (find-passes p (seat_list seats) found.0 (find-found p (seat_list seats) number e ∙ found.1));
    }

-- a place stays a seat where a game starts at a free desk
IsSeatOf-started : (games : List (Option ListedGame)) (slot : ℕ) (game : Option ListedGame) (session : ℕ)
    (place : Place)
    → slice_get games slot ≡ Some None
    → IsSeatOf games session place → IsSeatOf (set games slot game) session place
IsSeatOf-started games slot game session place free h = record {
  desk = h.desk;
  game = h.game;
  in_use = get-set_other games slot (place.desk - 1) game (λ e.
      let taken : slice_get games slot ≡ Some (Some h.game) = ap (slice_get games) (sym e) ∙ h.in_use in
      let both : Some None ≡ Some (Some h.game) = sym free ∙ taken in cc) ∙ h.in_use;
  serial = h.serial;
  seat = h.seat;
  sits = h.sits;
  theirs = h.theirs;
}

rows_by_test : (P : Place → Type 0) (b : Bool) (places : PlaceList) (place : Place) → P place → All P places.rows
    → All P (unless (cond b (Some SimulFull) None) places (record places { rows = places.rows ++ place ∷ [] })).rows
rows_by_test P true places place new h = h
rows_by_test P false places place new h = All-push P places.rows place h new

HasSeats-in_seat : (games : List (Option ListedGame)) (desk serial : ℕ) (terms : Terms) (seats : Seats)
    (member : Member) (number : Option ℕ)
    → IsDesk desk → slice_get games (desk - 1) ≡ Some (Some (record { serial = serial; terms = terms; seats = seats }))
    → seat_number member.session (seat_list seats) ≡ number → HasSeats games member
    → HasSeats games (in_seat desk serial number member)
HasSeats-in_seat games desk serial terms seats member None is_desk in_use e h = h
HasSeats-in_seat games desk serial terms seats member (Some number) is_desk in_use e h =
    let sits = Sits-seat_number member.session seats number e in
    rows_by_test (IsSeatOf games member.session) (are_places_full member.places) member.places (record {
      desk = desk;
      serial = serial;
      seat = number;
    })
    (record {
      desk = is_desk;
      game = record { serial = serial; terms = terms; seats = seats };
      in_use = in_use;
      serial = refl;
      seat = sits.seat;
      sits = sits.sits;
      theirs = sits.theirs;
    }) h

IsStarted-later : (started : ℕ) (game : Option ListedGame) → IsStarted started game → IsStarted (started + 1) game
IsStarted-later started None h = tt
IsStarted-later started (Some game) h =
    let before = h.given_out in
    record { positive = h.positive; given_out = omega (arith, before); terms = h.terms; boards = h.boards }

-- as many boards as the variant wants
boards_by : (variant : Variant) (seats : Seats) → FitsVariant variant seats
    → is_some seats.second ≡ needs_partners variant
boards_by Bughouse seats h = h
boards_by Chess seats h = h
boards_by Crazyhouse seats h = h
boards_by (Fischer n) seats h = h

in_seat_name : (desk serial : ℕ) (number : Option ℕ) (m : Member) → (in_seat desk serial number m).name ≡ m.name
in_seat_name desk serial None m = refl
in_seat_name desk serial (Some number) m = refl

-- a game starts at a free desk, with this shelf
pub formed_at : (lobby : LobbyState) (shelf : ShelfState) (desk serial : ℕ) (terms : Terms) (seats : Seats)
    → IsDesk desk
    → slice_get lobby.games (desk - 1) ≡ Some None → serial ≡ lobby.started + 1 → AreTerms terms
    → FitsVariant terms.variant seats
    → IsShelfOf (sessions_in lobby.members) shelf
    → AreCounted lobby.accounts (set lobby.games (desk - 1) (Some (record {
      serial = serial;
      terms = terms;
      seats = seats;
    }))) serial shelf
    → IsWellFormed lobby → IsWellFormed (lobby_seated (record lobby { shelf = shelf }) desk serial terms seats)
formed_at lobby shelf desk serial terms seats is_desk is_free is_next are_terms fits stored counted h =
    let game : ListedGame = record { serial = serial; terms = terms; seats = seats } in
    let games = set lobby.games (desk - 1) (Some game) in
    let sit : Member → Member = λ m. in_seat desk serial (seat_number m.session (seat_list seats)) m in
    let inside : desk - 1 < length lobby.games = slice_get_within lobby.games (desk - 1) None is_free in
    let in_use = get-set_same lobby.games (desk - 1) (Some game) inside in
    let rising : All (IsStarted serial) lobby.games =
    subst (λ (n : ℕ). All (IsStarted n) lobby.games) (sym is_next)
    (All-weaker (IsStarted lobby.started) (IsStarted (lobby.started + 1)) (IsStarted-later lobby.started) lobby.games
    h.serials) in
    let new : IsStarted serial (Some game) = record {
      positive = omega (arith, is_next);
      given_out = omega arith;
      terms = are_terms;
      boards = boards_by terms.variant seats fits;
    } in
    let others : LobbyState = record lobby {
      members = map sit lobby.members;
      challenges = filter (λ c. not (is_settled lobby.members seats c)) lobby.challenges;
      games = games;
      started = serial;
      shelf = shelf;
    } in
    let left : LobbyState = record others { seeks = filter (λ seek. not (is_seek_of_seated seats seek)) lobby.seeks } in
    resumes_gone left (λ request. not (asks_seated seats request))
    (seeks_gone others (λ seek. not (is_seek_of_seated seats seek))
    (kept lobby (map sit lobby.members) (filter (λ c. not (is_settled lobby.members seats c)) lobby.challenges) games
    serial shelf
    (map-map_same (λ m. m.session) sit (λ m. in_seat_session desk serial (seat_number m.session (seat_list seats)) m)
    lobby.members)
    (map-map_same (λ m. key_of m.name) sit
    (λ m. ap key_of (in_seat_name desk serial (seat_number m.session (seat_list seats)) m)) lobby.members)
    (AreChallengesOf-filter (sessions_in lobby.members) (λ c. not (is_settled lobby.members seats c)) lobby.challenges
    h.challenges)
    (length-set lobby.games (desk - 1) (Some game) ∙ h.games)
    (All-set (IsStarted serial) lobby.games (desk - 1) (Some game) new rising)
    (All-map_each (HasSeats lobby.games) (HasSeats games) sit
    (λ m has.
    HasSeats-in_seat games desk serial terms seats m (seat_number m.session (seat_list seats)) is_desk in_use refl
    (All-weaker (IsSeatOf lobby.games m.session) (IsSeatOf games m.session)
    (λ p. IsSeatOf-started lobby.games (desk - 1) (Some game) m.session p is_free) m.places.rows has))
    lobby.members h.places) stored counted h))

formed_seated : (lobby : LobbyState) (desk serial : ℕ) (terms : Terms) (seats : Seats)
    → CanStart lobby desk serial terms seats
    → IsWellFormed lobby → IsWellFormed (lobby_seated lobby desk serial terms seats)
formed_seated lobby desk serial terms seats can h =
    let more =
    desks_used-taken lobby.games (desk - 1) (record { serial = serial; terms = terms; seats = seats }) can.is_free in
    let room = can.room in
    let few = can.few in
    let next = can.is_next in
    let orders = h.counted.orders in
    formed_at lobby lobby.shelf desk serial terms seats can.is_desk can.is_free can.is_next can.are_terms can.boards
    h.shelf
    (record {
      few = omega (arith, few, next);
      room = omega (arith, more, room);
      orders = omega (arith, more, next, orders);
    }) h

pub own_started : (lobby : LobbyState) (desk number : ℕ) (game : ListedGame) (before : Option ListedGame)
    → desk ≡ number → slice_get lobby.games (number - 1) ≡ Some before
    → slice_get (set lobby.games (desk - 1) (Some game)) (number - 1) ≡ Some (Some game)
own_started lobby desk number game before same there =
    subst (λ (n : ℕ). slice_get (set lobby.games (n - 1) (Some game)) (number - 1) ≡ Some (Some game)) (sym same)
    (get-set_same lobby.games (number - 1) (Some game) (slice_get_within lobby.games (number - 1) before there))

pub keeps_started : (lobby : LobbyState) (desk serial : ℕ) (terms : Terms) (seats : Seats)
    → CanStart lobby desk serial terms seats
    → KeepsPlan lobby (Start desk serial terms seats)
keeps_started lobby desk serial terms seats can = record {
  is_desk = can.is_desk;
  formed = λ _ _ _ h. formed_seated lobby desk serial terms seats can h;
  own = λ _ _ number before e there.
      own_started lobby desk number (record {
        serial = serial;
        terms = terms;
        seats = seats;
      }) before (same_Some desk number e) there;
  others = λ _ _ number low other.
      let d = can.is_desk in
      get-set_other lobby.games (desk - 1) (number - 1) (Some (record {
        serial = serial;
        terms = terms;
        seats = seats;
      }))
      (λ e. other (ap Some (omega (arith, d))));
}
