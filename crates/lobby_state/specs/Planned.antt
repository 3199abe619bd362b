-- What a plan that a lobby gave promises. This server's own.
use Rattle.std.specs.Prelude.{◌≡◌, ◌≢◌, ℕ, ◌+◌, ◌-◌, ◌<◌, All, Contains, IsNone, IsSome, None, Option, Some, map, slice_get, true}
use Rattle.std.specs.List.{AllPairs}
use Rattle.chess_model.specs.declared.variant.Terms.{Terms}
use Rattle.chess_model.specs.declared.variant.Variant.{Variant}
use Rattle.chess_model.specs.declared.variant.Variant.TheVariants.{Bughouse}
use Rattle.fics_words.specs.Handle.{key_of}
use Rattle.fics_words.specs.declared.player.Player.{Player}
use Rattle.fics_words.specs.declared.seats.Opponents.{Opponents}
use Rattle.fics_words.specs.declared.seats.Seats.{Seats}
use Rattle.fics_words.specs.Seats.{seat_list}
use Rattle.game_records.specs.declared.stored_game.StoredGame.{StoredGame}
use Rattle.lobby_shelf.specs.Numbers.{is_used, stored_game}
use Rattle.lobby_shelf.specs.Shelf.{most_stored}
use Rattle.lobby_state.specs.declared.acts.Plan.{Plan}
use Rattle.lobby_state.specs.declared.acts.Plan.TheVariants.{Start, Clear, Resume, Ask}
use Rattle.lobby_state.specs.Desks.{IsDesk}
use Rattle.lobby_state.specs.Lobby.{LobbyState, most_games, partner_in}
use Rattle.lobby_state.specs.ShelfRoom.{places_taken}
use Rattle.lobby_state.specs.Terms.{AreTerms}
use Rattle.lobby_state.specs.WellFormed.{sessions_in}

-- no two of the players are one, by their sessions or by their handles
pub record ArePlayersApart (seats : Seats) : Type 0 where
  pub sessions : AllPairs (λ one another. one.session ≢ another.session) (seat_list seats)
  pub handles : AllPairs (λ one another. key_of one.name ≢ key_of another.name) (seat_list seats)

-- there is a second board exactly where the game is bughouse
abbrev pub FitsVariant : Variant → Seats → Type 0
FitsVariant Bughouse seats = IsSome seats.second
FitsVariant _ seats = IsNone seats.second

-- the player is a member
abbrev pub IsMember : LobbyState → Player → Type 0
IsMember lobby player = Contains (sessions_in lobby.members) player.session

-- the one has the other as its partner
abbrev pub HasPartner : LobbyState → Player → Player → Type 0
HasPartner lobby one another = partner_in lobby one.session ≡ Some another.session

-- where there is a second board, White of the first has Black of the second as its partner, and Black of the first
-- White of the second
abbrev pub SitCrosswise : LobbyState → Opponents → Option Opponents → Type 0
SitCrosswise lobby first None = Unit {0}
SitCrosswise lobby first (Some second) =
    HasPartner lobby first.white second.black × HasPartner lobby first.black second.white

-- a game on these terms can start at this desk under this serial with these players: the desk is free, the serial is
-- the next one, fewer than 2^62 games were started, there is a place on the shelf for the game, the terms are within
-- their bounds, the players are members, as many as the variant has, and apart, and partners have opposite colours
pub record CanStart (lobby : LobbyState) (desk serial : ℕ) (terms : Terms) (seats : Seats) : Type 0 where
  pub is_desk : IsDesk desk
  pub is_free : slice_get lobby.games (desk - 1) ≡ Some None
  pub is_next : serial ≡ lobby.started + 1
  pub few : lobby.started < most_games
  pub room : places_taken lobby < most_stored
  pub are_terms : AreTerms terms
  pub members : All (IsMember lobby) (seat_list seats)
  pub apart : ArePlayersApart seats
  pub boards : FitsVariant terms.variant seats
  pub partners : SitCrosswise lobby seats.first seats.second

-- the game of that number can be resumed at this desk under this serial with these players: it lies on the shelf, its
-- terms are these, and its players have the names of those who play; the desk is free, the serial is the next one,
-- fewer than 2^62 games were started, the terms are within their bounds, and the players are members, as many as the
-- variant has, and apart
pub record CanResume (lobby : LobbyState) (desk serial number : ℕ) (terms : Terms) (seats : Seats) : Type 0 where
  pub game : StoredGame
  pub lies : stored_game lobby.shelf.games number ≡ Some game
  pub its_terms : terms ≡ game.terms
  pub names : map (λ player. player.name) (seat_list seats) ≡ game.names
  pub is_desk : IsDesk desk
  pub is_free : slice_get lobby.games (desk - 1) ≡ Some None
  pub is_next : serial ≡ lobby.started + 1
  pub few : lobby.started < most_games
  pub are_terms : AreTerms terms
  pub members : All (IsMember lobby) (seat_list seats)
  pub apart : ArePlayersApart seats
  pub boards : FitsVariant terms.variant seats

-- the one can ask the other to resume that game: both are members, and it lies on the shelf
pub record CanAsk (lobby : LobbyState) (from to number : ℕ) : Type 0 where
  pub by : Contains (sessions_in lobby.members) from
  pub other : Contains (sessions_in lobby.members) to
  pub lies : is_used lobby.shelf.games number ≡ true

-- the plan can be carried out in this lobby
abbrev pub IsPlanned : LobbyState → Plan → Type 0
IsPlanned lobby (Start desk serial terms seats) = CanStart lobby desk serial terms seats
IsPlanned lobby (Clear session desk serial) = IsDesk desk
IsPlanned lobby (Resume desk serial number terms seats) = CanResume lobby desk serial number terms seats
IsPlanned lobby (Ask from to number) = CanAsk lobby from to number
