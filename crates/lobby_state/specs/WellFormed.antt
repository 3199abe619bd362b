-- What holds of a lobby at all times, from its opening on. This server's own.
use Rattle.std.specs.Prelude.{◌≡◌, ◌≢◌, ℕ, ◌+◌, ◌-◌, ◌*◌, ◌≤◌, false, List, length, map, count_by, All, Contains, Option, None, Some, is_some, slice_get}
use Rattle.std.specs.List.{AllPairs}
use Rattle.fics_words.specs.Handle.{key_of}
use Rattle.fics_words.specs.declared.account.Account.{Account}
use Rattle.fics_words.specs.declared.player.Player.{Player}
use Rattle.fics_words.specs.Seats.{seat_list}
use Rattle.lobby_shelf.specs.Facts.{IsShelf}
use Rattle.lobby_shelf.specs.Shelf.{ShelfState, most_stored}
use Rattle.login_handles.specs.Accounts.{AreAccounts}
use Rattle.lobby_state.specs.declared.game.ListedGame.{ListedGame}
use Rattle.lobby_state.specs.declared.member.Member.{Member}
use Rattle.simul_control.specs.declared.place.Place.{Place}
use Rattle.lobby_state.specs.Desks.{IsDesk, desks}
use Rattle.lobby_state.specs.Lobby.{LobbyState, most_games, most_members}
use Rattle.lobby_state.specs.Pairing.{needs_partners}
use Rattle.lobby_state.specs.ShelfRoom.{desks_used}
use Rattle.lobby_state.specs.Terms.{AreTerms}
use Rattle.partner_link.specs.declared.pairs.PartnerLink.{PartnerLink}
use Rattle.partner_link.specs.declared.pairs.PartnerRequest.{PartnerRequest}
use Rattle.partner_link.specs.Partners.{AreLinks, PartnerLists}
use Rattle.seek_match.specs.declared.challenge.Challenge.{Challenge}
use Rattle.seek_match.specs.declared.seek.Seek.{Seek}
use Rattle.seek_match.specs.Matches.{AreChallenges}
use Rattle.seek_match.specs.Seeks.{AreSeeks, is_by, most_seeks}

-- the sessions of the members
abbrev pub sessions_in : List Member → List ℕ
sessions_in members = map (λ member. member.session) members

-- the challenge is by one member to another, and to a game that there can be
pub record IsBetweenMembers (sessions : List ℕ) (challenge : Challenge) : Type 0 where
  pub from : Contains sessions challenge.from
  pub to : Contains sessions challenge.to
  pub differ : challenge.from ≢ challenge.to
  pub terms : AreTerms challenge.terms

-- nobody has two challenges to one player, and each is by one member to another
pub record AreChallengesOf (sessions : List ℕ) (challenges : List Challenge) : Type 0 where
  pub pairs : AreChallenges challenges
  pub members : All (IsBetweenMembers sessions) challenges

-- the seek is by a member, and of a game that there can be and that two can play
pub record IsByMember (sessions : List ℕ) (seek : Seek) : Type 0 where
  pub by : Contains sessions seek.by
  pub for_two : needs_partners seek.terms.variant ≡ false
  pub terms : AreTerms seek.terms

-- the seeks stand in the order of their numbers, which differ; each is by a member; and nobody has more than three
pub record AreSeeksOf (sessions : List ℕ) (seeks : List Seek) : Type 0 where
  pub numbers : AreSeeks seeks
  pub members : All (IsByMember sessions) seeks
  pub few : (session : ℕ) → count_by (is_by session None) seeks ≤ most_seeks

-- the request is by a member to a member
pub record IsAskedByMember (sessions : List ℕ) (request : PartnerRequest) : Type 0 where
  pub from : Contains sessions request.from
  pub to : Contains sessions request.to

-- the two who are partners are members
pub record IsLinkOfMembers (sessions : List ℕ) (link : PartnerLink) : Type 0 where
  pub first : Contains sessions link.first
  pub second : Contains sessions link.second

-- each request and each link is of members alone; nobody is linked to itself, and nobody is in two links
pub record ArePartnersOf (sessions : List ℕ) (partners : PartnerLists) : Type 0 where
  pub requests : All (IsAskedByMember sessions) partners.requests
  pub links : All (IsLinkOfMembers sessions) partners.links
  pub apart : AreLinks partners.links

-- the shelf is sound, and each request to resume is by a member
pub record IsShelfOf (sessions : List ℕ) (shelf : ShelfState) : Type 0 where
  pub sound : IsShelf shelf
  pub members : All (λ request. Contains sessions request.by) shelf.requests

-- at most 2^62 games were started; stored games and desks in use are at most 10,000 together, so that each game that
-- runs has its place on the shelf; and a save order was made for an account at most once, and for a game at most as it
-- was resumed and as it was adjourned, so that the numbers of orders stay below 2^64
pub record AreCounted (accounts : List Account) (games : List (Option ListedGame)) (started : ℕ)
    (shelf : ShelfState) : Type 0 where
  pub few : started ≤ most_games
  pub room : length shelf.games + desks_used games ≤ most_stored
  pub orders : shelf.made + desks_used games ≤ 2 * started + length accounts

-- the place is a seat of this session's, at a desk in use under that serial
pub record IsSeatOf (games : List (Option ListedGame)) (session : ℕ) (place : Place) : Type 0 where
  pub desk : IsDesk place.desk
  pub game : ListedGame
  pub in_use : slice_get games (place.desk - 1) ≡ Some (Some game)
  pub serial : game.serial ≡ place.serial
  pub seat : Player
  pub sits : slice_get (seat_list game.seats) place.seat ≡ Some seat
  pub theirs : seat.session ≡ session

-- each place of the member is such a seat
abbrev pub HasSeats : List (Option ListedGame) → Member → Type 0
HasSeats games member = All (IsSeatOf games member.session) member.places.rows

-- the game has one of the serials that were given out, terms that a game can have, and a second board exactly where its
-- variant is played by partners
pub record IsStartedGame (started : ℕ) (game : ListedGame) : Type 0 where
  pub positive : 1 ≤ game.serial
  pub given_out : game.serial ≤ started
  pub terms : AreTerms game.terms
  pub boards : is_some game.seats.second ≡ needs_partners game.terms.variant

-- the desk is free, or in use for such a game
abbrev pub IsStarted : ℕ → Option ListedGame → Type 0
IsStarted started None = Unit {0}
IsStarted started (Some game) = IsStartedGame started game

-- each handle has at most one account, and there are at most 4,096; there are at most 256 members, of whom no two have
-- one session, and no two one handle; each challenge is by one member to another, and nobody has two to one player; the
-- seeks are by members; the requests and links of partners are of members, and nobody has two partners; there are 128
-- desks, and each game has a serial that was given out, and two boards exactly in bughouse; each place of a member is a
-- seat of its own in such a game; the terms of challenges, seeks and games are within their bounds; the shelf is sound,
-- with requests by members; and games, orders and places on the shelf are as many as they can be
pub record IsWellFormed (lobby : LobbyState) : Type 0 where
  pub accounts : AreAccounts lobby.accounts
  pub hall : length lobby.members ≤ most_members
  pub sessions : AllPairs (λ one another. one.session ≢ another.session) lobby.members
  pub handles : AllPairs (λ one another. key_of one.name ≢ key_of another.name) lobby.members
  pub challenges : AreChallengesOf (sessions_in lobby.members) lobby.challenges
  pub seeks : AreSeeksOf (sessions_in lobby.members) lobby.seeks
  pub partners : ArePartnersOf (sessions_in lobby.members) lobby.partners
  pub games : length lobby.games ≡ desks
  pub serials : All (IsStarted lobby.started) lobby.games
  pub places : All (HasSeats lobby.games) lobby.members
  pub shelf : IsShelfOf (sessions_in lobby.members) lobby.shelf
  pub counted : AreCounted lobby.accounts lobby.games lobby.started lobby.shelf
