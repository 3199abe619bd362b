-- A lobby: who is registered and who is in the hall, which challenges and seeks stand, who asks whom to be its partner
-- and who are partners, and which desks are in use. This server's own.
use Rattle.std.specs.Prelude.{ℕ, ◌-◌, ◌^◌, ◌==◌, Bool, not, ◌&&◌, List, [], length, replicate, Option, None, Some, is_none, is_some, bytes_eq, slice_get}
use Rattle.std.specs.List.{find, position}
use Rattle.channel_feed.specs.declared.channels.Membership.{Membership}
use Rattle.channel_feed.specs.Channels.{without_player}
use Rattle.fics_words.specs.Handle.{key_of}
use Rattle.fics_words.specs.declared.account.Account.{Account}
use Rattle.lobby_shelf.specs.Shelf.{ShelfState, empty, without_requests}
use Rattle.login_handles.specs.Accounts.{account_of}
use Rattle.partner_link.specs.Partners.{PartnerLists, partner_of, without_naming}
use Rattle.seek_match.specs.declared.seek.Seek.{Seek}
use Rattle.seek_match.specs.Matches.{without_challenges_of}
use Rattle.seek_match.specs.Seeks.{without_seeks_of}
use Rattle.seek_match.specs.declared.challenge.Challenge.{Challenge}
use Rattle.lobby_state.specs.declared.game.ListedGame.{ListedGame}
use Rattle.lobby_state.specs.declared.member.Member.{Member}
use Rattle.lobby_state.specs.Desks.{desks}
use Rattle.lobby_state.specs.Places.{PlaceList, no_places}

-- the accounts in the order in which they were made; the members in the order in which they entered; the challenges in
-- the order in which they were made; the seeks in the order of their numbers; who is in which channel, in the order of
-- joining; the requests and links of partners; the shelf with the adjourned games, the save orders and the requests to
-- resume; for each desk from 1 on the game for which it is in use; and how many games were started, which is the last
-- serial
pub record LobbyState : Type 0 where
  pub accounts : List Account
  pub members : List Member
  pub challenges : List Challenge
  pub seeks : List Seek
  pub channels : List Membership
  pub partners : PartnerLists
  pub shelf : ShelfState
  pub games : List (Option ListedGame)
  pub started : ℕ

-- the most members that the hall holds
abbrev pub most_members : ℕ
most_members = 256

-- the most accounts
abbrev pub most_accounts : ℕ
most_accounts = 4096

-- the most games that are ever started, which keeps serials below 2^64
abbrev pub most_games : ℕ
most_games = 2 ^ 62

-- a lobby at its opening: nobody is registered or there, and each desk is free
abbrev pub opening : LobbyState
opening = record {
  accounts = [];
  members = [];
  challenges = [];
  seeks = [];
  channels = [];
  partners = record { requests = []; links = [] };
  shelf = empty;
  games = replicate desks None;
  started = 0;
}

-- the member is the one of this session
abbrev pub is_session : ℕ → Member → Bool
is_session session member = member.session == session

-- the member has the handle with this key
abbrev pub has_handle : List ℕ → Member → Bool
has_handle key member = bytes_eq (key_of member.name) key

-- the member goes by the handle with this key, and can be named, since it isn't going
abbrev pub is_named : List ℕ → Member → Bool
is_named key member = has_handle key member && not member.going

-- the handle has an account among these
abbrev pub has_account : List Account → List ℕ → Bool
has_account accounts name = is_some (account_of accounts (key_of name))

-- the member is registered: its handle has an account
abbrev pub is_registered : List Account → Member → Bool
is_registered accounts member = has_account accounts member.name

-- the member has a place
abbrev pub has_place : Member → Bool
has_place member = not (length member.places.rows == 0)

-- the member gives a simul
abbrev pub gives : Member → Bool
gives member = member.places.giving

-- the member is busy: it has a place and gives no simul, so that it can begin no game
abbrev pub is_busy : Member → Bool
is_busy member = has_place member && not (gives member)

-- the member of the session, if it has entered
abbrev pub member_of : LobbyState → ℕ → Option Member
member_of lobby session = find (is_session session) lobby.members

-- the member that the handle names, if there is one
abbrev pub named : LobbyState → List ℕ → Option Member
named lobby key = find (is_named key) lobby.members

-- the member that has the handle with this key, going or not
abbrev pub holder_of : LobbyState → List ℕ → Option Member
holder_of lobby key = find (has_handle key) lobby.members

-- the places of a member, and none of nobody
abbrev pub places_in : Option Member → PlaceList
places_in None = no_places
places_in (Some member) = member.places

-- the lines that wait for a member, and none for nobody
abbrev pub lines_in : Option Member → List (List ℕ)
lines_in None = []
lines_in (Some member) = member.waiting

-- the places of the session: none where it isn't a member
abbrev pub places_of : LobbyState → ℕ → PlaceList
places_of lobby session = places_in (member_of lobby session)

-- the lines that wait for the session: none where it isn't a member
abbrev pub waiting_of : LobbyState → ℕ → List (List ℕ)
waiting_of lobby session = lines_in (member_of lobby session)

-- where the least free desk stands in the list of desks; its number is one more
abbrev pub free_slot : LobbyState → Option ℕ
free_slot lobby = position is_none lobby.games

-- what a slot that is there holds
abbrev pub listed_game_in : Option (Option ListedGame) → Option ListedGame
listed_game_in None = None
listed_game_in (Some game) = game

-- the game for which the desk is in use, if it is
abbrev pub game_at : LobbyState → ℕ → Option ListedGame
game_at lobby desk = listed_game_in (slice_get lobby.games (desk - 1))

-- the lobby without the challenges by this session and to it
abbrev pub without_challenges : ℕ → LobbyState → LobbyState
without_challenges session lobby =
    record lobby { challenges = without_challenges_of session lobby.challenges }

-- the lobby without the seeks by this session
abbrev pub without_seeks : ℕ → LobbyState → LobbyState
without_seeks session lobby = record lobby { seeks = without_seeks_of session lobby.seeks }

-- the lobby where this session is in no channel
abbrev pub without_channels : ℕ → LobbyState → LobbyState
without_channels session lobby = record lobby { channels = without_player session lobby.channels }

-- the session's partner, if it has one
abbrev pub partner_in : LobbyState → ℕ → Option ℕ
partner_in lobby session = partner_of lobby.partners.links session

-- the lobby without the requests and the link that name this session
abbrev pub without_partner : ℕ → LobbyState → LobbyState
without_partner session lobby = record lobby { partners = without_naming lobby.partners session }

-- the lobby without the requests of this session to resume a game
abbrev pub without_resumes : ℕ → LobbyState → LobbyState
without_resumes session lobby = record lobby { shelf = without_requests session lobby.shelf }
