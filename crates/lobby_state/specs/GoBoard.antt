-- GoBoard: a giver goes to its place against a player. This server's own.
use Rattle.std.specs.Prelude.{◌≡◌, ℕ, ◌+◌, ◌-◌, ◌%◌, ◌==◌, Bool, true, false, cond, List, [], ◌∷◌, All, map, take, Option, None, Some, is_none, refl, slice_get}
use Rattle.std.specs.List.{position}
use Rattle.fics_words.specs.Effect.{Effect}
use Rattle.fics_words.specs.Seats.{plays_as, seat_list}
use Rattle.fics_words.specs.declared.player.Player.{Player}
use Rattle.fics_words.specs.declared.refusal.Refusal.TheVariants.{NoSuchPlayer, NotGiving, NotPlaying}
use Rattle.fics_words.specs.declared.seats.Seats.{Seats}
use Rattle.lobby_state.specs.declared.acts.LobbyReply.{LobbyReply}
use Rattle.lobby_state.specs.declared.game.ListedGame.{ListedGame}
use Rattle.lobby_state.specs.declared.member.Member.{Member}
use Rattle.lobby_state.specs.Holds.{holds}
use Rattle.lobby_state.specs.Find.{present_of}
use Rattle.lobby_state.specs.Lobby.{LobbyState, game_at, member_of, named, places_of}
use Rattle.lobby_state.specs.OwnPlaces.{changing}
use Rattle.lobby_state.specs.Places.{PlaceList, gives_nowhere, present_at}
use Rattle.simul_control.specs.declared.place.Place.{Place}

-- the other seat of the same board
abbrev pub other_seat : ℕ → ℕ
other_seat seat = cond (seat % 2 == 0) (seat + 1) (seat - 1)

-- White and Black of the first board have seats 0 and 1, those of the second 2 and 3
example_boards : map other_seat (0 ∷ 1 ∷ 2 ∷ 3 ∷ []) ≡ 1 ∷ 0 ∷ 3 ∷ 2 ∷ []
example_boards = refl

-- the opponent of a seat, which is the player in the other seat of the same board
abbrev pub opponent_seated : ℕ → Seats → Option Player
opponent_seated seat seats = slice_get (seat_list seats) (other_seat seat)

-- the player of this session is the seat's opponent in the game, if there is a game
abbrev pub plays_against : ℕ → ℕ → Option ListedGame → Bool
plays_against session seat None = false
plays_against session seat (Some game) = holds (plays_as session) (opponent_seated seat game.seats)

-- the place is against the player of this session
abbrev pub is_against : LobbyState → ℕ → Place → Bool
is_against lobby session place = plays_against session place.seat (game_at lobby place.desk)

-- the number, from 0, of the first of the places that is against the player, if one is
abbrev pub first_against : LobbyState → Option Member → List Place → Option ℕ
first_against lobby None rows = None
first_against lobby (Some other) rows = position (is_against lobby other.session) rows

-- the places where that of this number is the present one, if there is a number
abbrev pub gone_to : Option ℕ → PlaceList → PlaceList
gone_to None places = places
gone_to (Some at) places = present_at at places

-- going to the place against a player: refused where there is no such player; where there is no board of a simul; and
-- where no place is against it
abbrev pub going_against : LobbyState → Option Member → PlaceList → Effect PlaceList (Unit {0})
going_against lobby other places =
    let found = first_against lobby other places.rows in
    record {
      causes =
          (is_none other, NoSuchPlayer) ∷
          (gives_nowhere places, NotGiving) ∷
          (is_none found, NotPlaying) ∷ [];
      memory = false;
      reply = tt;
      after = gone_to found places;
    }

-- a GoBoard is refused where the session isn't a member; where nobody has the handle, or that member is going; where
-- the session gives no simul, or has no place; and where it has no place against that player
abbrev pub go_board_effect : LobbyState → ℕ → List ℕ → Effect LobbyState LobbyReply
go_board_effect lobby session name =
    changing lobby session (going_against lobby (named lobby name) (places_of lobby session))

-- going to a player, in the lobbies before and after: the session's present place is the first of its places whose
-- opponent is the player of that handle, and it has the places that it had
pub record MeetsPlayer (before after : LobbyState) (session : ℕ) (name : List ℕ) : Type 0 where
  pub other : Member
  pub is_named : named before name ≡ Some other
  pub place : Place
  pub is_present : present_of (member_of after session) ≡ Some place
  pub meets : is_against after other.session place ≡ true
  pub earlier : All (λ row. is_against after other.session row ≡ false)
      (take (places_of after session).at (places_of after session).rows)
  pub same : (places_of after session).rows ≡ (places_of before session).rows
