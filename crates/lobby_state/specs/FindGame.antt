-- FindGame: a member asks where the game of a number is played. This server's own.
use Rattle.std.specs.Prelude.{◌≡◌, ℕ, ◌+◌, ◌/◌, ◌%◌, ◌==◌, Bool, false, ◌&&◌, ◌||◌, cond, nat_le, [], ◌∷◌, map, Option, None, Some, is_none, refl}
use Rattle.chess_model.specs.declared.variant.Variant.{Variant}
use Rattle.fics_words.specs.Effect.{Effect}
use Rattle.fics_words.specs.declared.refusal.Refusal.TheVariants.{NotIn, NoSuchGame}
use Rattle.lobby_state.specs.declared.acts.LobbyReply.{LobbyReply}
use Rattle.lobby_state.specs.declared.game.ListedGame.{ListedGame}
use Rattle.simul_control.specs.declared.place.Place.{Place}
use Rattle.lobby_state.specs.Desks.{desks}
use Rattle.lobby_state.specs.Find.{found}
use Rattle.lobby_state.specs.Lobby.{LobbyState, game_at, member_of}
use Rattle.lobby_state.specs.Pairing.{needs_partners}

-- the desk of the game of this number: the boards of desk d have the numbers 2 d - 1 and 2 d
abbrev pub desk_of_game : ℕ → ℕ
desk_of_game number = (number + 1) / 2

-- the number is one of a desk of the hall
abbrev pub is_in_hall : ℕ → Bool
is_in_hall desk = nat_le 1 desk && nat_le desk desks

-- and the desk of the game of this number, if it is one
abbrev pub hall_desk : ℕ → Option ℕ
hall_desk number = cond (is_in_hall (desk_of_game number)) (Some (desk_of_game number)) None

-- a board of a game has this number: an odd one is the first board's
abbrev pub has_board : ℕ → Variant → Bool
has_board number variant = (number % 2 == 1) || needs_partners variant

-- the first seat of a game of this serial at the desk, where a board of it has this number
abbrev pub board_seat : ℕ → ℕ → ℕ → Variant → Option Place
board_seat number desk serial variant =
    cond (has_board number variant) (Some (record { desk = desk; serial = serial; seat = 0 })) None

-- the first seat of the game for which the desk is in use, where a board of it has this number
abbrev pub seat_at : ℕ → ℕ → Option ListedGame → Option Place
seat_at number desk None = None
seat_at number desk (Some game) = board_seat number desk game.serial game.terms.variant

abbrev pub first_at : LobbyState → ℕ → Option ℕ → Option Place
first_at lobby number None = None
first_at lobby number (Some desk) = seat_at number desk (game_at lobby desk)

-- the first seat of the game of this number, if a desk is in use for one
abbrev pub first_seat : LobbyState → ℕ → Option Place
first_seat lobby number = first_at lobby number (hall_desk number)

-- a FindGame is refused where the session isn't a member, and where no desk is in use for a game of this number
abbrev pub find_game_effect : LobbyState → ℕ → ℕ → Effect LobbyState LobbyReply
find_game_effect lobby session number = record {
  causes = (is_none (member_of lobby session), NotIn) ∷ (is_none (first_seat lobby number), NoSuchGame) ∷ [];
  memory = false;
  reply = found (first_seat lobby number);
  after = lobby;
}

-- the games of the first and the last two desks, and numbers without a desk
example_desks : map desk_of_game (0 ∷ 1 ∷ 2 ∷ 3 ∷ 254 ∷ 255 ∷ 256 ∷ 257 ∷ [])
    ≡ 0 ∷ 1 ∷ 1 ∷ 2 ∷ 127 ∷ 128 ∷ 128 ∷ 129 ∷ []
example_desks = refl
