-- What a FindGame tells.
use Rattle.std.proofs.Common.{◌≡◌, ℕ, Bool, true, false, cond, Option, None, Some, IfSome, refl, arith}
use Rattle.lobby_state.specs.declared.game.ListedGame.{ListedGame}
use Rattle.simul_control.specs.declared.place.Place.{Place}
use Rattle.lobby_state.specs.Desks.{IsDesk}
use Rattle.lobby_state.specs.Find.{found}
use Rattle.lobby_state.specs.FindGame.{desk_of_game, first_at, first_seat, hall_desk, has_board, is_in_hall, seat_at}
use Rattle.lobby_state.specs.Keeps.{TellsDesks}
use Rattle.lobby_state.specs.Lobby.{LobbyState, game_at}
use Rattle.lobby_state.proofs.KeepsFind.{found_is}

is_desk : (desk : ℕ) → is_in_hall desk ≡ true → IsDesk desk
is_desk desk h = grind arith

hall_desk_is : (is : Bool) (desk : ℕ) → (is ≡ true → IsDesk desk) → IfSome (cond is (Some desk) None) IsDesk
hall_desk_is true desk h = h refl
hall_desk_is false desk h = tt

board_at_desk : (is : Bool) (desk : ℕ) (game : ListedGame) → IsDesk desk
    → IfSome (cond is (Some (record { desk = desk; serial = game.serial; seat = 0 })) None)
    (λ (p : Place). IsDesk p.desk)
board_at_desk true desk game h = h
board_at_desk false desk game h = tt

seat_at_desk : (number desk : ℕ) (game : Option ListedGame) → IsDesk desk
    → IfSome (seat_at number desk game) (λ p. IsDesk p.desk)
seat_at_desk number desk None h = tt
seat_at_desk number desk (Some game) h = board_at_desk (has_board number game.terms.variant) desk game h

first_at_desk : (lobby : LobbyState) (number : ℕ) (desk : Option ℕ) → IfSome desk IsDesk
    → IfSome (first_at lobby number desk) (λ p. IsDesk p.desk)
first_at_desk lobby number None h = tt
first_at_desk lobby number (Some desk) h = seat_at_desk number desk (game_at lobby desk) h

pub tells_found_game : (lobby : LobbyState) (number : ℕ) → TellsDesks (found (first_seat lobby number))
tells_found_game lobby number =
    found_is (first_seat lobby number)
    (first_at_desk lobby number (hall_desk number)
    (hall_desk_is (is_in_hall (desk_of_game number)) (desk_of_game number) (is_desk (desk_of_game number))))
