-- A game as it is kept until its players resume it.
use Rattle.std.specs.Prelude.{◌≡◌, ℕ, List, map, Option, Some}
use Rattle.std.specs.Option.{option_map}
use Rattle.chess_model.specs.declared.why.Why.TheVariants.{Adjourned}
use Rattle.fics_words.specs.declared.player.Player.{Player}
use Rattle.fics_words.specs.declared.seats.Seats.{Seats}
use Rattle.fics_words.specs.Seats.{seat_list}
use Rattle.game_records.specs.declared.stored_game.StoredGame.{StoredGame}
use Rattle.desk_boards.specs.Halves.{halves_of}
use Rattle.linked_desk.specs.declared.ended.Ended.{Ended}
use Rattle.linked_desk.specs.Desk.{DeskState, GameState, ended_at}
use Rattle.linked_desk.specs.Seating.{uncoloured}

-- the game at a desk was adjourned
abbrev pub IsAdjourned : DeskState → Type 0
IsAdjourned d = option_map (λ (e : Ended). e.why) (ended_at d) ≡ Some Adjourned

-- the players' names in the order of their seats
abbrev pub names_seated : Seats → List (List ℕ)
names_seated seats = map (λ (p : Player). p.name) (seat_list seats)

-- what is kept of a game: its terms, without the colour that somebody asked for, the players' names, and the half-moves
-- of its boards in their order, each with its charge
abbrev pub stored_of : GameState → StoredGame
stored_of g = record { terms = uncoloured g.terms; names = names_seated g.seats; halves = halves_of g.boards }

-- and of the game at a desk, if there is one
abbrev pub shelved_at : DeskState → Option StoredGame
shelved_at d = option_map stored_of d.game
