-- The seats of a desk: seats 0 and 1 are White and Black of the first board, 2 and 3 those of the second. So the
-- partner of a player has the other colour: the teams are 0 with 3 and 1 with 2 (FICS help page `bughouse`).
use Rattle.std.specs.Prelude.{◌≡◌, ℕ, ◌-◌, ◌/◌, ◌%◌, ◌==◌, if◌then◌else◌, List, [], ◌∷◌, map, refl}
use Rattle.std.specs.Option.{option_to_list}
use Rattle.chess_model.specs.declared.man.Colour.{Colour}
use Rattle.chess_model.specs.declared.man.Colour.TheVariants.{White, Black}
use Rattle.fics_words.specs.declared.seats.Opponents.{Opponents}
use Rattle.fics_words.specs.declared.seats.Seats.{Seats}
use Rattle.fics_words.specs.declared.board_number.BoardNumber.{BoardNumber}
use Rattle.fics_words.specs.declared.board_number.BoardNumber.TheVariants.{First, Second}

-- the board of a seat
abbrev pub board_of : ℕ → BoardNumber
board_of seat = if seat / 2 == 0 then First else Second

-- the colour of a seat
abbrev pub colour_at : ℕ → Colour
colour_at seat = if seat % 2 == 0 then White else Black

-- the seat of the partner
abbrev pub partner_seat : ℕ → ℕ
partner_seat seat = 3 - seat

-- the two players of each board, the first board first
abbrev pub pairs_of : Seats → List Opponents
pairs_of seats = seats.first ∷ option_to_list seats.second

-- each seat has its board and its colour, and partners play with different colours on different boards
example_boards : map board_of (0 ∷ 1 ∷ 2 ∷ 3 ∷ []) ≡ First ∷ First ∷ Second ∷ Second ∷ []
example_boards = refl

example_colours : map colour_at (0 ∷ 1 ∷ 2 ∷ 3 ∷ []) ≡ White ∷ Black ∷ White ∷ Black ∷ []
example_colours = refl

example_partners : map partner_seat (0 ∷ 1 ∷ 2 ∷ 3 ∷ []) ≡ 3 ∷ 2 ∷ 1 ∷ 0 ∷ []
example_partners = refl
