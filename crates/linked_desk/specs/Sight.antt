-- Who sees which board, and how: style 12's 'my relation to this game', and whether Black is at the bottom (FICS help
-- page `style12`). That a player sees the partner's board as an observer does is this server's profile.
use Rattle.std.specs.Prelude.{◌≡◌, ℕ, ◌%◌, ◌==◌, Bool, true, false, ℤ, pos, negsuc, if◌then◌else◌, [], ◌∷◌, Option, Some, None, refl}
use Rattle.chess_model.specs.declared.man.Colour.{Colour}
use Rattle.chess_model.specs.declared.man.Colour.TheVariants.{White, Black}
use Rattle.chess_model.specs.Holdings.{same_colour}
use Rattle.style12_writer.specs.declared.view.Viewer.{Viewer}
use Rattle.fics_words.specs.Boards.{board_number}
use Rattle.fics_words.specs.declared.board_number.BoardNumber.{BoardNumber}
use Rattle.fics_words.specs.declared.board_number.BoardNumber.TheVariants.{First, Second}
use Rattle.linked_desk.specs.Seats.{board_of, colour_at}

-- 1 where I play and it is my move, -1 where I play and it is the opponent's
abbrev pub relation_of : Bool → ℤ
relation_of true = pos 1
relation_of false = negsuc 0

-- how a player of this colour looks at the own board: Black has its own men at the bottom
abbrev pub playing : Colour → Colour → Viewer
playing own to_move = record { relation = relation_of (same_colour own to_move); flip = same_colour own Black }

-- how somebody looks on who doesn't play at the board
abbrev pub observing : Viewer
observing = record { relation = pos 0; flip = false }

-- how a viewer looks at a board where that colour is to move: a player by its seat, an observer by none
abbrev pub sight : Option ℕ → BoardNumber → Colour → Viewer
sight None board to_move = observing
sight (Some seat) board to_move =
    if board_number (board_of seat) == board_number board then playing (colour_at seat) to_move else observing

-- which board it is, by the number under which it is shown: the boards of desk d are games 2 d - 1 and 2 d
abbrev pub board_shown_as : ℕ → BoardNumber
board_shown_as game = if game % 2 == 0 then Second else First

-- the four players and an observer at the second board, where White is to move
example_second : sight (Some 0) Second White ∷ sight (Some 1) Second White ∷ sight (Some 2) Second White
    ∷ sight (Some 3) Second White ∷ sight None Second White ∷ []
    ≡ observing ∷ observing ∷ record { relation = pos 1; flip = false } ∷ record { relation = negsuc 0; flip = true }
    ∷ observing ∷ []
example_second = refl
