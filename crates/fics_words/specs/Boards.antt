-- The boards of a game, by number: one, or two in bughouse.
use Rattle.std.specs.Prelude.{◌≡◌, ℕ, zero, suc, [], ◌∷◌, map, Option, Some, None, refl}
use Rattle.fics_words.specs.declared.board_number.BoardNumber.{BoardNumber}
use Rattle.fics_words.specs.declared.board_number.BoardNumber.TheVariants.{First, Second}

-- where a board stands in the list of a game's boards
abbrev pub board_place : BoardNumber → ℕ
board_place First = 0
board_place Second = 1

-- its number, in the rules and in records
abbrev pub board_number : BoardNumber → ℕ
board_number board = suc (board_place board)

-- the board that has a number, if one has it
abbrev pub numbered_board : ℕ → Option BoardNumber
numbered_board (suc zero) = Some First
numbered_board (suc (suc zero)) = Some Second
numbered_board _ = None

-- the other board of a pair
abbrev pub other_number : BoardNumber → BoardNumber
other_number First = Second
other_number Second = First

example_numbers : map numbered_board (0 ∷ 1 ∷ 2 ∷ 3 ∷ []) ≡ None ∷ Some First ∷ Some Second ∷ None ∷ []
example_numbers = refl
