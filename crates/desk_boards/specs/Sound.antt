-- What holds of the boards of a game in every state.
use Rattle.std.specs.Prelude.{◌≡◌, ◌≤◌, All, List, [], ◌∷◌, map}
use Rattle.std.specs.List.{AllByRecursion}
use Rattle.chess_model.specs.declared.variant.Terms.{Terms}
use Rattle.game_board.specs.Board.{Board, position_of}
use Rattle.chess_model.specs.Limits.{most_halves}
use Rattle.game_board.specs.Scoresheet.{IsTrueScore}
use Rattle.game_records.specs.Bounds.{IsHalf}
use Rattle.game_records.specs.Replays.{CanBePlayed, GoesOn}
use Rattle.desk_boards.specs.Boards.{board_numbers}
use Rattle.desk_boards.specs.Halves.{halves_of}

-- all items are the same
abbrev pub AreSame : {T : Type 0} → List T → Type 0
AreSame [] = Unit {0}
AreSame (x ∷ xs) = All (λ y. y ≡ x) xs

-- no board is at an end: nobody who is to move is mated or stalemated
abbrev pub GoOn : List Board → Type 0
GoOn boards = All (λ b. GoesOn (position_of b)) boards

-- the boards of a game on these terms
pub record AreSoundBoards (t : Terms) (boards : List Board) : Type 0 where
  -- there are as many as the variant wants, with their numbers
  pub numbers : map (λ (b : Board). b.number) boards ≡ board_numbers t.variant
  -- each is played by these terms, its list is a true score, and it has no more half-moves than may be played on it
  pub terms : All (λ (b : Board). b.terms ≡ t) boards
  pub scores : All IsTrueScore boards
  pub few : All (λ (b : Board). b.played ≤ most_halves) boards
  -- those of a pair have one list of the half-moves of both, by which men come from one board to the other
  pub together : AreSame (map (λ (b : Board). b.all) boards)
  -- a record can have each half-move with its charge, and they can be played again: each was allowed, none came after
  -- the end of a board, and charges stand where they belong
  pub halves : AllByRecursion (IsHalf t.variant) (halves_of boards)
  pub played : CanBePlayed t (halves_of boards)
