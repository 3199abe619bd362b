-- What taking half-moves back does to the boards of a game. At a pair none are taken back.
use Rattle.std.specs.Prelude.{ℕ, Bool, true, List, [], ◌∷◌}
use Rattle.chess_model.specs.declared.variant.Variant.{Variant}
use Rattle.chess_model.specs.declared.variant.Variant.TheVariants.{Chess, Crazyhouse, Bughouse, Fischer}
use Rattle.game_board.specs.Board.{Board}
use Rattle.game_board.specs.TakeBack.{has_too_few, take_back_after}
use Rattle.desk_boards.specs.Boards.{changed_at}

-- whether the first board lacks half-moves to take so many back
abbrev pub lacks_half_moves : List Board → ℕ → Bool
lacks_half_moves [] n = true
lacks_half_moves (b ∷ boards) n = has_too_few b n

-- a board after the last n half-moves were taken back; at a pair none are
abbrev pub back_by : Variant → Board → ℕ → ℕ → Board
back_by Chess b n moment = take_back_after b n moment
back_by Crazyhouse b n moment = take_back_after b n moment
back_by (Fischer number) b n moment = take_back_after b n moment
back_by Bughouse b n moment = b

-- the boards after that
abbrev pub boards_taken_back : List Board → ℕ → ℕ → List Board
boards_taken_back boards n moment = changed_at boards 0 (λ (b : Board). back_by b.terms.variant b n moment)
