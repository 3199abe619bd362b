-- The numbers of boards, and half-moves on the other one of a pair, as the rules count them.
use Rattle.std.proofs.Common.{◌≡◌, ℕ, ◌≤◌, List, [], ◌∷◌, ◌++◌, ap, ◌∙◌, refl, arith}
use Rattle.std.proofs.lemmas.List.{map-append}
use Rattle.chess_model.specs.declared.moves.Move.{Move}
use Rattle.chess_model.specs.Holdings.{other_board}
use Rattle.fics_words.specs.Boards.{board_number, other_number}
use Rattle.fics_words.specs.declared.board_number.BoardNumber.{BoardNumber}
use Rattle.fics_words.specs.declared.board_number.BoardNumber.TheVariants.{First, Second}
use Rattle.game_board.specs.declared.played.Made.{Made}
use Rattle.game_board.specs.Board.{made}

-- they are 1 and 2
pub is_first : (board : BoardNumber) → 1 ≤ board_number board
is_first First = omega arith
is_first Second = omega arith

pub is_second : (board : BoardNumber) → board_number board ≤ 2
is_second First = omega arith
is_second Second = omega arith

-- the other board of a pair, by its number
other_numbered : (board : BoardNumber) → board_number (other_number board) ≡ other_board (board_number board)
other_numbered First = refl
other_numbered Second = refl

-- half-moves with one more, on the other board
pub made-other : (all : List Made) (board other : BoardNumber) (m : Move) → other ≡ other_number board
    → made (all ++ record { board = other; what = m } ∷ [])
    ≡ made all ++ record { board = other_board (board_number board); what = m } ∷ []
made-other all board other m is =
    map-append (λ (h : Made). record { board = board_number h.board; what = h.what }) all
    (record { board = other; what = m } ∷ [])
    ∙ ap (λ (k : ℕ). made all ++ record { board = k; what = m } ∷ []) (ap board_number is ∙ other_numbered board)
