-- A half-move on the other board of a pair, as a board learns of it: the man that it captures there comes into the hand
-- of its own colour here (FICS help page `bughouse`).
use Rattle.std.specs.Prelude.{◌+◌, cond, ◌∷◌, [], ◌++◌, Option, Some, None}
use Rattle.chess_model.specs.declared.man.Man.{Man}
use Rattle.chess_model.specs.declared.moves.Move.{Move}
use Rattle.chess_model.specs.Holdings.{same_kind, handed_kind, count_in, hand_of, other_board}
use Rattle.chess_model.specs.MoveList.{taken}
use Rattle.chess_model.specs.Position.{Position, position_after, hand_of_side}
use Rattle.variant_rules.specs.Faces.{with_hand}
use Rattle.game_board.specs.Board.{Board}

-- the position on the partner's board
abbrev pub partner_position : Board → Position
partner_position b = position_after b.terms.variant b.all (other_board b.number)

-- the man that a half-move captures there
abbrev pub captured_there : Board → Move → Option Man
captured_there b m = taken (partner_position b).men m

-- the position with a captured man in the hand of its colour
abbrev pub with_captured : Position → Option Man → Position
with_captured p None = p
with_captured p (Some m) =
    with_hand p m.colour
    (hand_of (λ j. count_in (hand_of_side p m.colour) j + cond (same_kind (handed_kind m) j) 1 0))

-- the board once it has learnt of a half-move on the other one
abbrev pub learnt : Board → Move → Board
learnt b m = record b { all = b.all ++ record { board = other_board b.number; what = m } ∷ [] }
