use Rattle.std.proofs.Common.{◌≡◌, ◌+◌, ◌++◌, length, map, take}
use Rattle.style12_writer.specs.Board.{square_letter}
use Rattle.style12_writer.proofs.board.put_squares.Given as goal

abbrev pub invariant-loop-square : goal.invariant-loop-square
invariant-loop-square l =
    (l.line ≡ l.initial.line ++ map square_letter (take l.square-index l.squares))
    × (length l.line ≡ length l.initial.line + l.square-index)
