use Rattle.std.proofs.Common.{◌≡◌}
use Rattle.game_board.specs.TakeBack.{board_without_last}
use Rattle.game_board.proofs.game_board.GameBoard.take_back.Given as goal

abbrev pub invariant-loop-taken : goal.invariant-loop-taken
invariant-loop-taken l = l.self ≡ board_without_last l.initial.self l._taken
