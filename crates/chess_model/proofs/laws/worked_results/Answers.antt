use Rattle.std.proofs.Common.{refl}
use Rattle.chess_model.specs.Tests.{is_allowed, is_move, is_safe_after, is_king_safe, is_attacked}
use Rattle.chess_model.specs.AllMoves.{allowed_moves, board_moves, drop_moves}
use Rattle.chess_model.specs.Result.{result}
use Rattle.chess_model.proofs.laws.worked_results.Goals as goal

pub returns : goal.returns
unfolding result allowed_moves board_moves drop_moves is_allowed is_move is_safe_after is_king_safe is_attacked
returns c = record {
  start_safe = refl;
  mated = refl;
  stalemated = refl;
  crazyhouse_stalemated = refl;
  bughouse_waits = refl;
  back_rank_mate = refl;
  pawn_no_help = refl;
  knight_helps = refl;
  man_may_come = refl;
  none_helps = refl;
  twenty_moves = refl;
}
