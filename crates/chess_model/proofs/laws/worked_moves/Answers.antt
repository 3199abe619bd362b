use Rattle.std.proofs.Common.{refl}
use Rattle.chess_model.specs.FischerArrays.{numbered_rank}
use Rattle.chess_model.specs.Tests.{is_allowed, is_move, is_safe_after, is_king_safe, is_attacked}
use Rattle.chess_model.proofs.laws.worked_moves.Goals as goal

pub returns : goal.returns
unfolding numbered_rank is_allowed is_move is_safe_after is_king_safe is_attacked
returns c = record {
  pinned = refl;
  steps_aside = refl;
  passing_pinned = refl;
  passing_free = refl;
  through_check = refl;
  out_of_check = refl;
  rook_attacked = refl;
  long_past_b1 = refl;
  long_past_d1 = refl;
  black_castles = refl;
  black_rook = refl;
  exchange = refl;
  in_the_way = refl;
  on_g = refl;
  king_stays = refl;
  rook_comes = refl;
  unmasked = refl;
  not_unmasked = refl;
  to_queen = refl;
  to_king = refl;
  to_nothing = refl;
}
