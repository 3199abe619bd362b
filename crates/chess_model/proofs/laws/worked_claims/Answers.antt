use Rattle.std.proofs.Common.{refl}
use Rattle.chess_model.specs.Tests.{is_allowed, is_move, is_safe_after, is_king_safe, is_attacked}
use Rattle.chess_model.specs.Claims.{same_position, positions_of, is_threefold}
use Rattle.chess_model.proofs.laws.worked_claims.Goals as goal

pub returns : goal.returns
unfolding is_threefold positions_of same_position is_allowed is_move is_safe_after is_king_safe is_attacked
returns c = record {
  twice = refl;
  thrice = refl;
  uncounted = refl;
  counted = refl;
}
