use Rattle.std.proofs.Common.{refl}
use Rattle.chess_model.proofs.laws.worked_examples.Goals as goal

pub returns : goal.returns
returns c = record {
  array_king = refl;
  array_pawn = refl;
  pawn_on_e4 = refl;
  e3_passed = refl;
  d5_empty = refl;
  quiet_bishops = refl;
  castled_rook = refl;
  right_gone = refl;
  right_left = refl;
  queen_as_pawn = refl;
  partner_gets_pawn = refl;
  taker_gets_none = refl;
}
