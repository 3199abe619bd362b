use Rattle.chess_model.proofs.TestsDecide.{Decides-attacked, Decides-king_safe, Decides-move, Decides-safe_after, Decides-allowed}
use Rattle.chess_model.proofs.laws.tests_say_the_rules.Goals as goal

pub returns : goal.returns
returns c = record {
  attacked = Decides-attacked;
  king_safe = Decides-king_safe;
  move = Decides-move;
  safe_after = Decides-safe_after;
  allowed = Decides-allowed;
}
