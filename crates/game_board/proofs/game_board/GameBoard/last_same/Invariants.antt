use Rattle.std.proofs.Common.{◌≡◌, ℕ, ◌<◌, ◌≤◌}
use Rattle.std.specs.Prelude.{IsTrue}
use Rattle.chess_model.specs.Claims.{same_position}
use Rattle.game_board.specs.Board.{position_of}
use Rattle.game_board.specs.Steps.{position_at}
use Rattle.game_board.proofs.game_board.GameBoard.last_same.Given as goal

abbrev pub invariant-loop-k : goal.invariant-loop-k
invariant-loop-k l = record {
  within : l.k ≤ l.from;
  past : l.past ≡ position_at l.self.terms.variant l.self.number l.self.list l.k;
  none : (j : ℕ) → l.k ≤ j → j < l.from
      → ¬ IsTrue (same_position (position_of l.self) (position_at l.self.terms.variant l.self.number l.self.list j));
}

abbrev pub decreases-loop-k : goal.decreases-loop-k
decreases-loop-k l = l.k
