-- The terms that a game of this server can have. The bounds are this server's own; the arrays of Fischer random have
-- their numbers from 0 to 959.
use Rattle.std.specs.Prelude.{◌≤◌}
use Rattle.chess_model.specs.Limits.{most_time}
use Rattle.chess_model.specs.VariantWord.{IsNumbered}
use Rattle.chess_model.specs.declared.variant.Terms.{Terms}

-- at most ten hours at the start, at most ten minutes for a half-move, and an array of Fischer random that there is
pub record AreTerms (terms : Terms) : Type 0 where
  pub minutes : terms.minutes ≤ most_time
  pub increment : terms.increment ≤ most_time
  pub numbered : IsNumbered terms.variant
