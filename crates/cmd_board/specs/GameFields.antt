-- What the fields of a `UntimedGame` keep.
use Rattle.std.specs.Prelude.{◌≡◌}
use Rattle.cmd_board.specs.declared.game.UntimedGame.TheInside.{Inside}
use Rattle.cmd_board.specs.Game.{game_has_ended}

pub record HoldsGame (game : Inside) : Type 0 where
  -- nobody's time runs
  pub begin : game.board.begin ≡ 0
  -- it is kept whether the game has ended
  pub over : game.over ≡ game_has_ended game.board
