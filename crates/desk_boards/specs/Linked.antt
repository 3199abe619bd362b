-- Two boards of a pair, as they are kept: what is played on one of them the other has learnt of.
use Rattle.std.specs.Prelude.{◌≡◌, ◌+◌, length}
use Rattle.chess_model.specs.declared.variant.Variant.TheVariants.{Bughouse}
use Rattle.game_board.specs.Board.{Board}

pub record AreLinked (one another : Board) : Type 0 where
  -- they are the boards 1 and 2 of a game of bughouse, on the same terms
  pub pair : one.terms.variant ≡ Bughouse
  pub terms : another.terms ≡ one.terms
  pub numbers : one.number + another.number ≡ 3
  -- both have the half-moves of both, in one order, and no others
  pub together : another.all ≡ one.all
  pub each : length one.all ≡ length one.list + length another.list
