-- What the fields of a `PlainBoard` keep.
use Rattle.std.specs.Prelude.{◌≡◌, ◌+◌, ◌≤◌, length}
use Rattle.rules_plain.specs.declared.plain_board.PlainBoard.TheInside.{Inside}
use Rattle.chess_model.specs.Census.{men_on, men_in}

-- 64 squares, and no more men on them and in the two hands than two sets have
pub record IsOneSetEach (b : Inside) : Type 0 where
  pub squares : length b.men ≡ 64
  pub men : men_on b.men + (men_in b.white + men_in b.black) ≤ 32
