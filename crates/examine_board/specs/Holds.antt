-- What the fields of every exam keep.
use Rattle.std.specs.Prelude.{◌≡◌, ◌*◌, ◌≤◌, ◌++◌, length, take}
use Rattle.game_records.specs.Bounds as bounds
use Rattle.examine_board.specs.declared.exam.Exam.TheInside.{Inside}
use Rattle.examine_board.specs.Exam.{boards_of_halves}
use Rattle.examine_board.specs.Laid.{CanBeLaid}

pub record HoldsExam (e : Inside) : Type 0 where
  -- as many half-moves are looked at of the stored game as it has, or fewer; it has at most those of two boards
  pub shared : e.shared ≤ length e.stored
  pub few : length e.stored ≤ 2400
  -- as many are on the boards as are looked at, or fewer, and the boards are those of these half-moves
  pub point : e.point ≤ length (take e.shared e.stored ++ e.branch)
  pub boards : e.boards ≡ boards_of_halves e.terms (take e.point (take e.shared e.stored ++ e.branch))
  -- the half-moves of the stored game can be laid, and so can those that are looked at
  pub stored : CanBeLaid e.terms e.stored
  pub list : CanBeLaid e.terms (take e.shared e.stored ++ e.branch)
  -- two players sit at each board
  pub names : length e.names ≡ 2 * bounds.boards e.terms.variant
