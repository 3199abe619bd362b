-- The counts of a hand.
use Rattle.std.proofs.Common.{arith, ◌≤◌}
use Rattle.chess_model.specs.declared.man.Kind.{Kind}
use Rattle.chess_model.specs.declared.man.Kind.TheVariants.{Pawn, Knight, Bishop, Rook, Queen, King}
use Rattle.chess_model.specs.declared.hand.Hand.{Hand}
use Rattle.chess_model.specs.Holdings.{count_in}
use Rattle.chess_model.specs.Census.{men_in}

pub count_in-le : (h : Hand) (k : Kind) → count_in h k ≤ men_in h
count_in-le h Pawn = omega arith
count_in-le h Knight = omega arith
count_in-le h Bishop = omega arith
count_in-le h Rook = omega arith
count_in-le h Queen = omega arith
count_in-le h King = omega arith
