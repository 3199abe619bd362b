use Rattle.std.proofs.Common.{ℕ, subst, get_or}
use Rattle.bitboard_core.specs.Strikers.{IsStruckSet}
use Rattle.chess_model.specs.declared.man.Kind.TheVariants.{Knight}
use Rattle.bitboard_core.specs.declared.tables.TheConstants.{KNIGHT}
use Rattle.bitboard_core.proofs.StepLemmas.{knight_set}
use Rattle.bitboard_core.proofs.steps.knight_squares.Goals as goal

pub returns : goal.returns
returns c P colour =
    subst (λ (a : ℕ). IsStruckSet P colour Knight a (get_or KNIGHT c.number.result 0)) c.number.ensures.value
    (knight_set P colour c.number.result c.number.ensures.within)
