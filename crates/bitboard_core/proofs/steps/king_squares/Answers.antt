use Rattle.std.proofs.Common.{ℕ, subst, get_or}
use Rattle.bitboard_core.specs.Strikers.{IsStruckSet}
use Rattle.chess_model.specs.declared.man.Kind.TheVariants.{King}
use Rattle.bitboard_core.specs.declared.tables.TheConstants.{KING}
use Rattle.bitboard_core.proofs.StepLemmas.{king_set}
use Rattle.bitboard_core.proofs.steps.king_squares.Goals as goal

pub returns : goal.returns
returns c P colour =
    subst (λ (a : ℕ). IsStruckSet P colour King a (get_or KING c.number.result 0)) c.number.ensures.value
    (king_set P colour c.number.result c.number.ensures.within)
