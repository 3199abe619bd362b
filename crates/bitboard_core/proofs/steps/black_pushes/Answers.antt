use Rattle.std.proofs.Common.{ℕ, subst, get_or, w64}
use Rattle.std.specs.Int.{bit_not}
use lib.Bits.{bit_and}
use Rattle.chess_model.specs.declared.man.Colour.TheVariants.{Black}
use Rattle.bitboard_core.specs.Strikers.{IsPushSet}
use Rattle.bitboard_core.specs.Rays.{Stays, Falls, IsRaySet}
use Rattle.bitboard_core.specs.declared.tables.TheConstants.{BLACK_AHEAD}
use Rattle.bitboard_core.proofs.StepLemmas.{black_push_set}
use Rattle.std.proofs.Common.{sym}
use Rattle.bitboard_core.proofs.steps.black_pushes.Goals as goal

pub returns : goal.returns
returns c P all =
    let occupied = c.args.occupied in
    subst (λ (a : ℕ).
    IsPushSet P Black a
    (bit_and (bit_and c.south.result (get_or BLACK_AHEAD c.number.result 0)) (bit_not w64 occupied)))
    c.number.ensures.value
    (black_push_set P c.number.result occupied c.south.result c.number.ensures.within c.ranges.occupied.fits all
    (subst (λ (a : ℕ). IsRaySet Stays Falls a occupied c.south.result) (sym c.number.ensures.value) c.south.ensures))
