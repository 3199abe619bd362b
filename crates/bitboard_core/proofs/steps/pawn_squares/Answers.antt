use Rattle.std.proofs.Common.{ℕ, subst, get_or}
use Rattle.bitboard_core.specs.Strikers.{IsStruckSet}
use Rattle.chess_model.specs.declared.man.Kind.TheVariants.{Pawn}
use Rattle.chess_model.specs.declared.man.Colour.TheVariants.{White, Black}
use Rattle.bitboard_core.specs.declared.tables.TheConstants.{WHITE_STRIKES, BLACK_STRIKES}
use Rattle.bitboard_core.proofs.StepLemmas.{white_pawn_set, black_pawn_set}
use Rattle.chess_model.specs.declared.man.Colour.{Colour}
use Rattle.std.proofs.Common.{sym}
use Rattle.bitboard_core.proofs.steps.pawn_squares.Goals as goal

pub returns-in-White : goal.returns-in-White
returns-in-White c P =
    subst (λ (x : Colour). IsStruckSet P x Pawn c.args.s (get_or WHITE_STRIKES c.number.result 0)) (sym c.in-White.is)
    (subst (λ (a : ℕ). IsStruckSet P White Pawn a (get_or WHITE_STRIKES c.number.result 0)) c.number.ensures.value
    (white_pawn_set P c.number.result c.number.ensures.within))

pub returns-in-Black : goal.returns-in-Black
returns-in-Black c P =
    subst (λ (x : Colour). IsStruckSet P x Pawn c.args.s (get_or BLACK_STRIKES c.number-in-Black.result 0))
    (sym c.in-Black.is)
    (subst (λ (a : ℕ). IsStruckSet P Black Pawn a (get_or BLACK_STRIKES c.number-in-Black.result 0))
    c.number-in-Black.ensures.value
    (black_pawn_set P c.number-in-Black.result c.number-in-Black.ensures.within))
