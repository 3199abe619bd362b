use Rattle.std.proofs.Common.{subst}
use Rattle.chess_model.specs.declared.man.Colour.{Colour}
use Rattle.chess_model.specs.declared.man.Kind.TheVariants.{Pawn}
use Rattle.chess_model.specs.Placement.{opposite}
use Rattle.bitboard_core.specs.Strikers.{IsStruckSet}
use Rattle.bitboard_core.proofs.StrikerLemmas.{strikers_found}
use Rattle.bitboard_core.proofs.sides.strikers.Goals as goal

pub returns : goal.returns
returns c P men all =
    let other = opposite c.args.by in
    let pawns =
    subst (λ (x : Colour). IsStruckSet P x Pawn c.args.s c.pawn_squares.result) c.opposite.ensures
    (c.pawn_squares.ensures P) in
    strikers_found P c.args.by c.args.s c.pawn_squares.result c.knight_squares.result c.king_squares.result
    c.bishop_squares.result c.rook_squares.result c.args.side.now men pawns (c.knight_squares.ensures P other)
    (c.king_squares.ensures P other) (c.bishop_squares.ensures P other all) (c.rook_squares.ensures P other all)
