use Rattle.std.proofs.Common.{◌≡◌}
use Rattle.chess_model.specs.declared.man.Kind.TheVariants.{Pawn, Knight, Bishop, Rook, Queen, King}
use Rattle.bitboard_core.proofs.bits.Bits.reach_of.Goals as goal

pub returns-in-Knight : goal.returns-in-Knight
returns-in-Knight c =
    rw c.in-Knight.is
    (c.without_own.ensures Knight c.args.s (λ e. let bad : Knight ≡ Pawn = e in cc)
    (c.knight_squares.ensures c.args.self.now c.args.c))

pub returns-in-Bishop : goal.returns-in-Bishop
returns-in-Bishop c =
    rw c.in-Bishop.is
    (c.without_own-in-Bishop.ensures Bishop c.args.s (λ e. let bad : Bishop ≡ Pawn = e in cc)
    (c.bishop_squares.ensures c.args.self.now c.args.c c.occupied.ensures))

pub returns-in-Rook : goal.returns-in-Rook
returns-in-Rook c =
    rw c.in-Rook.is
    (c.without_own-in-Rook.ensures Rook c.args.s (λ e. let bad : Rook ≡ Pawn = e in cc)
    (c.rook_squares.ensures c.args.self.now c.args.c c.occupied-in-Rook.ensures))

pub returns-in-Queen : goal.returns-in-Queen
returns-in-Queen c =
    rw c.in-Queen.is
    (c.without_own-in-Queen.ensures Queen c.args.s (λ e. let bad : Queen ≡ Pawn = e in cc)
    (c.queen_squares.ensures c.args.self.now c.args.c c.occupied-in-Queen.ensures))

pub returns-in-King : goal.returns-in-King
returns-in-King c =
    rw c.in-King.is
    (c.without_own-in-King.ensures King c.args.s (λ e. let bad : King ≡ Pawn = e in cc)
    (c.king_squares.ensures c.args.self.now c.args.c))
