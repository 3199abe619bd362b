-- The position, and who is to move, that a list of half-moves gives.
use Rattle.std.specs.Prelude.{nat_eq}
use Rattle.std.proofs.lemmas.Bool.{eq-eqb}
use Rattle.std.proofs.Common.{◌≡◌, ℕ, true, List, [], ◌∷◌, map, refl, ap, ◌∙◌}
use Rattle.chess_model.specs.declared.man.Colour.TheVariants.{White}
use Rattle.chess_model.specs.MoveList.{moves_of, side_from}
use Rattle.chess_model.specs.Position.{Position, position_after, Stands}
use Rattle.game_board.specs.declared.played.Played.{Played}
use Rattle.game_board.specs.Board.{Board, half_moves, to_move, position_of}

-- the half-moves of a board are that board's
pub moves_of-half_moves : (number : ℕ) (list : List Played)
    → moves_of number (half_moves number list) ≡ map (λ p. p.what) list
moves_of-half_moves number [] = refl
moves_of-half_moves number (p ∷ ps) =
    let same : nat_eq number number ≡ true = eq-eqb number number refl in
    simp (same, moves_of-half_moves number ps)

-- the slow board that stands for the half-moves is the position on the board
pub position_of-stands : (q : Position) (b : Board) → Stands q b.all b.number → q.variant ≡ b.terms.variant
    → q ≡ position_of b
unfolding position_of
position_of-stands q b s e = s.same ∙ ap (λ v. position_after v b.all b.number) e

pub to_move-position_of : (b : Board) → moves_of b.number b.all ≡ map (λ p. p.what) b.list
    → (position_of b).to_move ≡ to_move b
unfolding position_of
to_move-position_of b own = ap (side_from White) own

pub to_move-stands : (q : Position) (b : Board) → Stands q b.all b.number → q.variant ≡ b.terms.variant
    → moves_of b.number b.all ≡ map (λ p. p.what) b.list → q.to_move ≡ to_move b
to_move-stands q b s e own = ap (λ (p : Position). p.to_move) (position_of-stands q b s e) ∙ to_move-position_of b own
