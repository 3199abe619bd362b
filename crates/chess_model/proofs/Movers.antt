-- What the other board leaves alone, whose half-move is whose, and where the homes are.
use Rattle.std.proofs.Common.{arith, ◌≡◌, ℕ, ◌%◌, ◌<◌, suc, zero, List, [], ◌∷◌, true, false, length, min, slice_index_or, refl, ap, ◌∙◌}
use Rattle.chess_model.specs.declared.man.Colour.{Colour}
use Rattle.chess_model.specs.declared.man.Colour.TheVariants.{White, Black}
use Rattle.chess_model.specs.declared.moves.Move.{Move}
use Rattle.chess_model.specs.declared.variant.Variant.{Variant}
use Rattle.chess_model.specs.Squares.{rank_of}
use Rattle.chess_model.specs.Placement.{Placement, opposite, home_rank, array_of, king_home, rook_home}
use Rattle.chess_model.specs.MoveList.{Ply, moves_of, settings, place_after, place_from, side_from}
use Rattle.chess_model.specs.RightsAndCounts.{rights_after, en_passant_after, quiet_count}
use Rattle.chess_model.specs.LegalPositions.{OtherBoardStays, ColoursAlternate, HomesAreInTheArray}
use Rattle.chess_model.proofs.Arrays.{kings_home, rooks_home}
use Rattle.chess_model.proofs.HomeRanks.{files_of}
use Rattle.chess_model.proofs.MoreMoves.{moves_of-other}
use Rattle.chess_model.proofs.ChessLaws.{opposite-opposite}

pub other_board_stays : OtherBoardStays
other_board_stays v T h b differ =
    let same = moves_of-other h.board b T h.what differ in
    record {
      men = ap (place_from v (array_of v) White) same;
      to_move = ap (side_from White) same;
      en_passant = ap (λ (ms : List Move). en_passant_after (settings v (array_of v) White ms)) same;
      rights = ap (λ (ms : List Move). rights_after v (settings v (array_of v) White ms)) same;
      quiet = ap (λ (ms : List Move). min (quiet_count (settings v (array_of v) White ms)) 65535) same;
    }

-- whose the k-th half-move is where c begins
record HasTurn (c : Colour) (k : ℕ) (x : Ply) : Type 0 where
  even : k % 2 ≡ 0 → x.by ≡ c
  odd : k % 2 ≡ 1 → x.by ≡ opposite c

mover_at : (v : Variant) (P : Placement) (c : Colour) (ms : List Move) (k : ℕ) (x : Ply)
    → k < length (settings v P c ms) →
    HasTurn c k (slice_index_or (settings v P c ms) k x)
mover_at v P c [] k x h = absurd (omega arith)
mover_at v P c (m ∷ ms) zero x h = record { even = λ e. refl; odd = λ e. absurd (omega (arith, e)) }
mover_at v P c (m ∷ ms) (suc k) x h =
    let t = mover_at v (place_after v P c m) (opposite c) ms k x (omega arith) in
    record {
      even = λ e. t.odd (omega (arith, e)) ∙ opposite-opposite c;
      odd = λ e. t.even (omega (arith, e));
    }

pub colours_alternate : ColoursAlternate
colours_alternate = record {
  even = λ v T b k x h e. (mover_at v (array_of v) White (moves_of b T) k x h).even e;
  odd = λ v T b k x h e. (mover_at v (array_of v) White (moves_of b T) k x h).odd e;
}

homes_order : (v : Variant) (c : Colour) → (rook_home v c true < king_home v c) × (king_home v c < rook_home v c false)
homes_order v c = let f = files_of v in (omega (arith, f.long_rook), omega (arith, f.short_rook))

home_is_on_rank : (v : Variant) (c : Colour) → rank_of (king_home v c) ≡ home_rank c
home_is_on_rank v White = let f = files_of v in omega (arith, f.short_rook, f.most)
home_is_on_rank v Black = let f = files_of v in omega (arith, f.short_rook, f.most)

pub homes_in_array : HomesAreInTheArray
homes_in_array = record { king = kings_home; rook = rooks_home; order = homes_order; rank = home_is_on_rank }
