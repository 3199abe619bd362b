-- What is listed as allowed is allowed.
use Rattle.std.proofs.Common.{◌≡◌, ℕ, ◌<◌, ◌++◌, List, length, get_or, true}
use Rattle.std.specs.Prelude.{All}
use Rattle.std.proofs.lemmas.List.Elements.{All-same, All-get_or, filter_passes}
use Rattle.chess_model.specs.declared.moves.Move.{Move}
use Rattle.chess_model.specs.Position.{Position}
use Rattle.chess_model.specs.Allowed.{Allowed}
use Rattle.chess_model.specs.Tests.{is_allowed}
use Rattle.chess_model.specs.AllMoves.{board_moves, drop_moves, allowed_moves}
use Rattle.chess_model.proofs.TestsDecide.{Decides-allowed}

all_allowed : (p : Position) → All (λ m. is_allowed p m ≡ true) (allowed_moves p)
unfolding allowed_moves
all_allowed p = filter_passes (is_allowed p) (board_moves ++ drop_moves)

pub allowed_at : (p : Position) (ms : List Move) (i : ℕ) (d : Move) → ms ≡ allowed_moves p → i < length ms
    → Allowed p (get_or ms i d)
allowed_at p ms i d same less =
    let passes : All (λ m. is_allowed p m ≡ true) ms =
    All-same (λ m. is_allowed p m ≡ true) ms (allowed_moves p) same (all_allowed p) in
    (Decides-allowed p (get_or ms i d)).0 (All-get_or (λ m. is_allowed p m ≡ true) ms i d less passes)
