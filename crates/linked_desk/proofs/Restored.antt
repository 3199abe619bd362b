-- Boards that were played again are those of a game that begins at that moment.
use Rattle.std.proofs.Common.{◌≡◌, ◌≤◌, ℕ, List, [], ◌∷◌, map, All, Some, arith}
use Rattle.std.proofs.lemmas.List.Elements.{All-head, All-tail}
use Rattle.game_board.specs.Board.{Board}
use Rattle.game_records.specs.declared.stored_game.StoredGame.{StoredGame}
use Rattle.game_records.specs.Replays.{Replays}
use Rattle.desk_boards.specs.Boards.{board_numbers, latest}
use Rattle.desk_boards.specs.Laws.{IsFreshlyPut}
use Rattle.desk_boards.specs.Replaying.{replayed}
use Rattle.desk_boards.proofs.Replayed.{replayed_at, replayed_fresh}

latest_at : (boards : List Board) (moment : ℕ) → All (IsFreshlyPut moment) boards → latest boards ≤ moment
latest_at [] moment all = omega arith
latest_at (b ∷ boards) moment all =
    let here = All-head (IsFreshlyPut moment) b boards all in
    let rest = latest_at boards moment (All-tail (IsFreshlyPut moment) b boards all) in
    omega (arith, here.begin, rest)

pub order_replayed : (g : StoredGame) (moment : ℕ) (boards : List Board) → Replays g
    → replayed g.terms g.halves moment ≡ Some boards → latest boards ≤ moment
order_replayed g moment boards r is =
    latest_at boards moment (replayed_fresh g.terms g.halves moment boards r.spelled.halves.each is)

pub numbers_replayed : (g : StoredGame) (moment : ℕ) (boards : List Board) → Replays g
    → replayed g.terms g.halves moment ≡ Some boards →
    map (λ (b : Board). b.number) boards ≡ board_numbers g.terms.variant
numbers_replayed g moment boards r is =
    (replayed_at g.terms g.halves moment boards r.spelled.halves.each is).sound.numbers
