use Rattle.std.proofs.Common.{true, ◌≡◌}
use Rattle.lobby_store.proofs.RowsRead.{game_not_replayed}
use Rattle.lobby_store.proofs.reading.game_row.Goals as goal

pub returns-then-not-branch-clause-none : goal.returns-then-not-branch-clause-none
returns-then-not-branch-clause-none c =
    game_not_replayed c.args.game c.args.pair.now c.requires (λ good.
    let yes : c.in_ok-replays.field-0 ≡ true = c.in_ok-replays.ensures.1 good in
    let no = c.if-not-branch.true in
    cc)
