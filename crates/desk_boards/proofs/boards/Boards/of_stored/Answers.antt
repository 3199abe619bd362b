use Rattle.std.proofs.Common.{◌≡◌, List, Option, sym, subst}
use Rattle.std.specs.Prelude.{◌↔◌, IsSome, IfOk}
use Rattle.game_board.specs.Board.{Board}
use Rattle.game_records.specs.declared.stored_game.Half.{Half}
use Rattle.game_records.specs.Bounds.{IsGame}
use Rattle.game_records.specs.Replays.{AreFour, Replays}
use Rattle.desk_boards.specs.Replaying.{replayed}
use Rattle.desk_boards.proofs.StoredReplays.{replays_where}
use Rattle.desk_boards.proofs.boards.Boards.of_stored.Goals as goal
use Rattle.std.proofs.lemmas.Result.{IfOk-weaker}

pub returns-clause-replays : goal.returns-clause-replays
returns-clause-replays c =
    let game = c.args.game.now in
    let spelled : IsGame game = c.is_game.ensures.0 c.if-not-is_game.false in
    let four : AreFour game.terms.variant game.names =
    subst (AreFour game.terms.variant) c.as_slice.ensures (c.are_four.ensures.0 c.if-not-are_four.false) in
    IfOk-weaker c.replay.result
    (λ (boards : Option (List Board)). boards ≡ replayed game.terms game.halves c.args.moment)
    (λ (boards : Option (List Board)). IsSome boards ↔ Replays game)
    (λ boards same.
    subst (λ (o : Option (List Board)). IsSome o ↔ Replays game) (sym same)
    (replays_where game c.args.moment spelled four))
    (subst (λ (halves : List Half). IfOk c.replay.result (λ boards. boards ≡ replayed game.terms halves c.args.moment))
    c.as_slice-2.ensures c.replay.ensures)
