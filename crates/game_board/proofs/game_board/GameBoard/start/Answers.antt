use Rattle.fics_words.specs.Boards.{board_number}
use Rattle.game_board.proofs.AtStart.{HoldsBoard-at_start}
use Rattle.game_board.proofs.game_board.GameBoard.start.Goals as goal

pub invariant_of-result : goal.invariant_of-result
invariant_of-result c =
    HoldsBoard-at_start c.args.number c.args.terms c.start.result c.in_ok-new.field-0 c.in_ok-new-2.field-0
    c.in_ok-start.field-0 c.in_ok-start-2.field-0 c.args.moment c.in_ok-new-3.field-0
    c.start.ensures.variant (c.start.ensures.stands (board_number c.args.number)) c.in_ok-new.ensures
    c.in_ok-new-2.ensures c.in_ok-start.ensures c.in_ok-start-2.ensures
    c.in_ok-new-3.ensures
