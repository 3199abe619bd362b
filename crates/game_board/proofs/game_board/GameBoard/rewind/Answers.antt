use Rattle.std.proofs.Common.{[], ap, ◌∙◌}
use Rattle.clock_ledger.specs.Clock.{Ledger}
use Rattle.fics_words.specs.Boards.{board_number}
use Rattle.game_board.proofs.AtStart.{HoldsBoard-at_start}
use Rattle.game_board.proofs.game_board.GameBoard.rewind.Goals as goal

pub invariant_of-self : goal.invariant_of-self
invariant_of-self c =
    let i = c.self.inside in
    HoldsBoard-at_start i.number i.terms c.start-self-inside.result c.truncate.new.self c.truncate-2.new.self
    c.take_all_off.new.clock c.take_all_off-2.new.clock i.begin c.truncate-3.new.self
    c.start-self-inside.ensures.variant
    (c.start-self-inside.ensures.stands (board_number i.number)) c.truncate.ensures c.truncate-2.ensures
    (c.take_all_off.ensures ∙ ap (λ (l : Ledger). record l { charges = [] }) c.self.invariant.white)
    (c.take_all_off-2.ensures ∙ ap (λ (l : Ledger). record l { charges = [] }) c.self.invariant.black)
    c.truncate-3.ensures
