use Rattle.std.proofs.Common.{Option, IfSome, sym, subst}
use Rattle.clock_ledger.specs.declared.charges.Charge.{Charge}
use Rattle.clock_ledger.specs.Charges.{IsChargeable}
use Rattle.game_board.proofs.LastPlayed.{IsChargeable-next}
use Rattle.game_board.proofs.game_board.GameBoard.make.Goals as goal

pub add-captured-requires-clause-sound : goal.add-captured-requires-clause-sound
add-captured-requires-clause-sound c =
    subst (λ (o : Option Charge). IfSome o IsChargeable) (sym c.next_charge-charge.ensures.value)
    (IsChargeable-next c.args.self.now c.args.moment c.args.stamp c.requires.order c.next_charge-charge.ensures.timely
    c.next_charge-charge.ensures.kept c.requires.stamp)
