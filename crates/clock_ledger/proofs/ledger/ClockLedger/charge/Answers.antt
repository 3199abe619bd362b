use Rattle.std.proofs.Common.{length, ap, arith}
use Rattle.clock_ledger.specs.Clock.{Ledger}
use Rattle.clock_ledger.proofs.Sums.{SumsUp-le}
use Rattle.clock_ledger.proofs.ledger.ClockLedger.charge.Goals as goal

pub overflow_add-self : goal.overflow_add-self
overflow_add-self c =
    let charges = ap (λ (l : Ledger). length l.charges) c.self.view_is in
    omega (arith, SumsUp-le _ _ c.self.invariant, charges)
