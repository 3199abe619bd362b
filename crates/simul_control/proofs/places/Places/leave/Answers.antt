use Rattle.std.proofs.Common.{sym, ◌∙◌}
use Rattle.simul_control.proofs.Leaving.{nothing_left}
use Rattle.simul_control.proofs.places.Places.leave.Goals as goal

pub returns-then-not-is_at : goal.returns-then-not-is_at
returns-then-not-is_at c =
    nothing_left c.args.desk c.args.self.now (sym c.is_at.ensures ∙ c.if-not-is_at.true)
