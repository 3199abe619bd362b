use Rattle.chess_model.proofs.StandsAfter.{Stands-next}
use Rattle.variant_rules.proofs.position.Position.make.Goals as goal

pub returns-clause-stands : goal.returns-clause-stands
returns-clause-stands c T b h = rw c.advance.ensures (Stands-next c.args.self.now T b c.args.m c.requires h)
