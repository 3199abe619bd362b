use Rattle.chess_model.proofs.StandsAfter.{Stands-next}
use Rattle.rules_plain.proofs.plain_board.PlainBoard.after.Goals as goal

pub returns-clause-stands : goal.returns-clause-stands
returns-clause-stands c T b h = rw c.next.ensures (Stands-next c.args.self.now T b c.args.m c.requires h)
