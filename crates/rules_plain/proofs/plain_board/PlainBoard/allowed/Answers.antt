use Rattle.std.proofs.lemmas.Bool.Decides.{same_from_decides}
use Rattle.chess_model.specs.Tests.{is_allowed}
use Rattle.chess_model.proofs.TestsDecide.{Decides-allowed}
use Rattle.rules_plain.proofs.plain_board.PlainBoard.allowed.Goals as goal

pub returns-clause-value : goal.returns-clause-value
returns-clause-value c =
    same_from_decides c.is_allowed.result (is_allowed c.args.self.now c.args.m) c.is_allowed.ensures
    (Decides-allowed c.args.self.now c.args.m)
