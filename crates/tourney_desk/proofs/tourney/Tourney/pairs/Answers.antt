use Rattle.std.proofs.Common.{length}
use Rattle.tourney_desk.proofs.Fair.{round_fair}
use Rattle.tourney_desk.proofs.tourney.Tourney.pairs.Goals as goal

pub returns-clause-fair : goal.returns-clause-fair
returns-clause-fair c = round_fair (length c.args.self.now.players) c.args.round
