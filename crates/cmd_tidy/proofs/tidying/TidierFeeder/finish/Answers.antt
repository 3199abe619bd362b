use Rattle.std.proofs.Common.{◌++◌}
use Rattle.cmd_tidy.proofs.Steps.{given_last}
use Rattle.cmd_tidy.proofs.tidying.TidierFeeder.finish.Goals as goal

pub returns : goal.returns
returns c = λ start taken base tidied.
    c.put_last_games.ensures taken base tidied.games
    (given_last taken c.args.self.now c.self.inside.reader (base ++ c.args.out.now.items) c.self.view_is tidied)
    tidied.text
