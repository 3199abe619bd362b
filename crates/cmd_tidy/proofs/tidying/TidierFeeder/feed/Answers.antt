use Rattle.std.proofs.Common.{◌++◌}
use Rattle.cmd_tidy.proofs.Steps.{given_more}
use Rattle.cmd_tidy.proofs.tidying.TidierFeeder.feed.Goals as goal

pub returns : goal.returns
returns c = λ start taken base tidied.
    c.put_games.ensures (taken ++ c.args.piece.now) base tidied.games
    (given_more taken c.args.piece.now c.args.self.now c.self.inside.reader c.feed.new.self
    (base ++ c.args.out.now.items) c.self.view_is (c.in_ok-feed.ensures {u = tt}).fed tidied)
    tidied.text
