use Rattle.lobby_shelf.proofs.Meaning.{requests-stand}
use Rattle.lobby_shelf.proofs.laws.requests_stand.Goals as goal

pub returns : goal.returns
returns c = requests-stand c.args.shelf.now
