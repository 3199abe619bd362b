use Rattle.linked_desk.proofs.Shelved.{shelved_replays}
use Rattle.linked_desk.proofs.shelf_laws.shelved_games_replay.Goals as goal

pub returns : goal.returns
returns c = shelved_replays
