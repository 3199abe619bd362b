use Rattle.std.proofs.Common.{refl}
use Rattle.linked_desk.proofs.KeepsActs.{number-desk_after, players-desk_after}
use Rattle.linked_desk.proofs.KeepsRestored.{players_restored}
use Rattle.linked_desk.proofs.laws.acts_keep_the_players.Goals as goal

pub returns : goal.returns
returns c =
    record {
      number = number-desk_after;
      players = players-desk_after;
      started = λ d serial terms seats moment. refl;
      restored = players_restored;
    }
