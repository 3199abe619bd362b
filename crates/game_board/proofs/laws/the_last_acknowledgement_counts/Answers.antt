use Rattle.std.proofs.Common.{refl}
use Rattle.game_board.proofs.Acknowledged.{acknowledged-last, acknowledged-other, next_charge-stamped, next_charge-unstamped, next_charge-unseen}
use Rattle.game_board.proofs.laws.the_last_acknowledgement_counts.Goals as goal

pub returns : goal.returns
returns c = record {
  last = acknowledged-last;
  other = acknowledged-other;
  stamped = next_charge-stamped;
  unstamped = next_charge-unstamped;
  unseen = next_charge-unseen;
  cleared = λ b m moment stamp. refl;
}
