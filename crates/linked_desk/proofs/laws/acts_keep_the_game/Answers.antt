use Rattle.linked_desk.proofs.KeepsActs.{sound-desk_after, sound-desk_answer}
use Rattle.linked_desk.proofs.KeepsRestored.{sound_restored}
use Rattle.linked_desk.proofs.KeepsStart.{IsSound-opened}
use Rattle.linked_desk.proofs.laws.acts_keep_the_game.Goals as goal

pub returns : goal.returns
returns c = record {
  started = λ d. IsSound-opened d.number;
  restored = sound_restored;
  game = sound-desk_after;
  answers = sound-desk_answer;
}
