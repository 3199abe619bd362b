use Rattle.desk_boards.proofs.BackSound.{sound_back}
use Rattle.desk_boards.proofs.StaySound.{sound_acked, sound_play, sound_start}
use Rattle.desk_boards.proofs.laws.boards_stay_sound.Goals as goal

pub returns : goal.returns
returns c = record { start = sound_start; play = sound_play; acked = sound_acked; take_back = sound_back }
