use Rattle.game_records.proofs.ReadBack.{one_spelled}
use Rattle.game_records.proofs.KeysBack.{one_game}
use Rattle.game_records.proofs.laws.one_record.Goals as goal

pub returns-clause-records : goal.returns-clause-records
returns-clause-records c = one_spelled

pub returns-clause-games : goal.returns-clause-games
returns-clause-games c = one_game
