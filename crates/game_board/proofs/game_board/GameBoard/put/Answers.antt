use Rattle.game_board.proofs.Takes.{takes_played-parts}
use Rattle.game_board.proofs.game_board.GameBoard.put.Goals as goal

pub lay-requires-clause-allowed : goal.lay-requires-clause-allowed
lay-requires-clause-allowed c = (takes_played-parts c.args.self.now c.args.half c.requires.takes).allowed

pub lay-requires-clause-room : goal.lay-requires-clause-room
lay-requires-clause-room c = (takes_played-parts c.args.self.now c.args.half c.requires.takes).room
