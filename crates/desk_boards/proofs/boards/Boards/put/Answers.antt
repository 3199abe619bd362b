use Rattle.std.specs.Prelude.{slice_get}
use Rattle.fics_words.specs.Boards.{board_place}
use Rattle.desk_boards.proofs.Taken.{own_there, own_allowed, own_room}
use Rattle.desk_boards.proofs.boards.Boards.put.Goals as goal

pub lay-requires-clause-there : goal.lay-requires-clause-there
lay-requires-clause-there c =
    own_there (slice_get c.args.self.now (board_place c.args.board)) c.args.half.now c.requires.takes

pub lay-requires-clause-allowed : goal.lay-requires-clause-allowed
lay-requires-clause-allowed c =
    own_allowed (slice_get c.args.self.now (board_place c.args.board)) c.args.half.now c.requires.takes

pub lay-requires-clause-room : goal.lay-requires-clause-room
lay-requires-clause-room c =
    own_room (slice_get c.args.self.now (board_place c.args.board)) c.args.half.now c.requires.takes
